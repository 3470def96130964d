use Rattle.std.proofs.Common.{◌∙◌, string_bytes}
use Rattle.module_subcommands.proofs.SiteLemmas.{of_no_text, of_text}
use Rattle.module_subcommands.proofs.given.text_of.Goals as goal

pub returns-in_ok-from_str-in-Ok : goal.returns-in_ok-from_str-in-Ok
returns-in_ok-from_str-in-Ok c =
    of_text c.args.bytes.now (string_bytes c.in_ok-from_str-in-Ok.field-0)
    (c.in_ok-from_str-in-Ok.ensures.ok ∙ c.in-Ok.ensures.cases.0) c.in-Ok.ensures.cases.1

pub returns-in-Err : goal.returns-in-Err
returns-in-Err c = of_no_text c.args.bytes.now c.in-Err.ensures.cases.0
