use Rattle.std.proofs.Common.{◌==◌, length, string_bytes, ap, sym, ◌∙◌}
use Rattle.envvars.specs.Texts.{Text}
use Rattle.module_reports.proofs.descriptions.HelpLemmas.{nothing_said, something_said}
use Rattle.module_reports.proofs.descriptions.helping.said_or.Goals as goal

pub returns-then-is_empty : goal.returns-then-is_empty
returns-then-is_empty c =
    nothing_said (string_bytes c.args.said) (string_bytes c.args.description)
    (sym (ap (λ (t : Text). length t == 0) c.as_str.ensures.value) ∙ sym c.is_empty.ensures ∙ c.if-is_empty.true)

pub returns-else-is_empty : goal.returns-else-is_empty
returns-else-is_empty c =
    something_said (string_bytes c.args.said) (string_bytes c.args.description)
    (sym (ap (λ (t : Text). length t == 0) c.as_str.ensures.value) ∙ sym c.is_empty.ensures ∙ c.if-is_empty.false)
