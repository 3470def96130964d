use Rattle.std.proofs.Common.{◌&&◌, bytes_eq, ◌∙◌, rules, tests}
use Rattle.std.proofs.lemmas.Iterator.Search.{any_from_yields_List}
use Rattle.std.proofs.lemmas.Iterator.{YieldsList-from_slice}
use Rattle.modulefile.specs.CallViews.{is_unsupported}
use Rattle.modulefile.specs.declared.commands.Command.{Command}
use Rattle.modulefile.proofs.commands.is_unsupported_command.Goals as goal

pub returns : goal.returns
returns c =
    any_from_yields_List (λ (x : Command). is_unsupported x.form && bytes_eq c.args.name.now x.name.now) _ _
    c.any.result c.any.ensures.ran (YieldsList-from_slice c.commands.result.now cc)
    (λ x b q k. search (rules, tests))
    ∙ c.commands.ensures.unsupported c.args.name.now
