use Rattle.std.proofs.Common.{bytes_eq, find, ap, ◌∙◌, rules, tests}
use Rattle.std.proofs.lemmas.Iterator.Search.{find_from_yields_List}
use Rattle.std.proofs.lemmas.Iterator.{YieldsList-from_slice}
use Rattle.tclvalue.proofs.SearchLemmas.{find_seen}
use Rattle.modulefile.specs.Calls as calls
use Rattle.modulefile.specs.CallViews.{command_view}
use Rattle.modulefile.specs.declared.commands.Command.{Command}
use Rattle.modulefile.proofs.commands.command_named.Goals as goal

pub returns : goal.returns
returns c =
    find_seen (λ (x : calls.Command). bytes_eq c.args.name.now x.0) command_view c.commands.result.now c.find.result
    (find_from_yields_List (λ (x : Command). bytes_eq c.args.name.now x.name.now) _ _ c.find.result c.find.ensures.ran
    (YieldsList-from_slice c.commands.result.now cc) (λ x b q k. search (rules, tests)))
    ∙ ap (find (λ (x : calls.Command). bytes_eq c.args.name.now x.0)) c.commands.ensures.commands
