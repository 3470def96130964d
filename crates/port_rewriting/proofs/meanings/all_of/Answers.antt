use Rattle.std.proofs.Common.{List, ap, ◌∙◌}
use Rattle.std.proofs.lemmas.List.{take_all}
use Rattle.std.specs.Prelude.{flat_map}
use Rattle.tcltext.specs.chars.Runs.{Text}
use Rattle.port_rewriting.specs.RecordViews.{lists_view}
use Rattle.port_rewriting.proofs.meanings.all_of.Goals as goal

pub returns : goal.returns
returns c =
    c.loop-modules.invariant
    ∙ ap (λ ls. flat_map (λ (ts : List Text). ts) (lists_view ls)) (take_all c.loop-modules.modules-index c.args.lists.now c.loop-modules-test.false)
