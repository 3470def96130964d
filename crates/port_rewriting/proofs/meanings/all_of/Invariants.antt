use Rattle.std.proofs.Common.{◌≡◌, List, take}
use Rattle.std.specs.Prelude.{flat_map}
use Rattle.tcltext.specs.chars.Runs.{Text}
use Rattle.port_rewriting.specs.RecordViews.{lists_view, texts_in}
use Rattle.port_rewriting.proofs.meanings.all_of.Given as goal

abbrev pub invariant-loop-modules : goal.invariant-loop-modules
invariant-loop-modules l = texts_in l.all ≡ flat_map (λ (ts : List Text). ts) (lists_view (take l.modules-index l.lists))
