use Rattle.std.proofs.Common.{map, take}
use Rattle.port_rewriting.specs.AskingViews.{AreKnown}
use Rattle.port_rewriting.specs.RecordViews.{shown}
use Rattle.port_rewriting.proofs.symbols.all_known.Given as goal

abbrev pub invariant-loop-word : goal.invariant-loop-word
invariant-loop-word l = AreKnown (take l.word-index l.words) (map shown l.known.items)
