use Rattle.std.proofs.Common.{map, take}
use Rattle.port_rewriting.specs.Asking.{EachStands}
use Rattle.port_rewriting.specs.AskingViews.{StandsFor}
use Rattle.port_rewriting.specs.RecordViews.{lists_view, shown}
use Rattle.port_rewriting.proofs.reader.Reader.all_asked.Given as goal

abbrev pub invariant-loop-name : goal.invariant-loop-name
invariant-loop-name l = EachStands (StandsFor l.self.given.site) (map shown (take l.name-index l.names)) (lists_view l.lists.items)
