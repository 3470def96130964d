use Rattle.std.proofs.Common.{◌≡◌, take}
use Rattle.port_rewriting.specs.Meanings.{each_needed}
use Rattle.port_rewriting.specs.RecordViews.{lists_view, records_view}
use Rattle.port_rewriting.proofs.meanings.each_needed.Given as goal

abbrev pub invariant-loop-modules : goal.invariant-loop-modules
invariant-loop-modules l = records_view l.records.items ≡ each_needed (lists_view (take l.modules-index l.lists))
