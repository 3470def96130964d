use Rattle.std.proofs.Common.{ap, arith, length}
use Rattle.std.specs.Vec.Iter.{into_iter_items}
use Rattle.envvars.proofs.TableLemmas.{write_made}
use Rattle.envvars.proofs.table.make_reserved_changes.Goals as goal

pub loop-change-preserved : goal.loop-change-preserved
loop-change-preserved c = record {
  room = omega (arith, ap length c.in-Some.ensures.steps.0, c.make_reserved_change.ensures.room, c.loop-change.invariant.room);
  made = λ base. write_made base c.loop-change.table c.make_reserved_change.new.table
      (into_iter_items c.loop-change.change-iterator) (into_iter_items c.next.new.self) c.in-Some.change _
      c.in-Some.ensures.steps.0 c.make_reserved_change.ensures.written (c.loop-change.invariant.made base);
}
