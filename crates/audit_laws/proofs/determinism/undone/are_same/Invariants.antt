use Rattle.std.proofs.Common.{◌≡◌, map, length}
use Rattle.std.specs.Iterator.Adapters.{zip_first, zip_second}
use Rattle.std.specs.Slice.Iter.{iter_rest}
use Rattle.audit_laws.specs.determinism.Contexts.{same_by, same_record}
use Rattle.audit_laws.specs.determinism.ContextViews.{undone_view}
use Rattle.audit_laws.proofs.determinism.undone.are_same.Given as goal

-- the rests are as both are
abbrev pub invariant-loop-seen : goal.invariant-loop-seen
invariant-loop-seen l = record {
  same : same_by same_record (map undone_view (iter_rest (zip_first l.seen-iterator))) (map undone_view (iter_rest (zip_second l.seen-iterator)))
      ≡ same_by same_record (map undone_view l.one) (map undone_view l.other);
  long : length (iter_rest (zip_first l.seen-iterator)) ≡ length (iter_rest (zip_second l.seen-iterator));
}
