use Rattle.std.proofs.Common.{map, take, subst}
use Rattle.indexmap.specs.IndexSet.{insert_all}
use Rattle.audit_certificate.specs.UseViews.{used_view}
use Rattle.audit_certificate.specs.EachOnce.{same_used}
use Rattle.audit_certificate.specs.UseKeys.{HasUses}
use Rattle.audit_certificate.proofs.OnceLemmas.{inserted_turn}
use Rattle.audit_certificate.proofs.distinct_uses.DistinctUses.add_all.Goals as goal

pub loop-used-preserved : goal.loop-used-preserved
loop-used-preserved c = λ ps h.
    subst (HasUses c.add.new.self) (inserted_turn used_view ps c.args.all_used.now c.loop-used.used-index c.used-item.result c.loop-used-test.true c.used-item.is)
    (c.in_ok-add.ensures (insert_all same_used ps (map used_view (take c.loop-used.used-index c.args.all_used.now))) (c.loop-used.invariant ps h))
