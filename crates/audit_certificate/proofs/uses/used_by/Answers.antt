use Rattle.std.proofs.Common.{map}
use Rattle.modulefile.specs.RecordViews.{record_view}
use Rattle.audit_certificate.specs.RecordUses as uses
use Rattle.audit_certificate.specs.UseViews.{used_view}
use Rattle.audit_certificate.proofs.Seen.{turn}
use Rattle.audit_certificate.proofs.UseLemmas.{used-append}
use Rattle.audit_certificate.proofs.uses.used_by.Goals as goal

pub loop-recorded-preserved : goal.loop-recorded-preserved
loop-recorded-preserved c =
    turn record_view uses.used_by used-append (map used_view c.loop-recorded.used.items)
    (map used_view c.push_use.new.used.items) c.args.records.now c.loop-recorded.recorded-index
    c.recorded-item.result
    c.loop-recorded-test.true c.recorded-item.is c.loop-recorded.invariant c.in_ok-push_use.ensures
