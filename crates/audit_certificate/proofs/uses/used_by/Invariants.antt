use Rattle.std.proofs.Common.{◌≡◌, map, take}
use Rattle.modulefile.specs.RecordViews.{record_view}
use Rattle.audit_certificate.specs.RecordUses as uses
use Rattle.audit_certificate.specs.UseViews.{used_view}
use Rattle.audit_certificate.proofs.uses.used_by.Given as goal

abbrev pub invariant-loop-recorded : goal.invariant-loop-recorded
invariant-loop-recorded l = map used_view l.used.items ≡ uses.used_by (map record_view (take l.recorded-index l.records))
