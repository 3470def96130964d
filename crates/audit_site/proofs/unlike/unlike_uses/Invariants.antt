use Rattle.std.proofs.Common.{◌≡◌, true, map, take}
use Rattle.std.specs.List.{list_all}
use Rattle.audit_certificate.specs.UseViews.{used_view}
use Rattle.audit_site.proofs.StandingLemmas.{suits}
use Rattle.audit_site.proofs.unlike.unlike_uses.Given as goal

abbrev pub invariant-loop-one : goal.invariant-loop-one
invariant-loop-one l = list_all (suits (map used_view l.used)) (map used_view (take l.one-index l.used)) ≡ true
