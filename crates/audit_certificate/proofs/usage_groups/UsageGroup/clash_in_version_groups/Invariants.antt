use Rattle.std.proofs.Common.{◌≡◌, false, take}
use Rattle.std.specs.List.{list_any}
use Rattle.audit_certificate.specs.Users.{do_users_clash}
use Rattle.audit_certificate.specs.UserViews.{user_view}
use Rattle.audit_certificate.specs.VersionGroups.{members}
use Rattle.audit_certificate.proofs.usage_groups.UsageGroup.clash_in_version_groups.Given as goal

abbrev pub invariant-loop-family : goal.invariant-loop-family
invariant-loop-family l = list_any (λ family. list_any (do_users_clash (user_view l.seeker.user)) (members family)) (take l.family-index l.family-items) ≡ false
