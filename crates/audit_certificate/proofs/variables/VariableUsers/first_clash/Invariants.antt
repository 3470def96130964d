use Rattle.std.proofs.Common.{◌≡◌, false, take}
use Rattle.std.specs.List.{list_any}
use Rattle.audit_certificate.specs.Users.{do_users_clash}
use Rattle.audit_certificate.specs.UserViews.{user_view}
use Rattle.audit_certificate.specs.VersionGroups.{all_members}
use Rattle.audit_certificate.proofs.variables.VariableUsers.first_clash.Given as goal

abbrev pub invariant-loop-way : goal.invariant-loop-way
invariant-loop-way l = list_any (λ way. list_any (do_users_clash (user_view l.seeker.user)) (all_members way.families.items)) (take l.way-index l.way-items) ≡ false
