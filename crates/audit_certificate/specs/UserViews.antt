-- The users of variables in the code, as the definitions see them (own).
use Rattle.audit_certificate.specs.CandidateViews.{candidate_view}
use Rattle.audit_certificate.specs.UseViews.{used_view}
use Rattle.audit_certificate.specs.Users.{ModuleUse}
use Rattle.audit_certificate.specs.declared.users.User.{User}
use Rattle.audit_certificate.specs.declared.users.ClashingUsers.{ClashingUsers}

-- a user
abbrev pub user_view : User → ModuleUse
user_view u = record { owner = candidate_view u.owner.now; used = used_view u.used.now }

-- the user, and the other with which it clashes
abbrev pub users_view : ClashingUsers → ModuleUse × ModuleUse
users_view users = (user_view users.own, user_view users.other)
