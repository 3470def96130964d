use Rattle.std.proofs.Common.{sym, ◌∙◌, ap, subst, map, find, List}
use Rattle.audit_certificate.specs.UseViews.{use_view}
use Rattle.audit_certificate.specs.Users.{IsClashAmong, do_users_clash}
use Rattle.audit_certificate.specs.UserViews.{user_view}
use Rattle.audit_certificate.specs.declared.users.User.{User}
use Rattle.audit_certificate.proofs.ClashLemmas.{found_clash, family_passed_over}
use Rattle.audit_certificate.proofs.version_groups.VersionGroup.first_clash.Goals as goal

pub returns-then-not-uses_clash : goal.returns-then-not-uses_clash
returns-then-not-uses_clash c =
    family_passed_over (user_view c.args.seeker.now.user) c.args.self.now.root.now (use_view c.args.way.now) (map user_view c.args.self.now.users.items)
    (sym c.is_mutually_exclusive.ensures ∙ c.if-is_mutually_exclusive.true)
    (sym c.uses_clash.ensures ∙ c.if-not-uses_clash.true) c.args.self.now.rooted c.requires

pub returns : goal.returns
returns c =
    subst (IsClashAmong (user_view c.args.seeker.now.user) (map user_view c.args.self.now.users.items))
    (sym (c.first_clash_among.ensures ∙ ap (λ (users : List User). find (do_users_clash (user_view c.args.seeker.now.user)) (map user_view users)) c.as_slice.ensures.value))
    (found_clash (user_view c.args.seeker.now.user) (map user_view c.args.self.now.users.items))
