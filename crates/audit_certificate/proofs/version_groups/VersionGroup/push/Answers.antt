use Rattle.std.proofs.Common.{◌≡◌}
use Rattle.std.specs.Prelude.{is_ok}
use Rattle.audit_certificate.specs.Users.{ModuleUse, first_part}
use Rattle.audit_certificate.specs.UserViews.{user_view}
use Rattle.audit_certificate.proofs.Members.{kept_by_push}
use Rattle.audit_certificate.proofs.version_groups.VersionGroup.push.Goals as goal

pub invariant_of-self : goal.invariant_of-self
invariant_of-self c = record {
  rooted = kept_by_push user_view (λ (y : ModuleUse). first_part y.owner.name ≡ c.args.self.now.root.now)
      c.args.self.now.users.items c.push.new.self.items c.args.user (is_ok c.push.result) c.push.ensures.items
      c.args.self.now.rooted c.requires;
}
