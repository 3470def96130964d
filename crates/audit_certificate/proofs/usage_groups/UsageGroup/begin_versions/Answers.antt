use Rattle.std.proofs.Common.{◌≡◌}
use Rattle.std.specs.Prelude.{is_ok}
use Rattle.audit_certificate.specs.UseViews.{use_view}
use Rattle.audit_certificate.specs.Users.{ModuleUse}
use Rattle.audit_certificate.specs.UserViews.{user_view}
use Rattle.audit_certificate.specs.VersionGroups.{members}
use Rattle.audit_certificate.proofs.Members.{kept_by_list, one_of_list, just_one}
use Rattle.audit_certificate.proofs.usage_groups.UsageGroup.begin_versions.Goals as goal

pub invariant_of-self : goal.invariant_of-self
invariant_of-self c = record {
  alike = kept_by_list members (λ (y : ModuleUse). y.used.1 ≡ use_view c.args.self.now.used.now)
      c.args.self.now.families.items c.push.new.self.items c.in_ok-family.family (user_view c.args.user)
      (is_ok c.push.result) c.push.ensures.items c.in_ok-family.ensures c.args.self.now.alike c.requires;
}

pub invariant_of-self-2 : goal.invariant_of-self-2
invariant_of-self-2 c = record {
  alike = kept_by_list members (λ (y : ModuleUse). y.used.1 ≡ use_view c.args.self.now.used.now)
      c.args.self.now.families.items c.push.new.self.items c.in_ok-family.family (user_view c.args.user)
      (is_ok c.push.result) c.push.ensures.items c.in_ok-family.ensures c.args.self.now.alike c.requires;
}

pub returns : goal.returns
returns c =
    one_of_list members c.args.self.now.families.items c.push.new.self.items c.in_ok-family.family (user_view c.args.user) c.in_ok-push.ensures.items
    (just_one (members c.in_ok-family.family) (user_view c.args.user) c.in_ok-family.ensures)
