use Rattle.std.proofs.Common.{◌≡◌}
use Rattle.std.specs.Prelude.{is_ok}
use Rattle.audit_certificate.specs.UseViews.{use_view}
use Rattle.audit_certificate.specs.Users.{ModuleUse}
use Rattle.audit_certificate.specs.UserViews.{user_view}
use Rattle.audit_certificate.specs.VersionGroups.{members}
use Rattle.audit_certificate.proofs.Members.{kept_in_pushed, pushed_in_place}
use Rattle.audit_certificate.proofs.usage_groups.UsageGroup.push.Goals as goal

pub invariant_of-self : goal.invariant_of-self
invariant_of-self c = record {
  alike = kept_in_pushed members (λ (y : ModuleUse). y.used.1 ≡ use_view c.args.self.now.used.now)
      c.args.self.now.families.items c.in-Some.place c.index_mut.result.now c.push.new.self (user_view c.args.user)
      (is_ok c.push.result) c.in-Some.ensures.place c.index_mut.ensures.value c.push.ensures c.args.self.now.alike
      c.requires;
}

pub returns-in-Some : goal.returns-in-Some
returns-in-Some c =
    pushed_in_place c.push.result members c.args.self.now.families.items c.in-Some.place c.index_mut.result.now
    c.push.new.self (user_view c.args.user) c.in-Some.ensures.place c.index_mut.ensures.value c.push.ensures
