use Rattle.audit_certificate.specs.UserViews.{user_view}
use Rattle.audit_certificate.specs.VersionGroups.{all_members}
use Rattle.audit_certificate.specs.declared.usage_groups.UsageGroup.{UsageGroup}
use Rattle.audit_certificate.proofs.Members.{changed_in_place}
use Rattle.audit_certificate.proofs.variables.VariableUsers.push.Goals as goal

pub returns-in-Some : goal.returns-in-Some
returns-in-Some c =
    changed_in_place c.push.result (λ (way : UsageGroup). all_members way.families.items) c.args.self.now.ways.items
    c.in-Some.place c.index_mut.result.now c.push.new.self (user_view c.args.user) c.in-Some.ensures.place
    c.index_mut.ensures.value c.push.ensures
