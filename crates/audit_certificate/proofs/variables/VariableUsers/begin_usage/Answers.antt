use Rattle.audit_certificate.specs.UserViews.{user_view}
use Rattle.audit_certificate.specs.VersionGroups.{all_members}
use Rattle.audit_certificate.specs.declared.usage_groups.UsageGroup.{UsageGroup}
use Rattle.audit_certificate.proofs.Members.{one_of_list}
use Rattle.audit_certificate.proofs.variables.VariableUsers.begin_usage.Goals as goal

pub returns : goal.returns
returns c =
    one_of_list (λ (way : UsageGroup). all_members way.families.items) c.args.self.now.ways.items c.push.new.self.items c.in_ok-way.way (user_view c.args.user) c.in_ok-push.ensures.items c.in_ok-way.ensures
