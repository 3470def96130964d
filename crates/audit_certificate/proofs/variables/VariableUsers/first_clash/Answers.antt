use Rattle.audit_certificate.specs.UserViews.{user_view}
use Rattle.audit_certificate.specs.VersionGroups.{all_members}
use Rattle.audit_certificate.specs.declared.usage_groups.UsageGroup.{UsageGroup}
use Rattle.audit_certificate.proofs.ClashLemmas.{found_in_one, none_in_more, none_in_all}
use Rattle.audit_certificate.proofs.variables.VariableUsers.first_clash.Goals as goal

pub loop-way-preserved : goal.loop-way-preserved
loop-way-preserved c =
    none_in_more (user_view c.args.seeker.now.user) (λ (way : UsageGroup). all_members way.families.items)
    c.deref-way-items.result.now c.loop-way.way-index c.way-item.result c.loop-way-test.true c.way-item.is
    c.loop-way.invariant c.in_default.ensures

pub returns-in-Some : goal.returns-in-Some
returns-in-Some c =
    found_in_one (user_view c.args.seeker.now.user) (λ (way : UsageGroup). all_members way.families.items)
    c.deref-way-items.result.now c.args.self.now.ways.items c.loop-way.way-index c.way-item.result
    (user_view c.in-Some.other) c.deref-way-items.ensures.value c.loop-way-test.true c.way-item.is c.in-Some.ensures

pub returns : goal.returns
returns c =
    none_in_all (user_view c.args.seeker.now.user) (λ (way : UsageGroup). all_members way.families.items)
    c.deref-way-items.result.now c.args.self.now.ways.items c.loop-way.way-index c.deref-way-items.ensures.value
    c.loop-way-test.false c.loop-way.invariant
