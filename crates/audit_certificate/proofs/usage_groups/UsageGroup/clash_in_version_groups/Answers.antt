use Rattle.audit_certificate.specs.UserViews.{user_view}
use Rattle.audit_certificate.specs.VersionGroups.{members}
use Rattle.audit_certificate.proofs.Members.{among_all}
use Rattle.audit_certificate.proofs.ClashLemmas.{found_in_one, none_in_more, none_in_all}
use Rattle.audit_certificate.proofs.usage_groups.UsageGroup.clash_in_version_groups.Goals as goal

pub first_clash-requires : goal.first_clash-requires
first_clash-requires c = λ y h.
    c.args.self.now.alike y (among_all members c.deref-family-items.result.now c.args.self.now.families.items
    c.loop-family.family-index c.family-item.result y c.deref-family-items.ensures.value c.loop-family-test.true
    c.family-item.is h)

pub loop-family-preserved : goal.loop-family-preserved
loop-family-preserved c =
    none_in_more (user_view c.args.seeker.now.user) members c.deref-family-items.result.now c.loop-family.family-index
    c.family-item.result c.loop-family-test.true c.family-item.is c.loop-family.invariant c.in_default.ensures

pub returns-in-Some : goal.returns-in-Some
returns-in-Some c =
    found_in_one (user_view c.args.seeker.now.user) members c.deref-family-items.result.now
    c.args.self.now.families.items c.loop-family.family-index c.family-item.result (user_view c.in-Some.other)
    c.deref-family-items.ensures.value c.loop-family-test.true c.family-item.is c.in-Some.ensures

pub returns : goal.returns
returns c =
    none_in_all (user_view c.args.seeker.now.user) members c.deref-family-items.result.now
    c.args.self.now.families.items c.loop-family.family-index c.deref-family-items.ensures.value
    c.loop-family-test.false c.loop-family.invariant
