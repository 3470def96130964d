use Rattle.std.proofs.Common.{refl}
use Rattle.audit_certificate.specs.UserViews.{user_view}
use Rattle.audit_certificate.specs.VersionGroups.{members}
use Rattle.audit_certificate.proofs.Members.{among_all}
use Rattle.audit_certificate.proofs.ClashLemmas.{some_in_one}
use Rattle.audit_certificate.proofs.usage_groups.UsageGroup.clash_in_own_versions.Goals as goal

pub first_clash-requires : goal.first_clash-requires
first_clash-requires c = λ y h.
    c.args.self.now.alike y (among_all members c.args.self.now.families.items c.args.self.now.families.items
    c.in_ok-place.place c.index.result.now y refl c.in_ok-place.ensures.place c.index.ensures h)

pub returns : goal.returns
returns c =
    some_in_one user_view c.first_clash.result (user_view c.args.seeker.now.user) members c.args.self.now.families.items
    c.in_ok-place.place c.index.result.now c.in_ok-place.ensures.place c.index.ensures c.first_clash.ensures
