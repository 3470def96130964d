use Rattle.std.proofs.Common.{sym, ◌∙◌}
use Rattle.audit_certificate.specs.UseViews.{use_view}
use Rattle.audit_certificate.specs.UserViews.{user_view}
use Rattle.audit_certificate.specs.VersionGroups.{all_members}
use Rattle.audit_certificate.proofs.ClashLemmas.{way_passed_over}
use Rattle.audit_certificate.proofs.usage_groups.UsageGroup.first_clash.Goals as goal

pub returns-then-are_compatible : goal.returns-then-are_compatible
returns-then-are_compatible c =
    way_passed_over (user_view c.args.seeker.now.user) (use_view c.args.self.now.used.now) (all_members c.args.self.now.families.items)
    (sym c.are_compatible.ensures ∙ c.if-are_compatible.true) c.args.self.now.alike
