use Rattle.std.proofs.Common.{sym, ◌∙◌, Some, None}
use Rattle.std.specs.List.{count_by}
use Rattle.audit_certificate.specs.UserViews.{user_view}
use Rattle.audit_certificate.specs.Conflicts.{has_name}
use Rattle.audit_certificate.specs.Tallies.{is_other_user}
use Rattle.audit_certificate.proofs.TallyLemmas.{competitors_all, competitors_without}
use Rattle.audit_certificate.proofs.tally.Tally.open_competitors.Goals as goal

pub returns-then-not-are_compatible : goal.returns-then-not-are_compatible
returns-then-not-are_compatible c = λ us have.
    competitors_all (user_view c.args.user) (has_name c.args.names.now) us c.in_ok-others.others c.requires (sym c.if-not-are_compatible.ensures)
    (c.in_ok-others.ensures us have ∙ (λ i. count_by (is_other_user (c.variable-variable.ensures i) None (has_name c.args.names.now)) us))

pub returns : goal.returns
returns c = λ us have.
    c.saturating_sub.ensures
    ∙ competitors_without (user_view c.args.user) (has_name c.args.names.now) us c.in_ok-others.others c.in_ok-alike.alike c.requires (sym c.if-not-are_compatible.ensures)
    (c.in_ok-others.ensures us have ∙ (λ i. count_by (is_other_user (c.variable-variable.ensures i) None (has_name c.args.names.now)) us))
    (c.in_ok-alike.ensures us have ∙ (λ i. count_by (is_other_user (c.variable-variable.ensures i) (Some (c.key_of.ensures i)) (has_name c.args.names.now)) us))
