use Rattle.std.proofs.Common.{sym, ◌∙◌, ◌-◌, Some, None}
use Rattle.std.specs.List.{count_by}
use Rattle.std.proofs.lemmas.Result.{IfOk-weaker}
use Rattle.reversal.specs.VariableUses.{Untouched}
use Rattle.audit_certificate.specs.UserViews.{user_view}
use Rattle.audit_certificate.specs.Tallies.{is_user}
use Rattle.audit_certificate.proofs.TallyLemmas.{competitors_open, competitors_of_reader}
use Rattle.audit_certificate.proofs.tally.Tally.competitors_of.Goals as goal

pub returns-then-is_read : goal.returns-then-is_read
returns-then-is_read c = λ us have.
    c.beside_readers.ensures us have
    ∙ ((λ i. count_by (is_user (c.variable-variable.ensures i) None) us - count_by (is_user (c.variable-variable.ensures i) (Some Untouched)) us)
    ∙ competitors_of_reader (user_view c.args.user) us (sym c.is_read.ensures ∙ c.if-is_read.true))

pub returns : goal.returns
returns c = IfOk-weaker c.open_competitors.result _ _ (λ number h us have. competitors_open (user_view c.args.user) us number (sym c.is_read.ensures ∙ c.if-is_read.false) (h us have)) c.open_competitors.ensures
