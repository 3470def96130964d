use Rattle.std.proofs.Common.{sym, ◌∙◌}
use Rattle.modaudit.proofs.command.trying.dry_run_of.Goals as goal

pub returns-clause-tried : goal.returns-clause-tried
returns-clause-tried g c = λ files listings k. (
  sym c.is_tried.ensures ∙ c.if-not-is_tried.false,
  rw (c.as_str.ensures.value, c.as_str-2.ensures.value) at (c.in_ok-dry_run.ensures.tried files listings k),
)

pub returns-clause-failed : goal.returns-clause-failed
returns-clause-failed g c = rw (c.as_str.ensures.value, c.as_str-2.ensures.value) at c.in_ok-dry_run.ensures.failed
