use Rattle.std.proofs.Common.{◌≡◌, ◌+◌, ◌++◌, ℕ, length, subst}
use Rattle.std.specs.Prelude.{OnOk}
use Rattle.audit_report.specs.Reports.{number_line, sum_line}
use Rattle.audit_report.proofs.report.push_sum.Goals as goal

pub returns : goal.returns
unfolding sum_line
returns c =
    subst (λ (n : ℕ). OnOk c.push_number.result (c.push_number.new.report.items ≡ c.args.report.now.items ++ number_line (n + length c.args.others.now) c.args.word.now))
    c.standing_count.ensures.value c.push_number.ensures
