use Rattle.std.proofs.Common.{◌+◌, ap, ◌∙◌}
use Rattle.audit_report.proofs.CountLemmas.{one_counted}
use Rattle.audit_report.proofs.conflicts.NameCounts.add.Goals as goal

pub returns : goal.returns
returns c =
    one_counted c.args.self.now.counts c.insert.new.self c.args.name c.in_ok-count.count c.in_ok-insert.ensures.updates
    (c.in_ok-count.ensures ∙ ap (λ x. x + 1) c.count.ensures)
