use Rattle.std.proofs.Common.{◌+◌, ap, ◌∙◌}
use Rattle.audit_certificate.proofs.TallyLemmas.{one_counted}
use Rattle.audit_certificate.proofs.tally.Tally.add.Goals as goal

pub returns : goal.returns
returns c =
    one_counted c.args.self.now.counts c.insert.new.self c.args.counted c.in_ok-number.number c.in_ok-insert.ensures.updates
    (c.in_ok-number.ensures ∙ ap (λ x. x + 1) c.count.ensures)
