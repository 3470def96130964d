use Rattle.audit_certificate.proofs.TallyLemmas.{found_count}
use Rattle.audit_certificate.proofs.tally.Tally.count.Goals as goal

pub returns-in-Some : goal.returns-in-Some
returns-in-Some c = found_count c.args.self.now.counts c.args.counted c.in-Some.count.now c.in-Some.ensures.value
