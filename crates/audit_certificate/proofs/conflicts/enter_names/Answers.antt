use Rattle.audit_certificate.specs.Conflicts.{has_name}
use Rattle.audit_certificate.proofs.ConflictLemmas.{names_turn}
use Rattle.audit_certificate.proofs.conflicts.enter_names.Goals as goal

pub loop-name-preserved : goal.loop-name-preserved
loop-name-preserved c = λ name.
    names_turn name c.loop-name.entered.keys c.insert.new.self.keys c.as_str.result (has_name c.args.entered.now name)
    c.args.names.now c.loop-name.name-index c.name-item.result c.loop-name-test.true c.name-item.is
    c.as_str.ensures.value c.in_ok-insert.ensures.keys (c.loop-name.invariant name)
