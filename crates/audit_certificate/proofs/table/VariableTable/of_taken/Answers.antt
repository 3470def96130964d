use Rattle.audit_certificate.specs.Tables.{users_at}
use Rattle.audit_certificate.proofs.AnswerLemmas.{no_users}
use Rattle.audit_certificate.proofs.TakenUsers.{taken_turn}
use Rattle.audit_certificate.proofs.table.VariableTable.of_taken.Goals as goal

pub loop-ranked-init : goal.loop-ranked-init
loop-ranked-init c = no_users (users_at c.new-table.result) c.new-table.ensures

pub loop-ranked-preserved : goal.loop-ranked-preserved
loop-ranked-preserved c =
    taken_turn (users_at c.loop-ranked.table) (users_at c.enter_next.new.self) c.args.ranks.now
    c.loop-ranked.ranked-index c.ranked-item.result c.loop-ranked-test.true c.ranked-item.is
    c.loop-ranked.invariant c.in_ok-enter_next.ensures
