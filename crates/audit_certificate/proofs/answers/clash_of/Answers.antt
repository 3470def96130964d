use Rattle.audit_certificate.specs.Certificates.{selected}
use Rattle.audit_certificate.specs.UserViews.{user_view}
use Rattle.audit_certificate.specs.Tables.{users_at}
use Rattle.audit_certificate.specs.UsingModules.{candidate_in}
use Rattle.audit_certificate.proofs.AnswerLemmas.{is_clash, clashes_with_none}
use Rattle.audit_certificate.proofs.answers.clash_of.Goals as goal

pub returns-in-Some : goal.returns-in-Some
returns-in-Some c = λ ms have all. (
  is_clash (users_at c.args.table.now) (candidate_in c.args.candidate.now) (user_view c.in-Some.users.own)
      (user_view c.in-Some.users.other) c.in_ok-clash_between-in-Some.field-0
      c.in_ok-clash_between-in-Some.ensures.clash c.in-Some.ensures (selected ms) all,
  c.in_ok-clash_between-in-Some.ensures.alike ms have,
)

pub returns : goal.returns
returns c = λ ms have all. clashes_with_none (users_at c.args.table.now) (candidate_in c.args.candidate.now) c.in-None.ensures (selected ms) all
