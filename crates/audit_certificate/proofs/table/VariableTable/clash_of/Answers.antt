use Rattle.std.proofs.Common.{◌≡◌, List, false, subst}
use Rattle.audit_certificate.specs.Users.{ModuleUse}
use Rattle.audit_certificate.specs.Tables.{users_at}
use Rattle.audit_certificate.specs.UsingModules.{candidate_in}
use Rattle.audit_certificate.proofs.TableLemmas.{some_clash}
use Rattle.audit_certificate.proofs.AnswerLemmas.{use_among, uses_through}
use Rattle.audit_certificate.proofs.table.VariableTable.clash_of.Goals as goal

pub returns-in-Some : goal.returns-in-Some
returns-in-Some c = (
  use_among (candidate_in c.args.candidate.now) c.deref-used-items.result.now c.args.candidate.now.used.items
      c.loop-used.used-index c.used-item.result c.deref-used-items.ensures.value c.loop-used-test.true c.used-item.is
      c.args.candidate.now.exact,
  c.in-Some.ensures.0,
  c.in-Some.ensures.1,
)

pub returns : goal.returns
returns c =
    subst (λ (xs : List ModuleUse). some_clash (users_at c.args.self.now) xs ≡ false)
    (uses_through (candidate_in c.args.candidate.now) c.deref-used-items.result.now c.args.candidate.now.used.items
    c.loop-used.used-index c.deref-used-items.ensures.value c.loop-used-test.false c.args.candidate.now.exact)
    c.loop-used.invariant
