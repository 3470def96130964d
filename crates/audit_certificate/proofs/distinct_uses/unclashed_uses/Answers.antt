use Rattle.std.proofs.Common.{◌≡◌, [], map, rules, ◌∙◌}
use Rattle.std.proofs.lemmas.Slice.Zip.{Zip-more, either_empty_from_Zip}
use Rattle.std.specs.Iterator.Adapters.{zip_first, zip_second}
use Rattle.std.specs.Slice.Iter.{iter_rest}
use Rattle.indexmap.specs.IndexSet.{insert_all}
use Rattle.audit_certificate.specs.Candidates.{uses_of_all}
use Rattle.audit_certificate.specs.ClashAnswers.{without_clash}
use Rattle.audit_certificate.specs.EachOnce.{same_used}
use Rattle.audit_certificate.specs.UsingModules.{candidate_in}
use Rattle.audit_certificate.proofs.OnceLemmas.{unclashed, inserted_once, unclashed_turn, unclashed_end}
use Rattle.audit_certificate.proofs.distinct_uses.unclashed_uses.Goals as goal

pub loop-candidate-init : goal.loop-candidate-init
loop-candidate-init c =
    let it = c.into_iter-candidate-iterator.result in
    let users : iter_rest (zip_first it) ≡ c.args.users.now = search rules in
    let answers : iter_rest (zip_second it) ≡ c.args.answers.now = search rules in (
      [],
      c.new-once.ensures,
      (λ i. insert_all same_used [] (unclashed (map candidate_in (users i)) (answers i))) ∙ inserted_once (unclashed (map candidate_in c.args.users.now) c.args.answers.now),
    )

pub loop-candidate-preserved : goal.loop-candidate-preserved
loop-candidate-preserved c =
    let old = c.loop-candidate.candidate-iterator in
    let new = c.next.new.self in
    let z = Zip-more old new c.next.result (c.in-Some.candidate, c.in-Some.answer) c.in-Some.is c.next.ensures.steps in
    let i = c.loop-candidate.invariant in (
      insert_all same_used i.0 (uses_of_all (without_clash (candidate_in c.in-Some.candidate.now) c.in-Some.answer.now)),
      c.in_ok-add_unclashed.ensures i.0 i.1,
      unclashed_turn candidate_in i.0 _ (iter_rest (zip_first old)) (iter_rest (zip_first new))
          (iter_rest (zip_second old)) (iter_rest (zip_second new)) c.in-Some.candidate.now c.in-Some.answer.now z.0 z.1
          i.2,
    )

pub returns : goal.returns
returns c =
    let it = c.loop-candidate.candidate-iterator in
    let i = c.loop-candidate.invariant in
    i.1.0 ∙ unclashed_end candidate_in i.0 _ (iter_rest (zip_first it)) (iter_rest (zip_second it)) (either_empty_from_Zip it c.next.new.self c.next.result c.in-None.is c.next.ensures.steps) i.2
