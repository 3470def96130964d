use Rattle.std.specs.Prelude.{◌≡◌, false, List, []}
use Rattle.std.proofs.Common.{⊎_elim, inl, inr, subst, sym}
use Rattle.std.proofs.lemmas.List.{append-nil}
use Rattle.tcltext.specs.chars.Runs.{Text}
use Rattle.tclrules.specs.Oracle.{Oracle}
use Rattle.tclrules.specs.Derivation.{EvaluationOutcome, World, Eval}
use Rattle.tclrules.specs.Plans.{Completion}
use Rattle.tclrules.specs.Rules.{rule}
use Rattle.tclrules.specs.Meaning.{Setting, EvaluatesTo, with_oracle, plan_of, first}
use Rattle.tclrules.proofs.Outcomes as Laws
use Rattle.tclrules.proofs.Consultations.{same_or_refused, unasked, unrefused, agree, noted, beginnings, repeats}
use Rattle.tclrules.proofs.laws.two_oracles.Goals as goal

-- the same plan for an oracle that reserves the same names
same_plan : (s : Setting) (second : Oracle) (o : EvaluationOutcome Completion) (w : World)
    → second.reserved ≡ s.oracle.reserved → EvaluatesTo (with_oracle second s) o w
    → Eval false second s.limits.commands (rule s.limits.value_bytes)
    (plan_of s.limits s.script s.oracle.reserved s.globals) (first s.trace) o w
same_plan s second o w e d = subst (λ (names : List Text). Eval false second s.limits.commands (rule s.limits.value_bytes) (plan_of s.limits s.script names s.globals) (first s.trace) o w) e d

pub returns-clause-each : goal.returns-clause-each
returns-clause-each c = λ s second o o2 w w2 d e h d2.
    let d3 = same_plan s second o2 w2 e d2 in
    ⊎_elim (λ i. inl (Laws.one_outcome d3 i)) (λ i. inr (i.0, (Laws.one_outcome d3 i.2).0)) (same_or_refused second d h)

pub returns-clause-unasked : goal.returns-clause-unasked
returns-clause-unasked c = λ s second o o2 w w2 d a n h d2.
    let d3 = same_plan s second o2 w2 h.0 d2 in
    ⊎_elim (λ i. inl (Laws.one_outcome d3 i)) (λ i. inr (i.0, (Laws.one_outcome d3 i.2).0)) (same_or_refused second d (agree second h d (unasked d a) (unrefused d n)))

pub returns-clause-asked : goal.returns-clause-asked
returns-clause-asked c = λ s second o o2 w w2 d r n h d2.
    let d3 = same_plan s second o2 w2 h.0 d2 in
    ⊎_elim (λ i. inl (Laws.one_outcome d3 i)) (λ i. inr (i.0, (Laws.one_outcome d3 i.2).0))
    (same_or_refused second d (repeats second w.trace h r d
    (noted d w.trace.asked [] (sym (append-nil w.trace.asked)))
    (beginnings d w.trace.records [] (sym (append-nil w.trace.records)))
    (unrefused d n)))
