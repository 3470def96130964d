-- How the evaluation of a file ends: normally, with an error, or halted.
use Rattle.std.proofs.Common.{◌≡◌, ℕ, false, refl, sym, subst}
use Rattle.tclrules.specs.Oracle.{Oracle}
use Rattle.tclrules.specs.Derivation.{EvaluationOutcome, Ended, Halted, Plan, Ends, World, Eval, ends, runs, halts}
use Rattle.tclrules.specs.Derivation.{lacks_memory}
use Rattle.tclrules.specs.Plans.{Completion, Normal, Raised, Returned, Broken, Continued}
use Rattle.tclrules.specs.Rules.{rule, file_ended}
use Rattle.tclrules.specs.Meaning.{Setting, EvaluatesTo}

abbrev pub IsFileEnd : EvaluationOutcome Completion → Type 0
IsFileEnd (Ended (Normal t s)) = Unit {0}
IsFileEnd (Ended (Raised m s)) = Unit {0}
IsFileEnd (Ended (Returned t s)) = ⊥
IsFileEnd (Ended (Broken s)) = ⊥
IsFileEnd (Ended (Continued s)) = ⊥
IsFileEnd (Halted h) = Unit {0}

ends_as : {J R : Type 0} {oracle : Oracle} {most : ℕ} {rule : J → Plan J R} {x : EvaluationOutcome R} {v w : World} {o : EvaluationOutcome R} → Eval false oracle most rule (Ends x) v o w → o ≡ x
ends_as ends = refl
ends_as (lacks_memory a g) = absurd (cc)

ended_so : {oracle : Oracle} {most : ℕ} {v w : World} {o : EvaluationOutcome Completion} (bytes : ℕ) (r : Completion) → Eval false oracle most (rule bytes) (file_ended r) v o w → IsFileEnd o
ended_so bytes (Normal t s) d = subst IsFileEnd (sym (ends_as d)) tt
ended_so bytes (Raised m s) d = subst IsFileEnd (sym (ends_as d)) tt
ended_so bytes (Returned t s) d = subst IsFileEnd (sym (ends_as d)) tt
ended_so bytes (Broken s) d = subst IsFileEnd (sym (ends_as d)) tt
ended_so bytes (Continued s) d = subst IsFileEnd (sym (ends_as d)) tt

pub file_end : (s : Setting) (o : EvaluationOutcome Completion) (w : World) → EvaluatesTo s o w → IsFileEnd o
file_end s o w (runs {r = r} d c) = ended_so s.limits.value_bytes r c
file_end s o w (halts d) = tt
file_end s o w (lacks_memory a g) = absurd (cc)
