-- A modulefile has one outcome, since its evaluation has one.
use Rattle.std.proofs.Common.{◌≡◌, Result, Ok, ap, sym, ◌∙◌, subst}
use Rattle.envvars.specs.Texts.{Text}
use Rattle.tclrules.specs.Derivation.{EvaluationOutcome, Ended, Halted, World}
use Rattle.tclrules.specs.Plans.{Completion, Normal, Raised, Returned, Broken, Continued}
use Rattle.tclrules.proofs.Outcomes.{one_outcome}
use Rattle.modulefile.specs.Answers.{FileContext}
use Rattle.modulefile.specs.Files.{Ran, FileReason, ran_of, FinishesFile}
use Rattle.modulefile.specs.Laws.{OneOutcome}
use Rattle.modulefile.proofs.Bound.{same_value}

one_finish : (c : FileContext) (text : Text) (out : EvaluationOutcome Completion) (w : World)
    (o p : Result Ran FileReason) → FinishesFile c text out w o → FinishesFile c text out w p → o ≡ p
one_finish c text (Ended (Normal t s)) w o p h k = h.2 ∙ (ap Ok (same_value (ran_of c w.trace) h.0 k.0 h.1 k.1) ∙ sym k.2)
one_finish c text (Ended (Raised m s)) w o p h k = h ∙ sym k
one_finish c text (Ended (Returned t s)) w o p h k = absurd h
one_finish c text (Ended (Broken s)) w o p h k = absurd h
one_finish c text (Ended (Continued s)) w o p h k = absurd h
one_finish c text (Halted f) w o p h k = h ∙ sym k

pub one_run : OneOutcome
one_run limits c text o p (out, w, d, h) (out2, w2, d2, k) =
    let same = one_outcome d d2 in
    one_finish c text out2 w2 o p (subst (λ x. FinishesFile c text x w2 o) same.0 (subst (λ (v : World). FinishesFile c text out v o) same.1 h)) k
