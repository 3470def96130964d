-- A verdict, by the result of its file.
use Rattle.std.proofs.Common.{◌≡◌, Bool, true, false, if◌then◌else◌, Result, Ok, Err, IfOk, refl}
use Rattle.std.specs.List.{list_all}
use Rattle.envvars.specs.Texts.{Text}
use Rattle.envvars.specs.Environment.{Environment}
use Rattle.filetree.specs.Agreement.{Files, Listings, InEachPair}
use Rattle.tclrules.specs.declared.limits.Limits.{Limits}
use Rattle.modulefile.specs.Files.{Ran, any_question}
use Rattle.reversal.specs.VariableUses.{is_reversible}
use Rattle.requests.specs.Verdicts as verdicts
use Rattle.requests.specs.Verdicts.{HasVerdict, PlainHolds, verdict_of}
use Rattle.modules.specs.declared.refusal.Refusal.{Refusal}
use Rattle.modules.specs.declared.judged.Verdict.{Verdict}
use Rattle.modules.specs.declared.judged.Verdict.TheVariants.{Plain, Asked, OneWay}
use Rattle.modules.specs.Answers.{StepAnswersOverTree}
use Rattle.modules.specs.Verdicts.{verdict_view, in_sh, PlainVerdictHolds}

by_tests : (ran : Ran) (asked ends : Bool) → any_question ran.asked ≡ asked → list_all is_reversible ran.records ≡ ends
    → (if asked then verdicts.asked else if ends then verdicts.plain else verdicts.one_way) ≡ verdict_of ran
by_tests ran asked ends a b = rw (a, b) refl

pub plain_by : (ran : Ran) → any_question ran.asked ≡ false → list_all is_reversible ran.records ≡ true → verdicts.plain ≡ verdict_of ran
plain_by ran a b = by_tests ran false true a b

pub asked_by : (ran : Ran) → any_question ran.asked ≡ true → verdicts.asked ≡ verdict_of ran
asked_by ran a = by_tests ran true (list_all is_reversible ran.records) a refl

pub one_way_by : (ran : Ran) → any_question ran.asked ≡ false → list_all is_reversible ran.records ≡ false → verdicts.one_way ≡ verdict_of ran
one_way_by ran a b = by_tests ran false false a b

-- what a plain verdict means, by the law of verdicts
pub plain_over_tree : PlainHolds → (agrees : Files → Listings → Type 0) (failed : Type 0) (limits : Limits) (e : Environment) (name : Text) (r : Result Verdict Refusal)
    → StepAnswersOverTree agrees failed verdict_view r (λ files listings. HasVerdict (in_sh limits files listings) e name)
    → IfOk r (λ verdict. InEachPair agrees (λ files listings. PlainVerdictHolds (in_sh limits files listings) e name verdict))
plain_over_tree law agrees failed limits e name (Ok Plain) h = λ files listings a. law (in_sh limits files listings) e name (h files listings a)
plain_over_tree law agrees failed limits e name (Ok Asked) h = λ files listings a. tt
plain_over_tree law agrees failed limits e name (Ok OneWay) h = λ files listings a. tt
plain_over_tree law agrees failed limits e name (Err x) h = tt
