-- A file leaves the same records in every context of the same name and path that answers again what it asked, or is
-- refused.
use Rattle.std.proofs.Common.{◌≡◌, ℕ, List, [], ◌∷◌, ◌++◌, Result, Ok, refl, ap, sym, ◌∙◌, subst}
use Rattle.envvars.specs.Texts.{Text}
use Rattle.tclrules.specs.Oracle.{CommandWords, Oracle, Trace}
use Rattle.tclrules.specs.Derivation.{ByHost, EvaluationOutcome, Ended, Halted, World, AnswersAlikeUnasked, RepeatsAnswers}
use Rattle.tclrules.specs.Variables.{State}
use Rattle.tclrules.specs.Plans.{Completion, Normal, Raised, Returned, Broken, Continued}
use Rattle.tclrules.specs.Meaning as meaning
use Rattle.tclrules.specs.Meaning.{Setting, EvaluatesTo, with_oracle}
use Rattle.tclrules.specs.declared.limits.Limits.{Limits}
use Rattle.modulefile.specs.Records.{Record}
use Rattle.modulefile.specs.Results.{◌>>=◌}
use Rattle.modulefile.specs.Calls.{call_of}
use Rattle.modulefile.specs.Answers.{FileContext, records_in, record_of, oracle_of}
use Rattle.modulefile.specs.Files.{Ran, FileReason, ran_of, setting_of, RunsFile, IsSameOrRefused}
use Rattle.modulefile.specs.Laws.{AnswersAgain, AnsweredFilesAgree}
use Rattle.modulefile.proofs.Bound.{bound, bind_ok, same_value}
use Rattle.modulefile.proofs.WholeFiles.{ran_parts}
use Rattle.modulefile.proofs.PlainFiles.{agree, alike_normal}

-- the records of a beginning of the commands are a beginning of the records
abbrev Beginning : List CommandWords → List Record → Type 0
Beginning commands all = (rs rest : List Record) × (records_in commands ≡ Ok rs) × (all ≡ rs ++ rest)

beginning : (commands more : List CommandWords) (all : List Record) → records_in (commands ++ more) ≡ Ok all → Beginning commands all
beginning [] more all h = ([], all, refl, refl)
beginning (words ∷ commands) more all h =
    let b = bound (call_of words >>= record_of) (λ x. records_in (commands ++ more) >>= (λ xs. Ok (x ∷ xs))) all h in
    let d = bound (records_in (commands ++ more)) (λ xs. Ok (b.0 ∷ xs)) all b.2 in
    let (rs, rest, read, split) = beginning commands more d.0 d.1 in
    let same : b.0 ∷ d.0 ≡ all = cc in (
      b.0 ∷ rs,
      rest,
      bind_ok (call_of words >>= record_of) (λ x. records_in commands >>= (λ xs. Ok (x ∷ xs))) b.0 (b.0 ∷ rs) b.1
          (bind_ok (records_in commands) (λ xs. Ok (b.0 ∷ xs)) rs (b.0 ∷ rs) read refl),
      sym same ∙ ap (λ (l : List Record). b.0 ∷ l) split,
    )

abbrev pub AskedLaw : Type 0
AskedLaw =
    (s : Setting) (second : Oracle) (o o2 : EvaluationOutcome Completion) (w w2 : World) → EvaluatesTo s o w
    → RepeatsAnswers second w.trace → ((n : ℕ) → (o ≡ Halted (ByHost n)) → ⊥)
    → AnswersAlikeUnasked s.oracle second → EvaluatesTo (with_oracle second s) o2 w2 → meaning.IsSameOrRefused o w o2 w2

-- what the file asked is what its evaluation asked
repeats : (c d : FileContext) (trace : Trace) (ran : Ran) → ran_of c trace ≡ Ok ran → AnswersAgain d ran → RepeatsAnswers (oracle_of d) trace
repeats c d trace ran h again before after q asked commands rest records =
    let parts = ran_parts c trace ran h in
    let (rs, later, read, split) = beginning commands rest ran.records (ap records_in (sym records) ∙ parts.read) in
    again before after q (sym parts.asked ∙ asked) commands rs later read split

answered_normal : AskedLaw → (limits : Limits) (c d : FileContext) (text : Text) (ran : Ran) (o : Result Ran FileReason)
    (result : Text) (s : State) (w : World) → EvaluatesTo (setting_of limits c text) (Ended (Normal result s)) w
    → ran_of c w.trace ≡ Ok ran → AnswersAgain d ran → d.name ≡ c.name → d.path ≡ c.path → RunsFile limits d text o
    → IsSameOrRefused ran o
answered_normal law limits c d text ran o result s w e h again n p r =
    alike_normal limits c d text ran o result s w
    (λ out2 w2 e3. law (setting_of limits c text) (oracle_of d) (Ended (Normal result s)) out2 w w2 e (repeats c d w.trace ran h again) (λ m z. cc) (agree c d n) e3)
    h p r

pub answered_file : AskedLaw → AnsweredFilesAgree
answered_file law limits c d text ran o (Ended (Normal result s), w, e, f) again n p r =
    let q : ran_of c w.trace ≡ Ok ran = subst (λ x. ran_of c w.trace ≡ Ok x) (same_value (Ok ran) f.0 ran f.2 refl) f.1 in
    answered_normal law limits c d text ran o result s w e q again n p r
answered_file law limits c d text ran o (Ended (Raised m s), w, e, f) again n p r = absurd (cc)
answered_file law limits c d text ran o (Ended (Returned t s), w, e, f) again n p r = absurd f
answered_file law limits c d text ran o (Ended (Broken s), w, e, f) again n p r = absurd f
answered_file law limits c d text ran o (Ended (Continued s), w, e, f) again n p r = absurd f
answered_file law limits c d text ran o (Halted h, w, e, f) again n p r = absurd (cc)
