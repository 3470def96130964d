-- A file that asked nothing leaves the same records in every context of the same name and path, or is refused.
use Rattle.std.proofs.Common.{◌≡◌, ◌⊎◌, ℕ, Bool, true, false, List, [], Option, Some, None, Result, Ok, Err, inl, inr}
use Rattle.std.proofs.Common.{⊎_elim, refl, ap, sym, ◌∙◌, subst}
use Rattle.envvars.specs.Texts.{Text}
use Rattle.envvars.specs.Names.{is_variable_name}
use Rattle.envvars.specs.Environment.{Environment}
use Rattle.tclrules.specs.Oracle as oracle
use Rattle.tclrules.specs.Oracle.{Oracle, OracleAnswer, Nothing, Done, is_question, is_refusal}
use Rattle.tclrules.specs.Derivation.{ByHost, EvaluationOutcome, Ended, Halted, World, AnswersAlikeUnasked}
use Rattle.tclrules.specs.Variables.{State}
use Rattle.tclrules.specs.Plans.{Completion, Normal, Raised, Returned, Broken, Continued}
use Rattle.tclrules.specs.Meaning as meaning
use Rattle.tclrules.specs.Meaning.{Setting, EvaluatesTo, with_oracle}
use Rattle.tclrules.specs.declared.limits.Limits.{Limits}
use Rattle.modulefile.specs.Judgments.{RecordReason, record_reason}
use Rattle.modulefile.specs.Effects.{edited, edit_outcome, permitted, effect}
use Rattle.modulefile.specs.Calls.{adds_record, adds_message, getenv, is_loaded, own_name, typed_name, info, info_test}
use Rattle.modulefile.specs.Calls.{CallForm, call_of}
use Rattle.modulefile.specs.Answers.{FileContext, record_number, record_name, record_answer, variable_answer}
use Rattle.modulefile.specs.Answers.{command_answer, records_in, environment_after, oracle_of, value_shown}
use Rattle.modulefile.specs.Files.{Ran, FileReason, ran_of, setting_of, refused_by, stopped_in, FinishesFile, RunsFile}
use Rattle.modulefile.specs.Files.{IsSameOrRefused}
use Rattle.modulefile.specs.Laws.{PlainFilesAgree}
use Rattle.modulefile.proofs.Bound.{same_value}
use Rattle.modulefile.proofs.WholeFiles.{ran_parts}

-- what was neither refused nor a question is answered alike, or refused

abbrev Alike : OracleAnswer → OracleAnswer → Type 0
Alike first second = (second ≡ first) ⊎ ((n : ℕ) × (name : Option Text) × (asks : Bool) × (second ≡ oracle.Refused n name asks))

at_kept : (words : List Text) (o : Option RecordReason) (s t : Result Environment RecordReason)
    → is_refusal (record_answer words (permitted o s)) ≡ false
    → Alike (record_answer words (permitted o s)) (record_answer words (permitted o t))
at_kept words (Some o) s t h = absurd (cc)
at_kept words None (Err q) t h = absurd (cc)
at_kept words None (Ok a) (Ok b) h = inl refl
at_kept words None (Ok a) (Err q) h = inr (record_number q, record_name q, false, refl)

at_read : (var u v : Text) → is_question (variable_answer var u) ≡ false → variable_answer var v ≡ variable_answer var u
at_read var u v h = go (is_variable_name var) refl
  where
    go : (b : Bool) → is_variable_name var ≡ b → variable_answer var v ≡ variable_answer var u
    go true q = let k : is_question (variable_answer var u) ≡ true = rw q refl in absurd (cc)
    go false q = rw q refl

at_call : (c d : FileContext) → d.name ≡ c.name → (x y : Environment) (words : List Text) (call : CallForm)
    → is_question (command_answer c x words call) ≡ false → is_refusal (command_answer c x words call) ≡ false
    → Alike (command_answer c x words call) (command_answer d y words call)
at_call c d e x y words (Err o) q h = inl refl
at_call c d e x y words (Ok (adds_record r)) q h =
    subst (λ n. Alike (record_answer words (effect c.mode c.name r x)) (record_answer words (effect d.mode n r y))) (sym e)
    (at_kept words (record_reason r) (edit_outcome (edited c.mode c.name r x)) (edit_outcome (edited d.mode c.name r y)) h)
at_call c d e x y words (Ok (adds_message message)) q h = inl refl
at_call c d e x y words (Ok (getenv var default)) q h = inl (at_read var (value_shown c.mode x var default) (value_shown d.mode y var default) q)
at_call c d e x y words (Ok (is_loaded names)) q h = absurd (cc)
at_call c d e x y words (Ok own_name) q h = inl (ap (λ n. Done n Nothing false) e)
at_call c d e x y words (Ok typed_name) q h = absurd (cc)
at_call c d e x y words (Ok (info field)) q h = absurd (cc)
at_call c d e x y words (Ok (info_test field word)) q h = absurd (cc)

pub agree : (c d : FileContext) → d.name ≡ c.name → AnswersAlikeUnasked (oracle_of c) (oracle_of d)
agree c d e = (refl, λ rs words q h. at_call c d e (environment_after c rs) (environment_after d rs) words (call_of words) q h)

-- and so for the file

abbrev pub UnaskedLaw : Type 0
UnaskedLaw =
    (s : Setting) (second : Oracle) (o o2 : EvaluationOutcome Completion) (w w2 : World) → EvaluatesTo s o w → w.trace.asked ≡ [] → ((n : ℕ) → (o ≡ Halted (ByHost n)) → ⊥)
    → AnswersAlikeUnasked s.oracle second → EvaluatesTo (with_oracle second s) o2 w2 → meaning.IsSameOrRefused o w o2 w2

moved_setting : (limits : Limits) (c d : FileContext) (text : Text) → d.path ≡ c.path → setting_of limits d text ≡ with_oracle (oracle_of d) (setting_of limits c text)
moved_setting limits c d text p = ap (λ (path : Text). with_oracle (oracle_of d) (setting_of limits (record c { path = path }) text)) p

same_finish : (c d : FileContext) (text result : Text) (s : State) (w : World) (ran : Ran)
    (o : Result Ran FileReason) → ran_of c w.trace ≡ Ok ran → FinishesFile d text (Ended (Normal result s)) w o
    → IsSameOrRefused ran o
same_finish c d text result s w ran o h f =
    inl (f.0, f.2, same_value (records_in w.trace.records) f.0.records ran.records (ran_parts d w.trace f.0 f.1).read (ran_parts c w.trace ran h).read)

-- the second context's evaluation ends as that of the first, or is refused
abbrev pub EndsAlike : Limits → FileContext → FileContext → Text → EvaluationOutcome Completion → World → Type 0
EndsAlike limits c d text out w =
    (out2 : EvaluationOutcome Completion) (w2 : World) → EvaluatesTo (with_oracle (oracle_of d) (setting_of limits c text)) out2 w2
    → meaning.IsSameOrRefused out w out2 w2

pub alike_normal : (limits : Limits) (c d : FileContext) (text : Text) (ran : Ran) (o : Result Ran FileReason)
    (result : Text) (s : State) (w : World) → EndsAlike limits c d text (Ended (Normal result s)) w
    → ran_of c w.trace ≡ Ok ran → d.path ≡ c.path → RunsFile limits d text o → IsSameOrRefused ran o
alike_normal limits c d text ran o result s w law h p (out2, w2, e2, f) =
    let e3 : EvaluatesTo (with_oracle (oracle_of d) (setting_of limits c text)) out2 w2 = subst (λ (z : Setting). EvaluatesTo z out2 w2) (moved_setting limits c d text p) e2 in
    ⊎_elim
    (λ i. same_finish c d text result s w ran o h
    (subst (λ (x : EvaluationOutcome Completion). FinishesFile d text x w o) i.0
    (subst (λ (v : World). FinishesFile d text out2 v o) i.1 f)))
    (λ i. inr (i.0, w2.trace.refused, stopped_in d text w2 (refused_by i.0 w2.trace.refused), subst (λ (x : EvaluationOutcome Completion). FinishesFile d text x w2 o) i.1 f, refl))
    (law out2 w2 e3)

plain_normal : UnaskedLaw → (limits : Limits) (c d : FileContext) (text : Text) (ran : Ran) (o : Result Ran FileReason)
    (result : Text) (s : State) (w : World) → EvaluatesTo (setting_of limits c text) (Ended (Normal result s)) w
    → ran_of c w.trace ≡ Ok ran
    → ran.asked ≡ [] → d.name ≡ c.name → d.path ≡ c.path → RunsFile limits d text o → IsSameOrRefused ran o
plain_normal law limits c d text ran o result s w e h a n p r =
    alike_normal limits c d text ran o result s w
    (λ out2 w2 e3. law (setting_of limits c text) (oracle_of d) (Ended (Normal result s)) out2 w w2 e ((ran_parts c w.trace ran h).asked ∙ a) (λ m z. cc) (agree c d n) e3)
    h p r

pub plain_file : UnaskedLaw → PlainFilesAgree
plain_file law limits c d text ran o (Ended (Normal result s), w, e, f) a n p r =
    let q : ran_of c w.trace ≡ Ok ran = subst (λ x. ran_of c w.trace ≡ Ok x) (same_value (Ok ran) f.0 ran f.2 refl) f.1 in
    plain_normal law limits c d text ran o result s w e q a n p r
plain_file law limits c d text ran o (Ended (Raised m s), w, e, f) a n p r = absurd (cc)
plain_file law limits c d text ran o (Ended (Returned t s), w, e, f) a n p r = absurd f
plain_file law limits c d text ran o (Ended (Broken s), w, e, f) a n p r = absurd f
plain_file law limits c d text ran o (Ended (Continued s), w, e, f) a n p r = absurd f
plain_file law limits c d text ran o (Halted h, w, e, f) a n p r = absurd (cc)
