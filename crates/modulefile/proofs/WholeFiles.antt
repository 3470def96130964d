-- What an accepted file leaves, and that each file has an outcome.
use Rattle.std.proofs.Common.{◌≡◌, List, Result, Ok, Err, is_ok, refl, ap, sym, ◌∙◌, subst}
use Rattle.envvars.specs.Texts.{Text}
use Rattle.envvars.specs.Environment.{Environment}
use Rattle.tclrules.specs.Oracle.{Trace}
use Rattle.tclrules.specs.Derivation.{EvaluationOutcome, Ended, Halted, World}
use Rattle.tclrules.specs.Plans.{Completion, Normal, Raised, Returned, Broken, Continued}
use Rattle.tclrules.specs.Meaning.{Setting, EvaluatesTo, line_at, outermost}
use Rattle.tclrules.specs.Variables.{State}
use Rattle.tclrules.specs.declared.limits.Limits.{Limits}
use Rattle.tclrules.proofs.Consultations.{grown, kept}
use Rattle.modulefile.specs.Records.{Record}
use Rattle.modulefile.specs.Effects.{effects}
use Rattle.modulefile.proofs.Effected.{all_allowed}
use Rattle.modulefile.specs.Results.{◌>>=◌}
use Rattle.modulefile.specs.Answers.{FileContext, records_in, record_outcome, effects_so_far}
use Rattle.modulefile.specs.Files.{Ran, FileReason, failed, halt_stop, stopped_in, setting_of, ran_of, FinishesFile}
use Rattle.modulefile.specs.Laws.{SomeOutcome, RecordsHaveEffects, RecordsAreAllowed}
use Rattle.modulefile.proofs.Bound.{bound, bind_ok, same_value}
use Rattle.modulefile.proofs.FileEnds.{IsFileEnd, file_end}
use Rattle.modulefile.proofs.HasEffects.{by_record_ok, so_far, answer_has_effects}

-- the parts of what a file left
pub record Parts (c : FileContext) (trace : Trace) (ran : Ran) : Type 0 where
  pub read : records_in trace.records ≡ Ok ran.records
  pub made : effects c.mode c.name ran.records c.before ≡ Ok ran.env
  pub asked : trace.asked ≡ ran.asked

abbrev made_of : Trace → List Record → Environment → Ran
made_of trace rs e = record { records = rs; messages = trace.messages; asked = trace.asked; env = e }

pub ran_parts : (c : FileContext) (trace : Trace) (ran : Ran) → ran_of c trace ≡ Ok ran → Parts c trace ran
ran_parts c trace ran h =
    let b = bound (records_in trace.records) (λ rs. record_outcome (effects c.mode c.name rs c.before) >>= (λ e. Ok (made_of trace rs e))) ran h in
    let g = bound (record_outcome (effects c.mode c.name b.0 c.before)) (λ e. Ok (made_of trace b.0 e)) ran b.2 in
    let k : made_of trace b.0 g.0 ≡ ran = cc in
    record {
      read = b.1 ∙ ap (λ (r : Ran). Ok r.records) k;
      made = subst (λ (r : Ran). effects c.mode c.name r.records c.before ≡ Ok r.env) k (by_record_ok (effects c.mode c.name b.0 c.before) g.0 g.1);
      asked = ap (λ (r : Ran). r.asked) k;
    }

-- a file that ended left something
pub ended_ran : (limits : Limits) (c : FileContext) (text result : Text) (s : State) (w : World)
    → EvaluatesTo (setting_of limits c text) (Ended (Normal result s)) w → (ran : Ran) × (ran_of c w.trace ≡ Ok ran)
ended_ran limits c text result s w d =
    let h = kept (λ rs. is_ok (effects_so_far c rs)) (grown d) refl (answer_has_effects c) in
    let f = so_far c w.trace.records h in (
      made_of w.trace f.records f.env,
      bind_ok (records_in w.trace.records) (λ rs. record_outcome (effects c.mode c.name rs c.before) >>= (λ e. Ok (made_of w.trace rs e))) f.records (made_of w.trace f.records f.env) f.read
          (bind_ok (record_outcome (effects c.mode c.name f.records c.before)) (λ e. Ok (made_of w.trace f.records e)) f.env (made_of w.trace f.records f.env) (ap record_outcome f.made) refl),
    )

some_end : (limits : Limits) (c : FileContext) (text : Text) (out : EvaluationOutcome Completion) (w : World)
    → EvaluatesTo (setting_of limits c text) out w → IsFileEnd out → (o : Result Ran FileReason)
    × FinishesFile c text out w o
some_end limits c text (Ended (Normal t s)) w d i = let r = ended_ran limits c text t s w d in (Ok r.0, (r.0, r.1, refl))
some_end limits c text (Ended (Raised m s)) w d i = (Err (stopped_in c text w (failed m (line_at text (outermost w.scripts)))), refl)
some_end limits c text (Ended (Returned t s)) w d i = absurd i
some_end limits c text (Ended (Broken s)) w d i = absurd i
some_end limits c text (Ended (Continued s)) w d i = absurd i
some_end limits c text (Halted h) w d i = (Err (stopped_in c text w (halt_stop h w.trace.refused)), refl)

abbrev pub EachComes : Type 0
EachComes = (s : Setting) → (o : EvaluationOutcome Completion) × (w : World) × EvaluatesTo s o w

pub some_run : EachComes → SomeOutcome
some_run law limits c text =
    let d = law (setting_of limits c text) in
    let f = some_end limits c text d.0 d.1 d.2 (file_end (setting_of limits c text) d.0 d.1 d.2) in
    (f.0, (d.0, d.1, d.2, f.1))

-- the records of a file that ended

finish_parts : (c : FileContext) (text : Text) (out : EvaluationOutcome Completion) (w : World) (ran : Ran)
    → FinishesFile c text out w (Ok ran) → effects c.mode c.name ran.records c.before ≡ Ok ran.env
finish_parts c text (Ended (Normal t s)) w ran f =
    let e : f.0 ≡ ran = same_value (Ok f.0) f.0 ran refl (sym f.2) in
    subst (λ (r : Ran). effects c.mode c.name r.records c.before ≡ Ok r.env) e (ran_parts c w.trace f.0 f.1).made
finish_parts c text (Ended (Raised m s)) w ran f = absurd (cc)
finish_parts c text (Ended (Returned t s)) w ran f = absurd f
finish_parts c text (Ended (Broken s)) w ran f = absurd f
finish_parts c text (Ended (Continued s)) w ran f = absurd f
finish_parts c text (Halted h) w ran f = absurd (cc)

pub records_make : RecordsHaveEffects
records_make limits c text ran (out, w, d, f) = finish_parts c text out w ran f

pub records_allowed : RecordsAreAllowed
records_allowed limits c text ran r = all_allowed c.mode c.name ran.records c.before ran.env (records_make limits c text ran r)
