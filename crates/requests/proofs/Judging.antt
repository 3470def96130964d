-- Verdicts, by the laws of modulefiles.
use Rattle.std.proofs.Common.{◌≡◌, Bool, true, false, List, [], ◌∷◌, Ok, refl, sym, subst}
use Rattle.std.specs.Prelude.{if◌then◌else◌}
use Rattle.std.specs.List.{list_all}
use Rattle.envvars.specs.Texts.{Text}
use Rattle.envvars.specs.Environment.{Environment}
use Rattle.filetree.specs.Relations.{Is}
use Rattle.filetree.proofs.OneOutcome.{one_is, one_then}
use Rattle.modulefile.specs.Answers.{FileContext}
use Rattle.tclrules.specs.Oracle.{Question}
use Rattle.modulefile.specs.Files.{Ran, any_question, RunsFile}
use Rattle.modulefile.specs.Laws as files
use Rattle.search.specs.Found as search
use Rattle.reversal.specs.VariableUses.{is_reversible}
use Rattle.requests.specs.Refusals.{RefusedAs}
use Rattle.requests.specs.Reasons.{file_refused}
use Rattle.requests.specs.Steps.{RequestContext, entries_of, Finds}
use Rattle.requests.specs.Verdicts.{plain, asked, one_way, verdict_of, verdict_context, HasVerdict, OneVerdict}
use Rattle.requests.specs.Verdicts.{PlainHolds}
use Rattle.requests.specs.PlainRuns.{HasEvaluatedTo, JudgedIsPlain}
use Rattle.requests.specs.JudgedRuns.{SomeVerdict}
use Rattle.requests.proofs.Origins.{found_script}
use Rattle.requests.proofs.Bound.{went_on, ok_of_refused_as}
use Rattle.requests.proofs.OneStep.{OneResult, one_run, one_finds}
use Rattle.requests.proofs.SomeFound.{some_is, some_then}
use Rattle.requests.proofs.SomeStep.{SomeLeft, some_run, some_finds}

pub one_verdict : files.OneOutcome → OneResult → OneVerdict
one_verdict file left s e name =
    one_then (one_is (entries_of e)) (λ xs.
    one_then (one_finds left s e name) (λ m.
    one_then (one_run file s.limits (verdict_context s name m xs e) m.text) (λ ran.
    one_is (Ok (verdict_of ran)))))

pub some_verdict : files.SomeOutcome → SomeLeft → SomeVerdict
some_verdict file left s e name =
    some_then (some_is (entries_of e)) (λ xs.
    some_then (some_finds left s e name) (λ m.
    some_then (some_run file s.limits (verdict_context s name m xs e) m.text) (λ ran.
    some_is (Ok (verdict_of ran)))))

-- where no question was found nothing was asked
nothing_asked : (qs : List Question) → any_question qs ≡ false → qs ≡ []
nothing_asked [] h = refl
nothing_asked (q ∷ qs) h = absurd (cc)

plain_parts : (a r : Bool) → plain ≡ (if a then asked else if r then plain else one_way) → (a ≡ false) × (r ≡ true)
plain_parts true r e = absurd (cc)
plain_parts false true e = (refl, refl)
plain_parts false false e = absurd (cc)

as_ok : (c : FileContext) (s : RequestContext) (text : Text) (ran : Ran) → RefusedAs file_refused (RunsFile s.limits c text) (Ok ran) → RunsFile s.limits c text (Ok ran)
as_ok c s text ran h = subst (RunsFile s.limits c text) (ok_of_refused_as file_refused h.0 ran (sym h.2)) h.1

pub plain_holds : files.PlainFilesAgree → PlainHolds
plain_holds agree s e name h =
    let (xs, read, h1) = went_on (Is (entries_of e)) _ plain h in
    let (m, found, h2) = went_on (Finds s e name) _ plain h1 in
    let (ran, runs, h3) = went_on _ _ plain h2 in
    let c = verdict_context s name m xs e in
    let same : plain ≡ verdict_of ran = (let q : Ok plain ≡ Ok (verdict_of ran) = h3 in cc) in
    let p = plain_parts (any_question ran.asked) (list_all is_reversible ran.records) same in
    (m, ran, found, p.1, (λ d o n q r. agree s.limits c d m.text ran o (as_ok c s m.text ran runs) (nothing_asked ran.asked p.0) n q r))

-- the result of the evaluation of a verdict, where it is plain
pub judged_left : (s : RequestContext) (e : Environment) (name : Text) → HasVerdict s e name (Ok plain)
    → (m : search.FoundModule) × Finds s e name (Ok m) × (ran : Ran) × HasEvaluatedTo s m.name m.path ran × (ran.asked ≡ []) × (list_all is_reversible ran.records ≡ true)
judged_left s e name h =
    let (xs, read, h1) = went_on (Is (entries_of e)) _ plain h in
    let (m, found, h2) = went_on (Finds s e name) _ plain h1 in
    let (ran, runs, h3) = went_on _ _ plain h2 in
    let c = verdict_context s name m xs e in
    let same : plain ≡ verdict_of ran = (let q : Ok plain ≡ Ok (verdict_of ran) = h3 in cc) in
    let p = plain_parts (any_question ran.asked) (list_all is_reversible ran.records) same in
    (m, found, ran, record { text = m.text; file = found_script s e name m found; context = c; named = refl; at_path = refl; runs = as_ok c s m.text ran runs }, nothing_asked ran.asked p.0, p.1)

pub judged_is_plain : JudgedIsPlain
judged_is_plain s e name h = let (m, found, ran, left, unasked, undone) = judged_left s e name h in (m, found, (ran, left, unasked))
