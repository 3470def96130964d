-- What the evaluations of a script show, way after way.
use Rattle.std.proofs.Common.{◌≡◌, ℕ, ◌+◌, ◌<◌, take, length, get_or, Bool, true, false, ◌&&◌, List, [], ◌∷◌, ◌++◌, map, append-nil, refl, ap, sym}
use Rattle.std.proofs.Common.{◌∙◌, subst, Option, Some, None, Result, Ok, Err, Global}
use Rattle.std.specs.Prelude.{flat_map, find, is_none, not, position, MatchOption}
use Rattle.std.specs.List.{list_all}
use Rattle.std.proofs.lemmas.Bool.{and_parts}
use Rattle.requests.proofs.ListLemmas.{all_seen}
use Rattle.audit_site.proofs.StandingLemmas.{none_fails, first_found, found_seen}
use Rattle.std.specs.Option.{option_map}
use Rattle.std.specs.declared.vec.Vec.{Vec}
use Rattle.std.proofs.lemmas.List.{append_assoc, map-append, take_more}
use Rattle.std.proofs.lemmas.List.Concat.{flat_map-append}
use Rattle.envvars.specs.Texts.{Text, texts_in}
use Rattle.envvars.specs.Fields.{without_repeats}
use Rattle.envvars.specs.Environment.{Environment}
use Rattle.tclrules.specs.declared.limits.Limits.{Limits}
use Rattle.modulefile.specs.Answers.{FileContext}
use Rattle.modulefile.specs.Files as files
use Rattle.modulefile.specs.Records.{Record}
use Rattle.modulefile.specs.RecordViews.{record_view}
use Rattle.modulefile_run.specs.Questions.{question_view, questions_in}
use Rattle.modulefile_run.specs.Running.{ran_view}
use Rattle.modulefile_run.specs.declared.run.FileRun.{FileRun}
use Rattle.modules.specs.declared.refusal.Refusal.{Refusal}
use Rattle.requests.specs.Reasons.{RequestReason}
use Rattle.audit_laws.specs.determinism.StableInput.{variables_read}
use Rattle.audit_laws.specs.determinism.LoadedAnswers.{are_few}
use Rattle.audit_laws.specs.determinism.Contexts.{EvaluationContext, first_context, other_contexts, is_run_equivalent, is_equivalent, are_equivalent, has_stable_answer, read_in, FileRuns, are_runs_equivalent, have_stable_answers, reads_in}
use Rattle.audit_laws.specs.determinism.ContextViews.{context_view}
use Rattle.audit_laws.specs.declared.determinism.contexts.EvaluationContext as code
use Rattle.filetree.specs.Causes.{Cause, Applies, memory, device, because}
use Rattle.modules.specs.Answers.{cause_of}
use Rattle.modules.specs.transient_failures.Causes.{is_transient}
use Rattle.audit_certificate.proofs.UsedLemmas.{by_test}
use Rattle.modulefile_run.specs.declared.question.Question.{Question}
use Rattle.audit_certificate.specs.Steps.{are_consistent}
use Rattle.reversal.specs.VariableUses.{UsedVariable}
use Rattle.audit_site.specs.Walks.{uses_told, uses_in, AreUsedTwice}
use Rattle.audit_site.specs.WalkParts.{ComesTo, ScriptRuns, ScriptRunsIn, ShowsOne, ShowsAll, ShowsScript}
use Rattle.audit_site.specs.declared.scripts.FileEvaluation.{FileEvaluation}

abbrev Outcome : Type 0
Outcome = Result files.Ran RequestReason

runs_more : (limits : Limits) (context : EvaluationContext → FileContext) (text : Text) (ways : List EvaluationContext) (os : List Outcome) (way : EvaluationContext) (o : Outcome) → ScriptRunsIn limits context text ways os
    → ScriptRuns limits (context way) text o → ScriptRunsIn limits context text (ways ++ way ∷ []) (os ++ o ∷ [])
runs_more limits context text [] [] way o h k = (k, tt)
runs_more limits context text [] (p ∷ os) way o h k = absurd h
runs_more limits context text (w ∷ ways) [] way o h k = absurd h
runs_more limits context text (w ∷ ways) (p ∷ os) way o h k = (h.0, runs_more limits context text ways os way o h.1 k)

last_and : (b : Bool) → (b && true) ≡ b
last_and true = refl
last_and false = refl

and_assoc : (a b c : Bool) → (a && (b && c)) ≡ ((a && b) && c)
and_assoc true b c = refl
and_assoc false b c = refl

alike_more : (limits : Limits) (context : EvaluationContext → FileContext) (text : Text) (first : files.Ran) (ways : List EvaluationContext) (os : List Outcome) (way : EvaluationContext) (o : Outcome) → ScriptRunsIn limits context text ways os
    → are_equivalent first (ways ++ way ∷ []) (os ++ o ∷ []) ≡ (are_equivalent first ways os && is_equivalent first way o)
alike_more limits context text first [] [] way o h = last_and (is_equivalent first way o)
alike_more limits context text first [] (p ∷ os) way o h = absurd h
alike_more limits context text first (w ∷ ways) [] way o h = absurd h
alike_more limits context text first (w ∷ ways) (p ∷ os) way o h =
    ap (λ (b : Bool). is_equivalent first w p && b) (alike_more limits context text first ways os way o h.1)
    ∙ and_assoc (is_equivalent first w p) (are_equivalent first ways os) (is_equivalent first way o)

both : (a b c d : Bool) → a ≡ c → b ≡ d → (a && b) ≡ (c && d)
both a b c d h k = λ i. h i && k i

-- one way more
shows_one_more : (limits : Limits) (context : EvaluationContext → FileContext) (text : Text) (first : FileRun) (ways : List EvaluationContext) (way : EvaluationContext) (before mid after : List Text) (a b : Bool)
    → ShowsAll limits context text first ways before mid a → ShowsOne limits context text first way mid after b → ShowsAll limits context text first (ways ++ way ∷ []) before after (a && b)
shows_one_more limits context text first ways way before mid after a b all one = record {
  outcomes = all.outcomes ++ one.outcome ∷ [];
  runs = runs_more limits context text ways all.outcomes way one.outcome all.runs one.runs;
  alike = λ e. both a b _ _ (all.alike e) (one.alike e) ∙ sym (alike_more limits context text (ran_view first e) ways all.outcomes way one.outcome all.runs);
  reads = one.reads ∙ (ap (λ (l : List Text). l ++ read_in one.outcome) all.reads
      ∙ (append_assoc before (flat_map read_in all.outcomes) (read_in one.outcome)
      ∙ ap (λ (l : List Text). before ++ l) (ap (λ (l : List Text). flat_map read_in all.outcomes ++ l) (sym (append-nil (read_in one.outcome)))
      ∙ sym (flat_map-append read_in all.outcomes (one.outcome ∷ [])))));
}

pub shows_more : (limits : Limits) (context : EvaluationContext → FileContext) (text : Text) (first : FileRun) (ways : List code.EvaluationContext) (i : ℕ) (way : code.EvaluationContext) (before mid after : List Text) (a b c : Bool)
    → i < length ways → way ≡ get_or ways i way → ShowsAll limits context text first (map context_view (take i ways)) before mid a → ShowsOne limits context text first (context_view way) mid after b
    → c ≡ (a && b) → ShowsAll limits context text first (map context_view (take (i + 1) ways)) before after c
shows_more limits context text first ways i way before mid after a b c l e all one same =
    let split : map context_view (take (i + 1) ways) ≡ map context_view (take i ways) ++ context_view way ∷ []
    = ap (map context_view) (take_more ways i way l ∙ ap (λ (w : code.EvaluationContext). take i ways ++ w ∷ []) (sym e)) ∙ map-append context_view (take i ways) (way ∷ []) in
    subst (λ (ws : List EvaluationContext). ShowsAll limits context text first ws before after c) (sym split)
    (subst (ShowsAll limits context text first (map context_view (take i ways) ++ context_view way ∷ []) before after) (sym same)
    (shows_one_more limits context text first (map context_view (take i ways)) (context_view way) before mid after a b all one))

pub shows_none : (limits : Limits) (context : EvaluationContext → FileContext) (text : Text) (first : FileRun) (before : List Text) → ShowsAll limits context text first [] before before true
shows_none limits context text first before = record { outcomes = []; runs = tt; alike = λ e. refl; reads = sym (append-nil before) }

-- one way

pub shows_ok : (limits : Limits) (context : EvaluationContext → FileContext) (text : Text) (first : FileRun) (way : EvaluationContext) (before after : List Text) (alike : Bool) (o : Result FileRun Refusal) (ran : FileRun)
    → ComesTo o (ScriptRuns limits (context way) text) → o ≡ Ok ran → after ≡ before ++ variables_read (questions_in ran.asked.items)
    → ((e f : Environment) → alike ≡ is_run_equivalent (ran_view first e) way.mode (ran_view ran f)) → ShowsOne limits context text first way before after alike
shows_ok limits context text first way before after alike o ran comes is reads like =
    let c = subst (λ (x : Result FileRun Refusal). ComesTo x (ScriptRuns limits (context way) text)) is comes in
    record { outcome = Ok (ran_view ran c.0); runs = c.1; alike = λ e. like e c.0; reads = reads }

with_reason : (c : Cause RequestReason) (P : RequestReason → Type 0) → is_transient c ≡ false → Applies c ⊥ P → (reason : RequestReason) × P reason
with_reason memory P k h = absurd (cc)
with_reason device P k h = absurd h
with_reason (because reason) P k h = (reason, h)

pub shows_err : (limits : Limits) (context : EvaluationContext → FileContext) (text : Text) (first : FileRun) (way : EvaluationContext) (before : List Text) (o : Result FileRun Refusal) (refusal : Refusal)
    → ComesTo o (ScriptRuns limits (context way) text) → o ≡ Err refusal → is_transient (cause_of refusal) ≡ false → ShowsOne limits context text first way before before false
shows_err limits context text first way before o refusal comes is kept =
    let c = subst (λ (x : Result FileRun Refusal). ComesTo x (ScriptRuns limits (context way) text)) is comes in
    let r = with_reason (cause_of refusal) (λ reason. ScriptRuns limits (context way) text (Err reason)) kept c in
    record { outcome = Err r.0; runs = r.1; alike = λ e. refl; reads = sym (append-nil before) }

-- the whole script

-- a question that doesn't have a stable answer is found where not all do
none_found : {X : Type 0} (q : X → Bool) (xs : List X) → is_none (find (λ x. not (q x)) xs) ≡ list_all q xs
none_found q [] = refl
none_found q (x ∷ xs) = by_test (q x) _ (λ t. rw t (none_found q xs)) (λ f. rw f refl)

none_viewed : {X Y : Type 0} (f : X → Y) (o : Option X) → is_none o ≡ is_none (option_map f o)
none_viewed f None = refl
none_viewed f (Some x) = refl

-- the uses that the code tells are those of the evaluations
uses_same : (runs : FileRuns RequestReason) (unkept : Option Question) (rs : List Record) (reads : List Text)
    → option_map question_view unkept ≡ find (λ q. not (has_stable_answer (are_runs_equivalent runs) runs.first.records q)) runs.first.asked → rs ≡ runs.first.records
    → reads ≡ without_repeats (reads_in runs) → uses_told rs (is_none unkept) reads ≡ uses_in runs
uses_same runs unkept rs reads e f g =
    let kept : is_none unkept ≡ have_stable_answers runs = none_viewed question_view unkept
    ∙ (ap (λ (o : Option _). is_none o) e ∙ none_found (has_stable_answer (are_runs_equivalent runs) runs.first.records) runs.first.asked) in
    λ i. uses_told (f i) (kept i) (g i)

pub shows_script : (limits : Limits) (context : EvaluationContext → FileContext) (text : Text) (first : FileRun) (e : Environment) (ways : List EvaluationContext) (all : List Text) (alike few : Bool) (shown : FileEvaluation)
    → ScriptRuns limits (context first_context) text (Ok (ran_view first e)) → ways ≡ other_contexts (questions_in first.asked.items)
    → ShowsAll limits context text first ways (variables_read (questions_in first.asked.items)) all alike → few ≡ are_few (questions_in first.asked.items)
    → shown.file.records ≡ first.records
    → option_map question_view shown.file.unkept ≡ find (λ q. not (has_stable_answer (few && alike) (map record_view first.records.items) q)) (questions_in first.asked.items)
    → MatchOption shown.file.unlike (are_consistent (uses_told (map record_view first.records.items) (is_none shown.file.unkept) (texts_in shown.reads)) ≡ true)
    (AreUsedTwice (uses_told (map record_view first.records.items) (is_none shown.file.unkept) (texts_in shown.reads)))
    → texts_in shown.reads ≡ without_repeats all → ShowsScript limits context text (Ok shown)
shows_script limits context text first e ways all alike few shown ran same shows known records unkept unlike reads =
    let runs : FileRuns RequestReason = record { first = ran_view first e; others = shows.outcomes } in
    let kept : option_map question_view shown.file.unkept ≡ find (λ q. not (has_stable_answer (are_runs_equivalent runs) runs.first.records q)) runs.first.asked =
    unkept ∙ ap (λ (b : Bool). find (λ q. not (has_stable_answer b (map record_view first.records.items) q)) (questions_in first.asked.items))
    (both few alike _ _ known (shows.alike e ∙ ap (λ (ws : List EvaluationContext). are_equivalent (ran_view first e) ws shows.outcomes) same)) in
    let read : texts_in shown.reads ≡ without_repeats (reads_in runs) = reads ∙ ap without_repeats shows.reads in (
      runs,
      record {
        records = ap (λ (v : Vec _ Global). map record_view v.items) records;
        unkept = kept;
        unlike = subst (λ (ps : List UsedVariable). MatchOption shown.file.unlike (are_consistent ps ≡ true) (AreUsedTwice ps))
            (uses_same runs shown.file.unkept (map record_view first.records.items) (texts_in shown.reads) kept refl read)
            unlike;
      },
      read,
      ran,
      subst (λ (ws : List EvaluationContext). ScriptRunsIn limits context text ws shows.outcomes) same shows.runs,
    )

-- ---- the first question that doesn't have a stable answer

pub first_kept : {X Y : Type 0} (q : Y → Bool) (view : X → Y) (xs : List X) (j : ℕ) (x : X) → position (λ y. not (q (view y))) xs ≡ Some j → x ≡ get_or xs j x
    → Some (view x) ≡ find (λ y. not (q y)) (map view xs)
first_kept q view xs j x at is = sym (found_seen q view xs x (first_found (λ y. q (view y)) xs j x at is))

nothing_found : {X : Type 0} (q : X → Bool) (xs : List X) → list_all q xs ≡ true → find (λ x. not (q x)) xs ≡ None
nothing_found q [] h = refl
nothing_found q (x ∷ xs) h = let p = and_parts (q x) (list_all q xs) h in rw p.0 (nothing_found q xs p.1)

pub none_unkept : {X Y : Type 0} (q : Y → Bool) (view : X → Y) (xs : List X) → position (λ y. not (q (view y))) xs ≡ None → None ≡ find (λ y. not (q y)) (map view xs)
none_unkept q view xs at = sym (nothing_found q (map view xs) (sym (all_seen q view xs) ∙ none_fails (λ y. q (view y)) xs at))
