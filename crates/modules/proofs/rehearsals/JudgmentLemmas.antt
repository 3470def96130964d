-- Verdicts one after another, and the names that are judged.
use Rattle.std.proofs.Common.{◌≡◌, ℕ, Bool, ◌+◌, ◌<◌, ◌≤◌, List, [], ◌∷◌, ◌++◌, length, take, get_or, Bor, string_bytes}
use Rattle.std.proofs.Common.{Result, Ok, Err, refl, sym, subst, ap, ◌∙◌, arith}
use Rattle.std.proofs.lemmas.List.{get_or-map, length-map, map-append, take_more}
use Rattle.std.specs.List.{Any, flat_map}
use Rattle.envvars.specs.Texts.{Text, slice_texts, texts_in}
use Rattle.envvars.specs.Environment.{Environment}
use Rattle.filetree.specs.Agreement.{FailsOnlyWhere, Files, Listings, InEachPair, Narrows}
use Rattle.filetree.proofs.FailedPaths.{only_more_in_each}
use Rattle.filetree.specs.Causes.{Cause, Applies, memory, device, because}
use Rattle.requests.specs.Looked.{SearchLooksAt}
use Rattle.modulefile.specs.Moves.{Move, Loads, Unloads, loaded_names}
use Rattle.tclrules.specs.declared.limits.Limits.{Limits}
use Rattle.requests.specs.Reasons.{RequestReason}
use Rattle.requests.specs.Sessions.{Response, session_moves, env_after}
use Rattle.requests.specs.Verdicts as verdicts
use Rattle.modules.specs.Answers.{StepAnswersOverTree, cause_of}
use Rattle.modules.specs.Verdicts.{in_sh, verdict_view}
use Rattle.modules.specs.MoveViews.{moves_of}
use Rattle.modules.specs.declared.judged.Verdict.{Verdict}
use Rattle.modules.specs.declared.refusal.Refusal.{Refusal}
use Rattle.modules.specs.Responses.{by_cause, count_cause, response_of, responses}
use Rattle.modules.specs.declared.sessions.Outcome.{Outcome}
use Rattle.modules.specs.declared.sessions.Outcome.TheVariants.{Accepted, Refused}
use Rattle.modules.specs.Messages.{number_of}
use Rattle.modules.specs.rehearsals.Judgments.{IsJudgment, AreJudgments, NamesLookAt, count_failed_judgments, count_unjudged}
use Rattle.modules.specs.rehearsals.Parts.{loaded_in}
use Rattle.modules.specs.declared.rehearsals.judging.ModuleVerdict.{ModuleVerdict}

-- ---- what holds for more maps, and after fewer failures

narrowed_cause : (c : Cause RequestReason) (agrees agrees' : Files → Listings → Type 0) (failed failed' : Type 0) (Is : RequestReason → Files → Listings → Type 0)
    → Narrows agrees agrees' → (failed → failed') → Applies c failed (λ r. InEachPair agrees (Is r)) → Applies c failed' (λ r. InEachPair agrees' (Is r))
narrowed_cause memory agrees agrees' failed failed' Is narrows fails h = tt
narrowed_cause device agrees agrees' failed failed' Is narrows fails h = fails h
narrowed_cause (because r) agrees agrees' failed failed' Is narrows fails h = λ files listings a. h files listings (narrows files listings a)

narrowed : {X Y : Type 0} (view : X → Y) (agrees agrees' : Files → Listings → Type 0) (failed failed' : Type 0) (r : Result X Refusal)
    (Comes : Files → Listings → Result Y RequestReason → Type 0)
    → Narrows agrees agrees' → (failed → failed') → StepAnswersOverTree agrees failed view r Comes → StepAnswersOverTree agrees' failed' view r Comes
narrowed view agrees agrees' failed failed' (Ok x) Comes narrows fails h = λ files listings a. h files listings (narrows files listings a)
narrowed view agrees agrees' failed failed' (Err e) Comes narrows fails h =
    narrowed_cause (cause_of e) agrees agrees' failed failed' (λ r files listings. Comes files listings (Err r)) narrows fails h

pub judgment_narrowed : (agrees agrees' : Files → Listings → Type 0) (failed failed' : Type 0) (limits : Limits) (e : Environment) (name : Text) (j : ModuleVerdict)
    → Narrows agrees agrees' → (failed → failed') → IsJudgment agrees failed limits e name j → IsJudgment agrees' failed' limits e name j
judgment_narrowed agrees agrees' failed failed' limits e name j narrows fails h = (h.0, narrowed _ agrees agrees' failed failed' j.verdict _ narrows fails h.1)

pub judgments_narrowed : (agrees agrees' : Files → Listings → Type 0) (failed failed' : Type 0) (limits : Limits) (e : Environment) (names : List Text) (js : List ModuleVerdict)
    → Narrows agrees agrees' → (failed → failed') → AreJudgments agrees failed limits e names js → AreJudgments agrees' failed' limits e names js
judgments_narrowed agrees agrees' failed failed' limits e [] [] narrows fails h = tt
judgments_narrowed agrees agrees' failed failed' limits e [] (j ∷ js) narrows fails h = absurd h
judgments_narrowed agrees agrees' failed failed' limits e (name ∷ names) [] narrows fails h = absurd h
judgments_narrowed agrees agrees' failed failed' limits e (name ∷ names) (j ∷ js) narrows fails h =
    (judgment_narrowed agrees agrees' failed failed' limits e name j narrows fails h.0, judgments_narrowed agrees agrees' failed failed' limits e names js narrows fails h.1)

-- ---- one judgment more

pub judgments_push : (agrees : Files → Listings → Type 0) (failed : Type 0) (limits : Limits) (e : Environment) (names : List Text) (js : List ModuleVerdict) (name : Text) (j : ModuleVerdict)
    → AreJudgments agrees failed limits e names js → IsJudgment agrees failed limits e name j → AreJudgments agrees failed limits e (names ++ name ∷ []) (js ++ j ∷ [])
judgments_push agrees failed limits e [] [] name j h k = (k, tt)
judgments_push agrees failed limits e [] (i ∷ js) name j h k = absurd h
judgments_push agrees failed limits e (n ∷ names) [] name j h k = absurd h
judgments_push agrees failed limits e (n ∷ names) (i ∷ js) name j h k = (h.0, judgments_push agrees failed limits e names js name j h.1 k)

-- ---- how many have no verdict since the device failed

none_more : (n : ℕ) → n + 0 ≡ 0 + n
none_more n = omega arith

plus_assoc : (a b c : ℕ) → a + (b + c) ≡ (a + b) + c
plus_assoc a b c = omega arith

judgments_count : (js : List ModuleVerdict) (j : ModuleVerdict) → count_failed_judgments (js ++ j ∷ []) ≡ count_failed_judgments js + count_unjudged j.verdict
judgments_count [] j = none_more (count_unjudged j.verdict)
judgments_count (i ∷ js) j = ap (λ n. count_unjudged i.verdict + n) (judgments_count js j) ∙ plus_assoc (count_unjudged i.verdict) (count_failed_judgments js) (count_unjudged j.verdict)

pub counts : (before mid now a b : ℕ) → before + a ≤ mid → mid + b ≤ now → before + (a + b) ≤ now
counts before mid now a b h k = omega arith

pub failures_more : (before mid now : ℕ) (js : List ModuleVerdict) (j : ModuleVerdict) → before + count_failed_judgments js ≤ mid → mid + count_unjudged j.verdict ≤ now
    → before + count_failed_judgments (js ++ j ∷ []) ≤ now
failures_more before mid now js j h k =
    let P : ℕ → Type 0 = λ n. before + n ≤ now in
    subst P (sym (judgments_count js j)) (counts before mid now (count_failed_judgments js) (count_unjudged j.verdict) h k)

none_failed : (before now : ℕ) → before ≤ now → before + 0 ≤ now
none_failed before now h = omega arith

one_failed : (before now : ℕ) → before < now → before + 1 ≤ now
one_failed before now h = omega arith

cause_counts : (c : Cause RequestReason) (before now : ℕ) (Is : RequestReason → Type 0) → before ≤ now → Applies c (before < now) Is → before + count_cause c ≤ now
cause_counts memory before now Is later h = none_failed before now later
cause_counts device before now Is later h = one_failed before now h
cause_counts (because r) before now Is later h = none_failed before now later

pub verdict_counts : (agrees : Files → Listings → Type 0) (before now : ℕ) (r : Result Verdict Refusal) (Comes : Files → Listings → Result verdicts.Verdict RequestReason → Type 0)
    → before ≤ now → StepAnswersOverTree agrees (before < now) verdict_view r Comes → before + count_unjudged r ≤ now
verdict_counts agrees before now (Ok v) Comes later h = none_failed before now later
verdict_counts agrees before now (Err refusal) Comes later h = cause_counts (cause_of refusal) before now (λ r. InEachPair agrees (λ files listings. Comes files listings (Err r))) later h

-- ---- the remaining names

pub more_below : (a b c : ℕ) → a < b → b ≤ c → a < c
more_below a b c h k = omega arith

pub below_more : (a b c : ℕ) → a ≤ b → b < c → a < c
below_more a b c h k = omega arith

pub named_so_far : (names : List (Bor Text)) (i : ℕ) (d : Bor Text) (name : Text) → i < length names → name ≡ (get_or names i d).now
    → slice_texts (take (i + 1) names) ≡ slice_texts (take i names) ++ name ∷ []
named_so_far names i d name below same =
    ap slice_texts (take_more names i d below)
    ∙ (map-append (λ (x : Bor Text). x.now) (take i names) (get_or names i d ∷ []) ∙ ap (λ (t : Text). slice_texts (take i names) ++ t ∷ []) (sym same))

-- what holds of the name of a turn holds of one of them
pub named_at : (names : List (Bor Text)) (i : ℕ) (d : Bor Text) (P : Text → Type 0) → i < length names → P (get_or names i d).now → Any P (slice_texts names)
named_at names i d P below p =
    let text : Bor Text → Text = λ x. x.now in
    let In : ℕ → Type 0 = λ n. i < n in
    (i, (get_or names i d).now, subst In (sym (length-map names text)) below, get_or-map text names i d (get_or names i d).now below, p)

-- where the device has failed after the search for one name more
pub names_fail : (agrees agrees' : Files → Listings → Type 0) (before mid now : List ℕ → Bool) (limits : Limits) (e : Environment) (names : List (Bor Text)) (i : ℕ) (d : Bor Text)
    → Narrows agrees agrees' → i < length names
    → FailsOnlyWhere before mid (λ at. InEachPair agrees (λ files listings. NamesLookAt (in_sh limits files listings) e (slice_texts names) at))
    → FailsOnlyWhere mid now (λ at. InEachPair agrees' (λ files listings. SearchLooksAt (in_sh limits files listings) e (get_or names i d).now at))
    → FailsOnlyWhere before now (λ at. InEachPair agrees' (λ files listings. NamesLookAt (in_sh limits files listings) e (slice_texts names) at))
names_fail agrees agrees' before mid now limits e names i d narrows below first second =
    let Whole : Files → Listings → Text → Type 0 = λ files listings at. NamesLookAt (in_sh limits files listings) e (slice_texts names) at in
    let Here : Files → Listings → Text → Type 0 = λ files listings at. SearchLooksAt (in_sh limits files listings) e (get_or names i d).now at in
    only_more_in_each agrees agrees' before mid now Here Whole narrows
    (λ files listings agreed at h. named_at names i d (λ n. SearchLooksAt (in_sh limits files listings) e n at) below h) first second

-- a judgment of a name that was copied
pub judged_name : (agrees : Files → Listings → Type 0) (failed failed' : Type 0) (limits : Limits) (e : Environment) (name : Text) (j : ModuleVerdict)
    → string_bytes j.name ≡ name → (failed → failed')
    → StepAnswersOverTree agrees failed verdict_view j.verdict (λ files listings. verdicts.HasVerdict (in_sh limits files listings) e name)
    → IsJudgment agrees failed' limits e (string_bytes j.name) j
judged_name agrees failed failed' limits e name j same fails h =
    let P : Text → Type 0 = λ n. StepAnswersOverTree agrees failed' verdict_view j.verdict (λ files listings. verdicts.HasVerdict (in_sh limits files listings) e n) in
    (refl, subst P (sym same) (narrowed verdict_view agrees agrees failed failed' j.verdict _ (λ files listings a. a) fails h))

-- ---- the names of what was loaded

names_append : (ms ns : List Move) → loaded_names (ms ++ ns) ≡ loaded_names ms ++ loaded_names ns
names_append [] ns = refl
names_append (Loads m ∷ ms) ns = ap (λ (xs : List Text). m.name ∷ xs) (names_append ms ns)
names_append (Unloads m ∷ ms) ns = names_append ms ns

no_moves : (number : ℕ) (c : Cause RequestReason) (os : List Response) → session_moves (by_cause number c ∷ os) ≡ session_moves os
no_moves number memory os = refl
no_moves number device os = refl
no_moves number (because r) os = refl

-- what outcomes loaded is what their moves load
pub names_of_responses : (e : Environment) (os : List Outcome) → loaded_names (session_moves (responses e os)) ≡ flat_map loaded_in os
names_of_responses e [] = refl
names_of_responses e (Accepted done ∷ os) =
    names_append (moves_of done.moves) (session_moves (responses (env_after e (response_of e (Accepted done))) os))
    ∙ (ap (λ xs. xs ++ loaded_names (session_moves (responses (env_after e (response_of e (Accepted done))) os))) (sym done.named)
    ∙ ap (λ xs. texts_in done.loaded ++ xs) (names_of_responses (env_after e (response_of e (Accepted done))) os))
names_of_responses e (Refused refusal ∷ os) =
    ap loaded_names (no_moves (number_of refusal) (cause_of refusal) (responses (env_after e (response_of e (Refused refusal))) os))
    ∙ names_of_responses (env_after e (response_of e (Refused refusal))) os
