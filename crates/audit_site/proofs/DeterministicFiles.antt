-- What the code has of evaluated files is deterministic where their evaluations are, and consistent where these are.
use Rattle.std.proofs.Common.{◌≡◌, Bool, true, false, cond, not, ◌&&◌, List, [], ◌∷◌, find, Option, Some, None, Ok}
use Rattle.std.proofs.Common.{refl, ap, sym, ◌∙◌, subst}
use Rattle.std.specs.Prelude.{is_none, MatchOption}
use Rattle.std.specs.List.{list_all}
use Rattle.std.specs.Option.{option_map}
use Rattle.std.proofs.lemmas.Bool.{false≢true, and_parts}
use Rattle.envvars.specs.Texts.{Text}
use Rattle.envvars.specs.Fields.{colon, without_repeats}
use Rattle.envvars.proofs.TextLemmas.{bytes_eq-same}
use Rattle.modulefile_run.specs.Questions.{question_view}
use Rattle.reversal.specs.VariableUses.{VariableUse, Pathed, can_return, UsedVariable}
use Rattle.requests.specs.Reasons.{RequestReason}
use Rattle.audit_laws.specs.determinism.Contexts.{FileRuns, are_runs_equivalent, has_stable_answer, have_stable_answers, is_deterministic, reads_in}
use Rattle.audit_certificate.specs.RecordUses.{modulepath, is_read, same_use, is_same_use}
use Rattle.audit_certificate.specs.Candidates.{uses_of}
use Rattle.audit_certificate.specs.Steps.{are_consistent}
use Rattle.audit_certificate.proofs.UsedLemmas.{by_test, by_cases}
use Rattle.audit_certificate.proofs.Exact.{all_each}
use Rattle.audit_laws.specs.site.Sites.{SiteModule, candidate_of}
use Rattle.audit_laws.specs.site.Standings.{IsUsedTwice}
use Rattle.audit_site.specs.Walks.{uses_told, uses_in, AreUsedTwice, IsOfRuns}
use Rattle.audit_site.specs.DeterministicRuns.{is_deterministic_file, deterministic_records}
use Rattle.audit_site.specs.declared.unlike.UnlikeUses.{UnlikeUses}
use Rattle.audit_site.specs.declared.walk.EvaluatedFile.{EvaluatedFile}

none_fails : {X : Type 0} (q : X → Bool) (xs : List X) → is_none (find (λ x. not (q x)) xs) ≡ list_all q xs
none_fails q [] = refl
none_fails q (x ∷ xs) = by_test (q x) _ (λ t. rw t (none_fails q xs)) (λ f. rw f refl)

none_seen : {X Y : Type 0} (f : X → Y) (o : Option X) → is_none (option_map f o) ≡ is_none o
none_seen f None = refl
none_seen f (Some x) = refl

pub kept_same : (file : EvaluatedFile) (runs : FileRuns RequestReason) → IsOfRuns file runs → is_none file.unkept ≡ have_stable_answers runs
kept_same file runs of =
    sym (none_seen question_view file.unkept)
    ∙ (ap (λ (o : Option _). is_none o) of.unkept ∙ none_fails (has_stable_answer (are_runs_equivalent runs) runs.first.records) runs.first.asked)

pub deterministic_same : (file : EvaluatedFile) (runs : FileRuns RequestReason) → IsOfRuns file runs → is_deterministic_file file ≡ is_deterministic runs
deterministic_same file runs of = let kept = kept_same file runs of in λ i. kept i && list_all can_return (of.records i)

pub records_same : (file : EvaluatedFile) (runs : FileRuns RequestReason) → IsOfRuns file runs → deterministic_records (Ok file) ≡ cond (is_deterministic runs) runs.first.records []
records_same file runs of = let same = deterministic_same file runs of in λ i. cond (same i) (of.records i) []

-- ---- consistent, or not

unlike_at : (v : Text) (x y : VariableUse) → is_same_use (v, x) (v, y) ≡ true → is_read x ≡ false → same_use x y ≡ false → ⊥
unlike_at v x y h u d = false≢true (rw (u, bytes_eq-same v, d) at h)

pub twice_not : (ps : List UsedVariable) (v : Text) (x y : VariableUse) → IsUsedTwice ps v x y → are_consistent ps ≡ true → ⊥
twice_not ps v x y twice h =
    let each = and_parts (is_same_use (v, x) (modulepath, Pathed colon)) (list_all (is_same_use (v, x)) ps)
    (all_each (λ p. is_same_use p (modulepath, Pathed colon) && list_all (is_same_use p) ps) ps h (v, x) twice.first) in
    by_cases twice.second
    (λ e. unlike_at v x y (ap (is_same_use (v, x)) e ∙ each.0) twice.used twice.differ)
    (λ a. unlike_at v x y (all_each (is_same_use (v, x)) ps each.1 (v, y) a) twice.used twice.differ)

abbrev Steps : List UsedVariable → Option UnlikeUses → Type 0
Steps ps unlike = MatchOption unlike (are_consistent ps ≡ true) (AreUsedTwice ps)

pub used_twice : (file : EvaluatedFile) (runs : FileRuns RequestReason) (unlike : UnlikeUses) → IsOfRuns file runs → file.unlike ≡ Some unlike → AreUsedTwice (uses_in runs) unlike
used_twice file runs unlike of e = subst (Steps (uses_in runs)) e of.unlike

pub stepping_by : (file : EvaluatedFile) (runs : FileRuns RequestReason) → IsOfRuns file runs → file.unlike ≡ None → are_consistent (uses_in runs) ≡ true
stepping_by file runs of e = subst (Steps (uses_in runs)) e of.unlike

-- where each question has a stable answer, the reads are uses of the module
pub uses_are : (m : SiteModule) (runs : FileRuns RequestReason) → have_stable_answers runs ≡ true → uses_in runs ≡ uses_of (candidate_of m runs)
uses_are m runs k = ap (λ (b : Bool). uses_told runs.first.records b (without_repeats (reads_in runs))) k
