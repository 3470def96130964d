-- A check, of the session of its lines and the verdicts on what that loaded.
use Rattle.std.proofs.Common.{◌≡◌, ℕ, Bool, ◌+◌, ◌<◌, ◌≤◌, List, arith, inl, inr, sym, subst, ap, ◌∙◌}
use Rattle.std.specs.List.{flat_map}
use Rattle.envvars.specs.Texts.{Text}
use Rattle.envvars.specs.Environment.{Environment}
use Rattle.envvars.specs.Fields.{without_repeats}
use Rattle.filetree.specs.Agreement.{FailsOnlyWhere, Files, Listings, InEachPair, Narrows}
use Rattle.filetree.proofs.FailedPaths.{only_more_in_each, only_wider_in_each}
use Rattle.shelltext.specs.declared.shell.Shell.{Shell}
use Rattle.shelltext.specs.declared.shell.Shell.TheVariants.{Sh}
use Rattle.tclrules.specs.declared.limits.Limits.{Limits}
use Rattle.requests.specs.Sessions.{end_environment, in_shell}
use Rattle.requests.specs.Steps.{RequestContext, request_context_in}
use Rattle.modules.specs.Responses.{count_failed, responses}
use Rattle.modules.specs.declared.sessions.Outcome.{Outcome}
use Rattle.modules.specs.rehearsals.Checks.{CheckLooksAt, IsCheck}
use Rattle.modules.specs.rehearsals.Judgments.{AreJudgments, NamesLookAt, count_failed_judgments}
use Rattle.modules.specs.rehearsals.Lines.{lines_in}
use Rattle.modules.specs.rehearsals.Parts.{loaded_in}
use Rattle.modules.specs.rehearsals.Sessions.{LineSession, LinesLookAt}
use Rattle.modules.specs.declared.rehearsals.checking.CheckFindings.{CheckFindings}
use Rattle.modules.proofs.rehearsals.JudgmentLemmas.{counts, judgments_narrowed, names_of_responses}

failed_before : (before mid now a : ℕ) → before + a ≤ mid → mid < now → before < now
failed_before before mid now a h k = omega arith

pub checked : (agrees agrees' : Files → Listings → Type 0) (before mid now : ℕ) (limits : Limits) (shell : Shell) (e from : Environment) (text : Text)
    (lines : List (List Text)) (names : List Text) (f : CheckFindings)
    → Narrows agrees agrees' → before + count_failed f.outcomes.items ≤ mid → mid + count_failed_judgments f.judgments.items ≤ now → from ≡ e → lines ≡ lines_in text
    → InEachPair agrees (λ files listings. LineSession (request_context_in limits shell files listings) from lines (responses from f.outcomes.items))
    → InEachPair agrees (λ files listings. f.env ≡ end_environment from (responses from f.outcomes.items))
    → names ≡ without_repeats (flat_map loaded_in f.outcomes.items) → AreJudgments agrees' (mid < now) limits e names f.judgments.items
    → IsCheck agrees' before now limits shell e text f
checked agrees agrees' before mid now limits shell e from text lines names f narrows ran_count judged_count same made ran end named judged = record {
  session = λ files listings a.
      let context = request_context_in limits shell files listings in
      let P : List (List Text) → Type 0 = λ xs. LineSession context from xs (responses from f.outcomes.items) in
      let Q : Environment → Type 0 = λ x. LineSession context x (lines_in text) (responses x f.outcomes.items) in
      subst Q same (subst P made (ran files listings (narrows files listings a)));
  end = λ files listings a.
      let Q : Environment → Type 0 = λ x. f.env ≡ end_environment x (responses x f.outcomes.items) in
      subst Q same (end files listings (narrows files listings a));
  judged =
      let P : List Text → Type 0 = λ xs. AreJudgments agrees' (before < now) limits e xs f.judgments.items in
      subst P (named ∙ ap without_repeats (sym (names_of_responses e f.outcomes.items)))
      (judgments_narrowed agrees' agrees' (mid < now) (before < now) limits e names f.judgments.items (λ files listings a. a)
      (λ h. failed_before before mid now (count_failed f.outcomes.items) ran_count h) judged);
  failures = counts before mid now (count_failed f.outcomes.items) (count_failed_judgments f.judgments.items) ran_count judged_count;
}

-- ---- where a check looks

looks_by_lines : (s : RequestContext) (from e : Environment) (lines lines' : List (List Text)) (at : Text) → from ≡ e → lines ≡ lines' → LinesLookAt s from lines at → CheckLooksAt s e lines' at
looks_by_lines s from e lines lines' at same made h =
    let P : List (List Text) → Type 0 = λ xs. LinesLookAt s from xs at in
    let Q : Environment → Type 0 = λ x. LinesLookAt s x lines' at in
    inl (subst Q same (subst P made h))

looks_by_names : (s : RequestContext) (from e : Environment) (lines lines' : List (List Text)) (names : List Text) (outcomes : List Outcome) (at : Text) → from ≡ e → lines ≡ lines'
    → LineSession s from lines (responses from outcomes) → names ≡ without_repeats (flat_map loaded_in outcomes) → NamesLookAt (in_shell s Sh) e names at → CheckLooksAt s e lines' at
looks_by_names s from e lines lines' names outcomes at same made ran named h =
    let P : List (List Text) → Type 0 = λ xs. LineSession s from xs (responses from outcomes) in
    let Q : Environment → Type 0 = λ x. LineSession s x lines' (responses x outcomes) in
    let N : List Text → Type 0 = λ ns. NamesLookAt (in_shell s Sh) e ns at in
    inr (responses e outcomes, subst Q same (subst P made ran), subst N (named ∙ ap without_repeats (sym (names_of_responses e outcomes))) h)

-- where the device has failed after the lines
pub check_fails_in_lines : (agrees : Files → Listings → Type 0) (before now : List ℕ → Bool) (limits : Limits)
    (shell : Shell) (from e : Environment) (text : Text) (lines : List (List Text)) → from ≡ e → lines ≡ lines_in text
    → FailsOnlyWhere before now (λ at. InEachPair agrees (λ files listings. LinesLookAt (request_context_in limits shell files listings) from lines at))
    → FailsOnlyWhere before now (λ at. InEachPair agrees (λ files listings. CheckLooksAt (request_context_in limits shell files listings) e (lines_in text) at))
check_fails_in_lines agrees before now limits shell from e text lines same made =
    let Here : Files → Listings → Text → Type 0 = λ files listings at. LinesLookAt (request_context_in limits shell files listings) from lines at in
    let Whole : Files → Listings → Text → Type 0 = λ files listings at. CheckLooksAt (request_context_in limits shell files listings) e (lines_in text) at in
    only_wider_in_each agrees before now Here Whole (λ files listings agreed at h. looks_by_lines (request_context_in limits shell files listings) from e lines (lines_in text) at same made h)

-- and after the verdicts on what they loaded
pub check_fails : (agrees agrees' : Files → Listings → Type 0) (before mid now : List ℕ → Bool) (limits : Limits)
    (shell : Shell) (from e : Environment) (text : Text) (lines : List (List Text)) (names : List Text)
    (outcomes : List Outcome)
    → Narrows agrees agrees' → from ≡ e → lines ≡ lines_in text
    → InEachPair agrees (λ files listings. LineSession (request_context_in limits shell files listings) from lines (responses from outcomes)) → names ≡ without_repeats (flat_map loaded_in outcomes)
    → FailsOnlyWhere before mid (λ at. InEachPair agrees (λ files listings. LinesLookAt (request_context_in limits shell files listings) from lines at))
    → FailsOnlyWhere mid now (λ at. InEachPair agrees' (λ files listings. NamesLookAt (request_context_in limits Sh files listings) e names at))
    → FailsOnlyWhere before now (λ at. InEachPair agrees' (λ files listings. CheckLooksAt (request_context_in limits shell files listings) e (lines_in text) at))
check_fails agrees agrees' before mid now limits shell from e text lines names outcomes narrows same made ran named first second =
    let Here : Files → Listings → Text → Type 0 = λ files listings at. NamesLookAt (request_context_in limits Sh files listings) e names at in
    let Whole : Files → Listings → Text → Type 0 = λ files listings at. CheckLooksAt (request_context_in limits shell files listings) e (lines_in text) at in
    only_more_in_each agrees agrees' before mid now Here Whole narrows
    (λ files listings agreed at h.
    looks_by_names (request_context_in limits shell files listings) from e lines (lines_in text) names outcomes at same made (ran files listings agreed) named h)
    (check_fails_in_lines agrees before mid limits shell from e text lines same made first) second
