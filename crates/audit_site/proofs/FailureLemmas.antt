-- Where a walk failed.
use Rattle.std.proofs.Common.{◌≡◌, ◌||◌, ◌<◌, ℕ, Bool, true, false, List, [], ◌∷◌, length, get_or, map, Option, Result}
use Rattle.std.proofs.Common.{Ok, Err, IfErr, refl, subst, inl, inr}
use Rattle.std.specs.Prelude.{bytes_eq}
use Rattle.std.specs.List.{list_any}
use Rattle.std.proofs.lemmas.Slice.Eq.{bytes_eq-Decides}
use Rattle.envvars.specs.Texts.{Text}
use Rattle.filetree.specs.Agreement.{Files, Listings, FailsAt, FailsIf}
use Rattle.filetree.specs.Causes.{Cause, memory, device, because}
use Rattle.filetree.specs.Modulefiles.{directories}
use Rattle.tclrules.specs.declared.limits.Limits.{Limits}
use Rattle.modulefile.specs.Answers.{FileContext}
use Rattle.audit_laws.specs.determinism.Contexts.{EvaluationContext, first_context}
use Rattle.requests.specs.Reasons.{RequestReason}
use Rattle.search.specs.DefaultFiles.{DefaultFileResult}
use Rattle.search.specs.ListingEntries.{name_of}
use Rattle.search.specs.Looked.{LooksForListing, ListingLooksAt}
use Rattle.search.specs.declared.listing_entries.ListingEntry.{ListingEntry}
use Rattle.modules.specs.Answers.{cause_of, is_failure, is_of_device}
use Rattle.modules.specs.declared.refusal.Refusal.{Refusal}
use Rattle.modules.proofs.FailureLemmas.{unfailed}
use Rattle.audit_laws.specs.site.Sites.{Site, AreNamesBelow, module_below}
use Rattle.audit_site.specs.WalkLooked.{DirectoryLooksAt}
use Rattle.modules.specs.transient_failures.Causes.{is_transient}
use Rattle.audit_site.specs.WalkParts.{ScriptRuns, ShowsScript}
use Rattle.audit_site.specs.declared.scripts.FileEvaluation.{FileEvaluation}
use Rattle.audit_site.proofs.AmongSites.{among_at, in_map}

-- ---- the file of a module

-- what a script shows is no failure of the device
pub shows_unfailed : (limits : Limits) (context : EvaluationContext → FileContext) (text : Text) (o : Result FileEvaluation Refusal) (before now : List ℕ → Bool) (W : List ℕ → Type 0)
    → ShowsScript limits context text o → now ≡ before → FailsAt is_failure before now o W
shows_unfailed limits context text (Ok shown) before now W h same = same
shows_unfailed limits context text (Err refusal) before now W h same = unfailed refusal (λ reason. ScriptRuns limits (context first_context) text (Err reason)) before now W h same

kept_cause : (c : Cause RequestReason) → is_transient c ≡ false → is_of_device c ≡ false
kept_cause memory h = refl
kept_cause device h = absurd (cc)
kept_cause (because reason) h = refl

-- an outcome that isn't given up is none either
pub kept_unfailed : (o : Result FileEvaluation Refusal) (before now : List ℕ → Bool) (W : List ℕ → Type 0) → IfErr o (λ refusal. is_transient (cause_of refusal) ≡ false) → FailsAt is_failure before now o W
    → now ≡ before
kept_unfailed (Ok ran) before now W kept h = h
kept_unfailed (Err refusal) before now W kept h = subst (λ t. FailsIf t before now W) (kept_cause (cause_of refusal) kept) h

-- and one that is given up failed where the evaluation did
pub transient_failed : (o : Result FileEvaluation Refusal) (refusal : Refusal) (before now : List ℕ → Bool) (W : List ℕ → Type 0) → o ≡ Err refusal → FailsAt is_failure before now o W
    → FailsIf (is_failure refusal) before now W
transient_failed o refusal before now W e h = subst (λ r. FailsAt is_failure before now r W) e h

-- ---- a directory

only_one : (t : Bool) → (t || false) ≡ true → t ≡ true
only_one true h = refl
only_one false h = h

-- the listing of a MODULEPATH of one directory
pub of_one_directory : (results : Text → Text → Option DefaultFileResult → Type 0) (files : Files) (listings : Listings) (dir at : Text) → directories dir ≡ dir ∷ []
    → ListingLooksAt results files listings [] dir at → LooksForListing results files listings [] dir at
of_one_directory results files listings dir at alone (d, among, looks) =
    let one = only_one (bytes_eq d dir) (subst (λ (ds : List Text). list_any (bytes_eq d) ds ≡ true) alone among) in
    subst (λ (x : Text). LooksForListing results files listings [] x at) ((bytes_eq-Decides d dir).0 one) looks

-- the file of a module is among the paths for the listing of its directory
pub of_its_directory : (site : Site) (dir : Text) (xs : List ListingEntry) (i : ℕ) (x : ListingEntry) (at : Text) → i < length xs → x ≡ get_or xs i x → AreNamesBelow site dir (map name_of xs)
    → at ≡ (module_below dir (name_of x)).path → DirectoryLooksAt site dir at
of_its_directory site dir xs i x at l e names path =
    let below = (names.exact (name_of x)).0 (in_map name_of x xs (among_at xs i x l e)) in
    inr (inl (name_of x, record { spelled = below.spelled; reaches = below.reaches }, refl, path))
