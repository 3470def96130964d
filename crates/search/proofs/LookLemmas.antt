-- The paths that the steps of a search look at.
use Rattle.std.proofs.Common.{◌≡◌, true, List, ◌∷◌, Option, Some, None, Result, Ok, Err, inl, inr, refl, sym, ap, subst}
use Rattle.std.specs.Prelude.{codes}
use Rattle.modulename.specs.ModuleName.{Text}
use Rattle.filetree.specs.Agreement.{Files, Listings}
use Rattle.filetree.specs.Modulefiles.{FileContent, absent, no_cookie, not_utf8, script, modulefile, is_module, path_of}
use Rattle.search.specs.DefaultVersions.{DefaultFileResult, VersionIn, by_command, by_variable}
use Rattle.search.specs.DefaultFiles.{Names}
use Rattle.search.specs.Candidates.{IsModuleAt, IsCandidate, HasCandidates, IsVersionIn}
use Rattle.search.specs.Found.{IsSomeCandidate, NamedDefault, DefaultVersion, default_file}
use Rattle.search.specs.Looked.{LooksAtDefaultFile, LooksForNamed, LooksInFolder, LooksBelow, GivesModule, LooksAlong}
use Rattle.search.specs.Steps.{module_in, module_at, DefaultIn, OfDefault, FoundBelow}
use Rattle.search.proofs.StepLemmas.{default_is_candidate}
use Rattle.search.proofs.NamedLemmas.{same_value}

some_value : {A R : Type 0} (x y : A) (o p : Result (Option A) R) → o ≡ Ok (Some x) → p ≡ Ok (Some y) → o ≡ p → x ≡ y
some_value x y o p h k e = cc

no_module : (name path : Text) (held : FileContent) → Ok None ≡ module_in name path held → is_module held ≡ true → ⊥
no_module name path absent e m = absurd (cc)
no_module name path no_cookie e m = absurd (cc)
no_module name path not_utf8 e m = absurd (cc)
no_module name path (script text) e m = absurd (cc)

-- what gives no module at a name has none there
pub not_at : (files : Files) (dir name : Text) → Ok None ≡ module_at files dir name → IsModuleAt files (path_of dir name) → ⊥
not_at files dir name = no_module name (path_of dir name) (modulefile (files (path_of dir name)))

module _ (results : Text → Text → Option DefaultFileResult → Type 0) (files : Files) (listings : Listings) (dir name : Text) where
  is_version_in : (v : Text) → IsCandidate files listings dir name v → IsVersionIn listings dir name v
  is_version_in v c = record { entry = c.entry; single = c.single; spelled = c.spelled }

  looked_by : (v : Text) (says : VersionIn) (file : Text) (first : Option Text) → Names results files says (default_file dir name file) (Ok first)
      → IsSomeCandidate (IsCandidate files listings dir name) first → first ≡ Some v → LooksAtDefaultFile results files listings dir name says file (path_of dir (path_of name v))
  looked_by v says file first names c e =
      inr (v, subst (λ x. Names results files says (default_file dir name file) (Ok x)) e names, (is_version_in v (subst (IsSomeCandidate (IsCandidate files listings dir name)) e c), refl))

  named_looked : (v : Text) → NamedDefault results files listings dir name (Ok (Some v)) → LooksForNamed results files listings dir name (path_of dir (path_of name v))
  named_looked v (Ok first, names, inl (c, e)) = inl (looked_by v (by_command name) (codes ".modulerc") first names c (sym (same_value (Some v) first (Ok (Some v)) (Ok first) refl refl e)))
  named_looked v (Ok first, names, inr (unnamed, (Ok second, also, inl (c, e)))) =
      inr ((first, names, unnamed), looked_by v by_variable (codes ".version") second also c (sym (same_value (Some v) second (Ok (Some v)) (Ok second) refl refl e)))
  named_looked v (Ok first, names, inr (unnamed, (Ok second, also, inr (none, e)))) = absurd (cc)
  named_looked v (Ok first, names, inr (unnamed, (Err r, also, e))) = absurd (cc)
  named_looked v (Err r, names, e) = absurd (cc)

  chosen_looked : (v : Text) → IsCandidate files listings dir name v → DefaultVersion results files listings dir name (Ok v) → LooksInFolder results files listings dir name (path_of dir (path_of name v))
  chosen_looked v c (Ok (Some w), h, e) =
      ((v, is_version_in v c), inl (named_looked v (subst (λ x. NamedDefault results files listings dir name (Ok (Some x))) (sym (same_value v w (Ok v) (Ok w) refl refl e)) h)))
  chosen_looked v c (Ok None, h, (w, greatest, e)) =
      let same : w ≡ v = sym (same_value v w (Ok v) (Ok w) refl refl e) in
      ((v, is_version_in v c), inr (inl h, (w, (is_version_in w greatest.member, ap (λ x. path_of dir (path_of name x)) (sym same)), greatest.last)))
  chosen_looked v c (Err r, h, e) = absurd (cc)

  -- the file of the default candidate is looked at
  pub default_looked : (v : Text) → DefaultIn results files listings dir name (Ok (Some v)) → LooksInFolder results files listings dir name (path_of dir (path_of name v))
  default_looked v (inl (c, (Ok w, default, e))) =
      let here : DefaultVersion results files listings dir name (Ok v) = subst (λ x. DefaultVersion results files listings dir name (Ok x)) (sym (some_value v w (Ok (Some v)) (Ok (Some w)) refl refl e)) default in
      chosen_looked v (default_is_candidate results files listings dir name v here) here
  default_looked v (inl (c, (Err r, default, e))) = absurd (cc)
  default_looked v (inr (none, e)) = absurd (cc)

  given_none : (v : Option Text) → DefaultIn results files listings dir name (Ok v) → OfDefault files dir name v (Ok None) → HasCandidates files listings dir name → ⊥
  given_none None (inl (c, (Ok w, default, e))) of some = absurd (cc)
  given_none None (inl (c, (Err r, default, e))) of some = absurd (cc)
  given_none None (inr (none, e)) of some = none some
  given_none (Some v) (inl (c, (Ok w, default, e))) of some =
      let here : DefaultVersion results files listings dir name (Ok v) = subst (λ x. DefaultVersion results files listings dir name (Ok x)) (sym (some_value v w (Ok (Some v)) (Ok (Some w)) refl refl e)) default in
      not_at files dir (path_of name v) of (default_is_candidate results files listings dir name v here).file
  given_none (Some v) (inl (c, (Err r, default, e))) of some = absurd (cc)
  given_none (Some v) (inr (none, e)) of some = absurd (cc)

  -- a directory that gave nothing has no module that the name can mean
  pub gives_none : FoundBelow results files listings dir name (Ok None) → GivesModule files listings dir name → ⊥
  gives_none (inl (at, e)) gives = not_at files dir name e at
  gives_none (inr (other, (Ok v, d, of))) (inl at) = other at
  gives_none (inr (other, (Ok v, d, of))) (inr some) = given_none v d of some
  gives_none (inr (other, (Err r, d, e))) gives = absurd (cc)

-- along the directories from one on, in that one or after it
module _ (results : Text → Text → Option DefaultFileResult → Type 0) (files : Files) (listings : Listings) (name first : Text) (after rest : List Text) (split : rest ≡ first ∷ after) (at : Text) where
  pub looks_here : LooksBelow results files listings first name at → LooksAlong results files listings name rest at
  looks_here h = subst (λ dirs. LooksAlong results files listings name dirs at) (sym split) (inl h)

  pub looks_after : FoundBelow results files listings first name (Ok None) → LooksAlong results files listings name after at → LooksAlong results files listings name rest at
  looks_after below h = subst (λ dirs. LooksAlong results files listings name dirs at) (sym split) (inr (gives_none results files listings first name below, h))
