-- What the default files of a folder name, one after the other.
use Rattle.std.proofs.Common.{◌≡◌, Option, Some, None, Result, Ok, Err, inl, inr, refl, ⊎_elim, subst, sym}
use Rattle.modulename.specs.ModuleName.{Text}
use Rattle.filetree.specs.Agreement.{Files, Listings}
use Rattle.search.specs.Reasons.{FindReason}
use Rattle.search.specs.DefaultVersions.{DefaultFileResult}
use Rattle.search.specs.Candidates.{IsCandidate}
use Rattle.search.specs.Found.{IsSomeCandidate, NamedDefault}
use Rattle.search.specs.Looked.{ModulercNamesNoCandidate}
use Rattle.search.specs.declared.version_named.DefaultFile.{DefaultFile}
use Rattle.search.specs.declared.version_named.DefaultFile.TheVariants.{Modulerc, Version}
use Rattle.search.specs.VersionsNamed.{NamedBy}

-- what two answers give that are one
pub same_value : {A R : Type 0} (x y : A) (o p : Result A R) → o ≡ Ok x → p ≡ Ok y → o ≡ p → x ≡ y
same_value x y o p h k e = cc

-- `.modulerc` passes on to `.version`
pub modulerc_names_no_candidate : (results : Text → Text → Option DefaultFileResult → Type 0) (files : Files) (listings : Listings) (dir name : Text)
    → NamedBy results files listings dir name Modulerc (Ok None) → ModulercNamesNoCandidate results files listings dir name
modulerc_names_no_candidate results files listings dir name (Ok first, names, rest) = (first, names, no)
  where
    no : IsSomeCandidate (IsCandidate files listings dir name) first → ⊥
    no h = ⊎_elim (λ c. let e : first ≡ None = same_value first None (Ok first) (Ok None) refl refl (sym c.1) in subst (IsSomeCandidate (IsCandidate files listings dir name)) e h) (λ c. c.0 h) rest
modulerc_names_no_candidate results files listings dir name (Err r, names, rest) = absurd (cc)

-- `.version` is asked where `.modulerc` names no candidate
pub named_second : (results : Text → Text → Option DefaultFileResult → Type 0) (files : Files) (listings : Listings) (dir name : Text) (o : Result (Option Text) FindReason)
    → NamedBy results files listings dir name Modulerc (Ok None) → NamedBy results files listings dir name Version o → NamedDefault results files listings dir name o
named_second results files listings dir name o first second =
    let p = modulerc_names_no_candidate results files listings dir name first in (Ok p.0, p.1, inr (p.2, second))

named_by_candidate : (results : Text → Text → Option DefaultFileResult → Type 0) (files : Files) (listings : Listings) (dir name v : Text) (file : DefaultFile)
    → NamedBy results files listings dir name file (Ok (Some v)) → IsCandidate files listings dir name v
named_by_candidate results files listings dir name v file (Ok first, names, rest) =
    ⊎_elim (λ c. let e : first ≡ Some v = same_value first (Some v) (Ok first) (Ok (Some v)) refl refl (sym c.1) in subst (IsSomeCandidate (IsCandidate files listings dir name)) e c.0)
    (λ c. let e : Some v ≡ None = same_value (Some v) None (Ok (Some v)) (Ok None) refl refl c.1 in absurd (cc)) rest
named_by_candidate results files listings dir name v file (Err r, names, rest) = absurd (cc)

-- what default files name is a candidate
pub named_is_candidate : (results : Text → Text → Option DefaultFileResult → Type 0) (files : Files) (listings : Listings) (dir name v : Text)
    → NamedDefault results files listings dir name (Ok (Some v)) → IsCandidate files listings dir name v
named_is_candidate results files listings dir name v (Ok first, names, rest) =
    ⊎_elim (λ c. named_by_candidate results files listings dir name v Modulerc (Ok first, names, inl c))
    (λ c. named_by_candidate results files listings dir name v Version c.1) rest
named_is_candidate results files listings dir name v (Err r, names, rest) = absurd (cc)
