-- Default files that name no version in their folder.
use Rattle.std.proofs.Common.{⊎_elim, inr, ◌≡◌, Option, Some, None, Result, Ok, Err, sym, ap, ◌∙◌}
use Rattle.std.specs.Prelude.{IsSome}
use Rattle.modulename.specs.ModuleName.{Text}
use Rattle.tclrules.specs.declared.limits.Limits.{Limits}
use Rattle.filetree.specs.Agreement.{Files, Listings}
use Rattle.filetree.specs.Modulefiles.{path_of}
use Rattle.lookup.specs.DefaultFileResults.{HasResult}
use Rattle.search.specs.DefaultFiles.{DefaultFileResult}
use Rattle.search.specs.Found.{Found, FoundModule, NamedDefault}
use Rattle.search.specs.Reasons.{FindReason, bad_default}
use Rattle.search.proofs.OneFound.{one_named}
use Rattle.audit_site.specs.Folders.{FolderText, IsBadAnswer}
use Rattle.audit_site.specs.WithoutVersion.{IsAnswer, NamesNoVersion, or_else, where_nothing}

pub first_there : (a b : Option Text) (path : Text) → a ≡ Some path → Some path ≡ or_else a b
first_there a b path e = sym (ap (λ (x : Option Text). or_else x b) e)

pub other_there : (a b o : Option Text) → a ≡ None → o ≡ b → o ≡ or_else a b
other_there a b o none e = e ∙ sym (ap (λ (x : Option Text). or_else x b) none)

some_not_none : (path : Text) → (let o : Option Text = None in o) ≡ Some path → ⊥
some_not_none path e = cc

pub is_some : {X : Type 0} (o : Option X) (x : X) → o ≡ Some x → IsSome o
is_some o x e = cc

-- what is answered where the default files name this
module _ (limits : Limits) (files : Files) (listings : Listings) (dir name : Text) (folder : IsSome (listings (path_of dir name)))
    (one : (path text : Text) (o p : Option DefaultFileResult) → HasResult limits path text o → HasResult limits path text p → o ≡ p) where
  found : (named : Result (Option Text) FindReason) (o : Option Text) → NamedDefault (HasResult limits) files listings dir name named → o ≡ where_nothing named files dir name
      → (path : Text) → o ≡ Some path → NamesNoVersion limits files listings dir name path
  found (Ok None) o named e path is = record { folder = folder; nothing = named; first = sym e ∙ is }
  found (Ok (Some version)) o named e path is = absurd (some_not_none path (sym e ∙ is))
  found (Err reason) o named e path is = absurd (some_not_none path (sym e ∙ is))

  pub answered : (named : Result (Option Text) FindReason) (o : Option Text) → NamedDefault (HasResult limits) files listings dir name named → o ≡ where_nothing named files dir name
      → IsAnswer limits files listings dir name o
  answered named o n e path = (
    found named o n e path,
    (λ r. e ∙ (ap (λ (x : Result (Option Text) FindReason). where_nothing x files dir name) (one_named (HasResult limits) one files listings dir name named (Ok None) n r.nothing) ∙ r.first)),
  )

-- ---- where the search for the folder finds a module

not_refused : (m : FoundModule) (reason : FindReason) → (let r : Result FoundModule FindReason = Ok m in r) ≡ Err reason → ⊥
not_refused m reason e = cc

pub bad_where_found : (limits : Limits) (files : Files) (listings : Listings) (folder : FolderText) (m : FoundModule) (answer : Option Text)
    → ((o p : Result FoundModule FindReason) → Found (HasResult limits) files listings folder.0 folder.1 o → Found (HasResult limits) files listings folder.0 folder.1 p → o ≡ p)
    → Found (HasResult limits) files listings folder.0 folder.1 (Ok m) → IsAnswer limits files listings folder.0 folder.1 answer → IsBadAnswer limits files listings folder answer
bad_where_found limits files listings folder m answer one found is path = (
  (λ e. inr ((m, found), (is path).0 e)),
  (λ b. ⊎_elim (λ refused. absurd (not_refused m (bad_default path) (one (Ok m) (Err (bad_default path)) found refused))) (λ nothing. (is path).1 nothing.1) b),
)
