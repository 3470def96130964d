-- The mark of the default of a folder.
use Rattle.std.proofs.Common.{◌≡◌, true, [], ◌∷◌, ◌++◌, Option, Some, None, Result, Ok, refl, sym, ap, ◌∙◌, subst}
use Rattle.std.specs.Prelude.{bytes_eq}
use Rattle.std.proofs.lemmas.Slice.Eq.{bytes_eq-Decides}
use Rattle.modulename.specs.ModuleName.{Text, slash, parts}
use Rattle.filetree.specs.Agreement.{Files, Listings}
use Rattle.filetree.specs.Modulefiles.{path_of}
use Rattle.search.specs.Single.{is_single}
use Rattle.search.specs.Reasons.{FindReason}
use Rattle.search.specs.DefaultVersions.{DefaultFileResult}
use Rattle.search.specs.Found.{NamedDefault}
use Rattle.search.specs.Listed.{IsNamed}
use Rattle.search.proofs.OneFound.{one_named}
use Rattle.search.specs.Walks.{IsDefaultOf}
use Rattle.search.proofs.PartLemmas.{parts-single, parts-path, one_folder, no_folder}

cancel : (prefix xs ys : Text) → prefix ++ xs ≡ prefix ++ ys → xs ≡ ys
cancel [] xs ys h = h
cancel (b ∷ bs) xs ys h = cancel bs xs ys (cc)

same_version : (prefix v w : Text) → path_of prefix v ≡ path_of prefix w → v ≡ w
same_version prefix v w h = let e : slash ∷ v ≡ slash ∷ w = cancel prefix (slash ∷ v) (slash ∷ w) h in cc

same_named : (v w : Text) (o p : Result (Option Text) FindReason) → o ≡ Ok (Some v) → p ≡ Ok (Some w) → o ≡ p → v ≡ w
same_named v w o p h k e = cc

module _ (results : Text → Text → Option DefaultFileResult → Type 0) (law : (path text : Text) (o p : Option DefaultFileResult) → results path text o → results path text p → o ≡ p)
    (files : Files) (folders : Listings) (dir : Text) where
  named_below : (prefix e : Text) → is_single e ≡ true → IsNamed results files folders dir (path_of prefix e) → NamedDefault results files folders dir prefix (Ok (Some e))
  named_below prefix e s n =
      let r = one_folder prefix n.folder e n.version s n.last in
      subst (λ f. NamedDefault results files folders dir f (Ok (Some e))) (sym r.0)
      (subst (λ v. NamedDefault results files folders dir n.folder (Ok (Some v))) (sym r.1) n.named)

  is_named : (prefix e : Text) → is_single e ≡ true → NamedDefault results files folders dir prefix (Ok (Some e)) → IsNamed results files folders dir (path_of prefix e)
  is_named prefix e s h = record {
    folder = prefix;
    version = e;
    joined = refl;
    last = parts-path prefix e ∙ ap (λ x. parts prefix ++ x) (parts-single e s);
    named = h;
  }

  pub default_candidate : (prefix version default : Text) → default ≡ path_of prefix version → NamedDefault results files folders dir prefix (Ok (Some version))
      → IsDefaultOf results files folders dir (Some prefix) (Some default)
  default_candidate prefix version default is named e s = (there, back)
    where
      there : bytes_eq default (path_of prefix e) ≡ true → IsNamed results files folders dir (path_of prefix e)
      there h =
          let q : version ≡ e = same_version prefix version e (sym is ∙ (bytes_eq-Decides default (path_of prefix e)).0 h) in
          is_named prefix e s (subst (λ v. NamedDefault results files folders dir prefix (Ok (Some v))) q named)

      back : IsNamed results files folders dir (path_of prefix e) → bytes_eq default (path_of prefix e) ≡ true
      back n =
          let same = one_named results law files folders dir prefix (Ok (Some version)) (Ok (Some e)) named (named_below prefix e s n) in
          let q : version ≡ e = same_named version e (Ok (Some version)) (Ok (Some e)) refl refl same in
          (bytes_eq-Decides default (path_of prefix e)).1 (is ∙ ap (path_of prefix) q)

  pub default_nothing : (prefix : Text) (o : Result (Option Text) FindReason) → NamedDefault results files folders dir prefix o → ((v : Text) → o ≡ Ok (Some v) → ⊥)
      → IsDefaultOf results files folders dir (Some prefix) None
  default_nothing prefix o named none e s =
      (λ q. absurd (cc), λ n. absurd (none e (one_named results law files folders dir prefix o (Ok (Some e)) named (named_below prefix e s n))))

  pub default_top : IsDefaultOf results files folders dir None None
  default_top e s = (λ q. absurd (cc), λ n. absurd (no_folder e n.folder n.version s n.last))
