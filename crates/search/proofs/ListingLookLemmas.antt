-- The paths that the listing of a folder looks at, and the names that are reached by entries.
use Rattle.std.proofs.Common.{◌≡◌, ℕ, Bool, true, false, nat_eq, List, [], ◌∷◌, ◌++◌, length, map, filter, Option, Some}
use Rattle.std.proofs.Common.{None, refl, sym, ap, ◌∙◌, subst, inl, inr}
use Rattle.std.specs.Prelude.{bytes_eq}
use Rattle.std.specs.List.{join_with_byte}
use Rattle.std.proofs.lemmas.Bool.{or_left, or_right, and_parts}
use Rattle.std.proofs.lemmas.List.Splits.{join_with_byte-slice_split}
use Rattle.std.proofs.lemmas.Slice.Eq.{bytes_eq-Decides}
use Rattle.modulename.specs.ModuleName.{Text, slash, parts, is_module_name}
use Rattle.filetree.specs.Agreement.{Files, Listings}
use Rattle.filetree.specs.Modulefiles.{path_of}
use Rattle.search.specs.Single.{is_single}
use Rattle.search.specs.DefaultVersions.{DefaultFileResult}
use Rattle.search.specs.Candidates.{HasEntry}
use Rattle.search.specs.Selections.{is_selected}
use Rattle.search.specs.BelowFolder.{ReachesThrough, IsSelectedBelow, folder_path, name_below, names_in, is_module_below}
use Rattle.search.specs.BelowFolder.{is_selected_module, LooksAmong, AreAmong}
use Rattle.search.specs.Looked.{IsReached}
use Rattle.search.proofs.VersionLemmas.{has, in_filter}
use Rattle.search.specs.Walks.{LooksForDefault, IsFolderOf, LooksFromFolder}
use Rattle.search.proofs.PartLemmas.{parts-single, parts-path, parts-some, path-assoc}
use Rattle.search.proofs.UnderLemmas.{name_from}

-- the folder that is reached by parts
abbrev walked : Text → List Text → Text
walked path [] = path
walked path (p ∷ ps) = walked (path_of path p) ps

walked_joined : (dir p : Text) (ps : List Text) → walked dir (p ∷ ps) ≡ path_of dir (join_with_byte slash (p ∷ ps))
walked_joined dir p [] = refl
walked_joined dir p (q ∷ ps) = walked_joined (path_of dir p) q ps ∙ path-assoc dir p (join_with_byte slash (q ∷ ps))

walked_parts : (dir name : Text) → walked dir (parts name) ≡ path_of dir name
walked_parts dir name = at (parts name) refl
  where
    at : (ps : List Text) → parts name ≡ ps → walked dir ps ≡ path_of dir name
    at [] e = absurd (parts-some name e)
    at (p ∷ ps) e = walked_joined dir p ps ∙ ap (path_of dir) (ap (join_with_byte slash) (sym e) ∙ join_with_byte-slice_split slash name)

-- one part more is reached
reaches_further : (folders : Listings) (path : Text) (ps : List Text) (e : Text) → ReachesThrough folders path ps → HasEntry folders (walked path ps) e
    → ReachesThrough folders path (ps ++ e ∷ [])
reaches_further folders path [] e l h = (h, tt)
reaches_further folders path (p ∷ ps) e l h = (l.0, reaches_further folders (path_of path p) ps e l.1 h)

entry_reached : (folders : Listings) (texts : List Text) (dir : Text) (prefix : Option Text) (e : Text) → IsFolderOf folders texts dir prefix → HasEntry folders (folder_path dir prefix) e → is_single e ≡ true
    → is_module_name (name_below prefix e) ≡ true → IsReached folders dir (name_below prefix e)
entry_reached folders texts dir None e folder h s spelled = record { spelled = spelled; reaches = subst (ReachesThrough folders dir) (sym (parts-single e s)) (h, tt) }
entry_reached folders texts dir (Some f) e folder h s spelled = record {
  spelled = spelled;
  reaches = subst (ReachesThrough folders dir) (sym (parts-path f e ∙ ap (λ x. parts f ++ x) (parts-single e s)))
      (reaches_further folders dir (parts f) e folder.0.reaches (subst (λ p. HasEntry folders p e) (sym (walked_parts dir f)) h));
}

-- the names that are reached by the entries of a folder, and sought
pub name_reached : (folders : Listings) (texts : List Text) (dir : Text) (prefix : Option Text) (entries : List Text) → folders (folder_path dir prefix) ≡ Some entries
    → (n : Text) → has n (names_in texts prefix entries) ≡ true → IsFolderOf folders texts dir prefix → IsFolderOf folders texts dir (Some n)
name_reached folders texts dir prefix entries listed n h folder =
    let r = name_from texts prefix entries n h in (
      subst (IsReached folders dir) (sym r.1) (entry_reached folders texts dir prefix r.0 folder (entries, listed, r.2) r.3 (ap is_module_name (sym r.1) ∙ r.4)),
      r.5,
    )

module _ (results : Text → Text → Option DefaultFileResult → Type 0) (files : Files) (folders : Listings) (texts : List Text) (dir : Text) where
  pub looks_at_folder : (prefix : Option Text) (at : Text) → at ≡ folder_path dir prefix → LooksFromFolder results files folders texts dir prefix at
  looks_at_folder None at e = λ folder. inl e
  looks_at_folder (Some f) at e = λ folder. inr (inl (f, folder.0, folder.1, e))

  module _ (prefix : Option Text) (entries : List Text) (listed : folders (folder_path dir prefix) ≡ Some entries) (names : List Text) (named : AreAmong names (names_in texts prefix entries)) where
    pub looks_among : (at : Text) → LooksAmong dir names at → LooksFromFolder results files folders texts dir prefix at
    looks_among at (n, h, e) = λ folder.
        let here = name_reached folders texts dir prefix entries listed n (named n h) folder in inr (inl (n, here.0, here.1, e))

    pub looks_inside : (n : Text) → has n names ≡ true → (at : Text) → LooksFromFolder results files folders texts dir (Some n) at → LooksFromFolder results files folders texts dir prefix at
    looks_inside n h at l = λ folder. l (name_reached folders texts dir prefix entries listed n (named n h) folder)

  pub looks_at_default : (prefix : Option Text) (entries : List Text) → folders (folder_path dir prefix) ≡ Some entries → (names modules : List Text) → AreAmong names (names_in texts prefix entries)
      → modules ≡ filter (is_selected_module files texts dir) names → (modules ≡ [] → ⊥) → (at : Text)
      → LooksForDefault results files folders dir prefix at → LooksFromFolder results files folders texts dir prefix at
  looks_at_default None entries listed names modules named made some at l = absurd l
  looks_at_default (Some f) entries listed names [] named made some at l = absurd (some refl)
  looks_at_default (Some f) entries listed names (m ∷ ms) named made some at l = λ folder.
      let p = in_filter (is_selected_module files texts dir) m names (ap (has m) (sym made) ∙ or_left (bytes_eq m m) (has m ms) ((bytes_eq-Decides m m).1 refl)) in
      let b = and_parts (is_selected texts m) (is_module_below files dir m) p.1 in
      let h = named m p.0 in
      let r = name_from texts (Some f) entries m h in
      let here = (name_reached folders texts dir (Some f) entries listed m h folder).0 in
      inr (inr (f, (r.0, r.3, subst (IsSelectedBelow files folders texts dir) r.1 (record { spelled = here.spelled; reaches = here.reaches; file = b.1 }, b.0)), l))

-- the first of some texts, and those after it
module _ (first : Text) (after rest : List Text) (split : rest ≡ first ∷ after) where
  pub first_has : has first rest ≡ true
  first_has = ap (has first) split ∙ or_left (bytes_eq first first) (has first after) ((bytes_eq-Decides first first).1 refl)

  pub later_has : (n : Text) → has n after ≡ true → has n rest ≡ true
  later_has n h = ap (has n) split ∙ or_right (bytes_eq n first) (has n after) h

-- what has a length has a first
pub some_seen : {X : Type 0} (view : X → Text) (xs : List X) (n : ℕ) (b : Bool) → n ≡ length xs → b ≡ nat_eq n 0 → b ≡ false → map view xs ≡ [] → ⊥
some_seen view [] n b l e isnt none = let z : true ≡ false = sym (ap (λ k. nat_eq k 0) l) ∙ sym e ∙ isnt in absurd (cc)
some_seen view (x ∷ xs) n b l e isnt none = absurd (cc)
