-- What stands below a folder: its files, and what stands below the folders in it.
use Rattle.std.proofs.Common.{◌≡◌, ◌⊎◌, ◌≤◌, true, List, [], ◌∷◌, ◌++◌, length, map, filter, Option, Some, None, refl}
use Rattle.std.proofs.Common.{sym, ap, ◌∙◌, subst, inl, inr, ⊎_elim}
use Rattle.std.specs.Prelude.{bytes_eq}
use Rattle.std.proofs.lemmas.Bool.{or_cases, or_left, or_right, and_parts, and_from}
use Rattle.std.proofs.lemmas.Slice.Eq.{bytes_eq-Decides}
use Rattle.modulename.specs.ModuleName.{Text, parts, is_module_name}
use Rattle.filetree.specs.Agreement.{Files, Listings}
use Rattle.filetree.specs.Modulefiles.{path_of}
use Rattle.search.specs.Single.{is_single}
use Rattle.search.specs.Candidates.{HasEntry}
use Rattle.search.specs.Selections.{is_selected, is_sought}
use Rattle.search.specs.BelowFolder.{ReachesThrough, folder_path, name_below, parts_of, is_module_below, is_sought_name}
use Rattle.search.specs.BelowFolder.{names_in, IsUnder, IsInside}
use Rattle.search.proofs.VersionLemmas.{has, in_filter, filter_has, same, itself, same_entries}
use Rattle.search.proofs.PartLemmas.{parts-single, parts-path, parts-some, Cut, cut, name_below-path, folder_path-below}
use Rattle.search.proofs.PartLemmas.{spelled_prefix, too_deep}
use Rattle.search.proofs.SelectionLemmas.{sought_itself, sought_above}

pub has_map : (f : Text → Text) (n : Text) (xs : List Text) → has n (map f xs) ≡ true → (x : Text) × (n ≡ f x) × (has x xs ≡ true)
has_map f n [] h = absurd (cc)
has_map f n (x ∷ xs) h =
    ⊎_elim (λ q. (x, same n (f x) q, or_left (bytes_eq x x) (has x xs) (itself x)))
    (λ q. let r = has_map f n xs q in (r.0, r.1, or_right (bytes_eq r.0 x) (has r.0 xs) r.2)) (or_cases (bytes_eq n (f x)) (has n (map f xs)) h)

pub map_has : (f : Text → Text) (x : Text) (xs : List Text) → has x xs ≡ true → has (f x) (map f xs) ≡ true
map_has f x [] h = absurd (cc)
map_has f x (y ∷ ys) h =
    ⊎_elim (λ q. or_left (bytes_eq (f x) (f y)) (has (f x) (map f ys)) ((bytes_eq-Decides (f x) (f y)).1 (ap f (same x y q))))
    (λ q. or_right (bytes_eq (f x) (f y)) (has (f x) (map f ys)) (map_has f x ys q)) (or_cases (bytes_eq x y) (has x ys) h)

-- nothing is below where there is no folder
pub none_under : (files : Files) (folders : Listings) (texts : List Text) (dir : Text) (prefix : Option Text) (name : Text) → folders (folder_path dir prefix) ≡ None → IsUnder files folders texts dir prefix name → ⊥
none_under files folders texts dir prefix name nothing u = at (parts u.rest) refl u.reaches
  where
    at : (ps : List Text) → parts u.rest ≡ ps → ReachesThrough folders (folder_path dir prefix) ps → ⊥
    at [] e l = parts-some u.rest e
    at (p ∷ ps) e l = let q : None ≡ Some l.0.0 = sym nothing ∙ l.0.1 in absurd (cc)

-- nothing is below four parts
pub deep_under : (files : Files) (folders : Listings) (texts : List Text) (dir : Text) (prefix : Option Text) (name : Text) → 4 ≤ length (parts_of prefix) → IsUnder files folders texts dir prefix name → ⊥
deep_under files folders texts dir prefix name deep u = too_deep prefix u.rest name deep u.joined u.spelled

-- a name of an entry of a folder
pub name_from : (texts : List Text) (prefix : Option Text) (entries : List Text) (n : Text) → has n (names_in texts prefix entries) ≡ true
    → (e : Text) × (n ≡ name_below prefix e) × (has e entries ≡ true) × (is_single e ≡ true) × (is_module_name n ≡ true) × (is_sought texts n ≡ true)
name_from texts prefix entries n h =
    let p = in_filter (is_sought_name texts) n (map (name_below prefix) (filter is_single entries)) h in
    let q = has_map (name_below prefix) n (filter is_single entries) p.0 in
    let r = in_filter is_single q.0 entries q.2 in
    let s = and_parts (is_sought texts n) (is_module_name n) p.1 in (q.0, q.1, r.0, r.1, s.1, s.0)

module _ (files : Files) (folders : Listings) (texts : List Text) (dir : Text) (prefix : Option Text) (entries : List Text) (listed : folders (folder_path dir prefix) ≡ Some entries) where
  entry_in : (e : Text) → HasEntry folders (folder_path dir prefix) e → has e entries ≡ true
  entry_in e (others, here, h) = ap (has e) (sym (same_entries entries others (folders (folder_path dir prefix)) listed here)) ∙ h

  in_names : (e : Text) → has e entries ≡ true → is_single e ≡ true → is_module_name (name_below prefix e) ≡ true → is_sought texts (name_below prefix e) ≡ true
      → has (name_below prefix e) (names_in texts prefix entries) ≡ true
  in_names e h s spelled sought =
      filter_has (is_sought_name texts) (name_below prefix e) (map (name_below prefix) (filter is_single entries))
      (map_has (name_below prefix) e (filter is_single entries) (filter_has is_single e entries h s))
      (and_from (is_sought texts (name_below prefix e)) (is_module_name (name_below prefix e)) sought spelled)

  pub inside : (v : Text) → IsUnder files folders texts dir prefix v → IsInside files folders texts dir (names_in texts prefix entries) (names_in texts prefix entries) v
  inside v u = at (cut u.rest)
    where
      at : (is_single u.rest ≡ true) ⊎ Cut u.rest → IsInside files folders texts dir (names_in texts prefix entries) (names_in texts prefix entries) v
      at (inl s) =
          let l = subst (ReachesThrough folders (folder_path dir prefix)) (parts-single u.rest s) u.reaches in
          let spelled : is_module_name (name_below prefix u.rest) ≡ true = ap is_module_name (sym u.joined) ∙ u.spelled in
          let sought : is_sought texts (name_below prefix u.rest) ≡ true = ap (is_sought texts) (sym u.joined) ∙ sought_itself texts v u.selected in
          inl (
            ap (λ x. has x (names_in texts prefix entries)) u.joined ∙ in_names u.rest (entry_in u.rest l.0) s spelled sought,
            and_from (is_selected texts v) (is_module_below files dir v) u.selected u.file,
          )
      at (inr (e, more, whole, s)) =
          let made : parts u.rest ≡ e ∷ parts more = ap parts whole ∙ parts-path e more ∙ ap (λ ps. ps ++ parts more) (parts-single e s) in
          let l = subst (ReachesThrough folders (folder_path dir prefix)) made u.reaches in
          let joined : v ≡ path_of (name_below prefix e) more = u.joined ∙ ap (name_below prefix) whole ∙ name_below-path prefix e more in
          let spelled : is_module_name (name_below prefix e) ≡ true = spelled_prefix (name_below prefix e) more (ap is_module_name (sym joined) ∙ u.spelled) in
          let sought : is_sought texts (name_below prefix e) ≡ true = sought_above texts (name_below prefix e) more (ap (is_selected texts) (sym joined) ∙ u.selected) in
          inr (
            name_below prefix e,
            in_names e (entry_in e l.0) s spelled sought,
            record {
              rest = more;
              joined = joined;
              spelled = u.spelled;
              reaches = subst (λ p. ReachesThrough folders p (parts more)) (sym (folder_path-below dir prefix e)) l.1;
              file = u.file;
              selected = u.selected;
            },
          )

  pub outside : (v : Text) → IsInside files folders texts dir (names_in texts prefix entries) (names_in texts prefix entries) v → IsUnder files folders texts dir prefix v
  outside v (inl (h, file)) =
      let m = and_parts (is_selected texts v) (is_module_below files dir v) file in
      let r = name_from texts prefix entries v h in record {
        rest = r.0;
        joined = r.1;
        spelled = r.4;
        reaches = subst (ReachesThrough folders (folder_path dir prefix)) (sym (parts-single r.0 r.3)) ((entries, listed, r.2), tt);
        file = m.1;
        selected = m.0;
      }
  outside v (inr (n, h, u)) =
      let r = name_from texts prefix entries n h in
      let made : parts (path_of r.0 u.rest) ≡ r.0 ∷ parts u.rest = parts-path r.0 u.rest ∙ ap (λ ps. ps ++ parts u.rest) (parts-single r.0 r.3) in
      let below : folder_path dir (Some n) ≡ path_of (folder_path dir prefix) r.0 = ap (λ x. folder_path dir (Some x)) r.1 ∙ folder_path-below dir prefix r.0 in record {
        rest = path_of r.0 u.rest;
        joined = u.joined ∙ ap (λ x. path_of x u.rest) r.1 ∙ sym (name_below-path prefix r.0 u.rest);
        spelled = u.spelled;
        reaches = subst (ReachesThrough folders (folder_path dir prefix)) (sym made) ((entries, listed, r.2), subst (λ p. ReachesThrough folders p (parts u.rest)) below u.reaches);
        file = u.file;
        selected = u.selected;
      }
