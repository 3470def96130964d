-- What is below a folder, and below one of several paths.
use Rattle.std.proofs.Common.{◌≡◌, ◌≢◌, ◌⊎◌, inl, inr, ℕ, zero, suc, ◌+◌, ◌-◌, ◌<◌, ◌≤◌, Bool, true, false, cond, List, []}
use Rattle.std.proofs.Common.{◌∷◌, ◌++◌, length, map, flat_map, take, get_or, string_bytes, String, Global, refl, sym, ap}
use Rattle.std.proofs.Common.{◌∙◌, subst, arith, Option, Some, None}
use Rattle.std.specs.Prelude.{◌↔◌, bytes_eq, nat_le}
use Rattle.std.specs.List.{list_any, list_all}
use Rattle.std.specs.BTreeSet.{BTreeSet}
use Rattle.std.proofs.lemmas.Bool.{false≢true, and_parts, and_from, or_left, or_right, or_cases}
use Rattle.std.proofs.lemmas.Bool.Decides.{nat_tests}
use Rattle.std.proofs.lemmas.Slice.Eq.{bytes_eq-Decides}
use Rattle.std.proofs.lemmas.List.{take_more, map-append}
use Rattle.modulename.specs.ModuleName.{Text, parts, is_part, is_module_name}
use Rattle.filetree.specs.Agreement.{Files, Listings}
use Rattle.filetree.specs.Modulefiles.{FileContent, absent, no_cookie, not_utf8, script, modulefile, path_of}
use Rattle.search.specs.Single.{is_single}
use Rattle.search.specs.DefaultFiles.{DefaultFileResult}
use Rattle.search.specs.Looked.{LooksForListing}
use Rattle.search.specs.Candidates.{HasEntry}
use Rattle.search.specs.BelowFolder.{ReachesThrough}
use Rattle.search.proofs.PartLemmas.{parts-single, parts-path, parts-some, cut, path-assoc}
use Rattle.audit_certificate.specs.RecordUses.{IsAmong}
use Rattle.audit_site.specs.NoModulefiles.{IsNoModulefile}
use Rattle.audit_site.specs.FilesBelow.{lacks_cookie, is_part_name, names_of, path_by, path_by_entry, paths_in}
use Rattle.audit_site.specs.FilesBelow.{IsBelowBy, IsInBy, IsFoundBelow, LooksAtBelow, Has, Adds}
use Rattle.std.proofs.lemmas.List.{take_all}
use Rattle.audit_site.proofs.PathSets.{by_cases, keys_are, nothing_in}

-- ---- the cookie

pub no_cookie_there : (c : FileContent) → lacks_cookie c ≡ true → c ≡ no_cookie
no_cookie_there absent h = absurd (cc)
no_cookie_there no_cookie h = refl
no_cookie_there not_utf8 h = absurd (cc)
no_cookie_there (script text) h = absurd (cc)

-- ---- the paths of entries

pub paths_on : (folder : Text) (es : List (String Global)) → flat_map (path_by_entry folder) es ≡ flat_map (path_by folder) (map string_bytes es)
paths_on folder [] = refl
paths_on folder (e ∷ es) = ap (λ (l : List Text). path_by folder (string_bytes e) ++ l) (paths_on folder es)

among_append : (x : Text) (xs ys : List Text) → IsAmong x (xs ++ ys) ↔ (IsAmong x xs ⊎ IsAmong x ys)
among_append x [] ys = ((λ h. inr h), (λ s. by_cases s (λ a. absurd a) (λ h. h)))
among_append x (y ∷ xs) ys = (
  (λ h. by_cases h (λ e. inl (inl e)) (λ a. by_cases ((among_append x xs ys).0 a) (λ b. inl (inr b)) (λ b. inr b))),
  (λ s. by_cases s (λ h. by_cases h (λ e. inl e) (λ a. inr ((among_append x xs ys).1 (inl a)))) (λ b. inr ((among_append x xs ys).1 (inr b)))),
)

-- a path of an entry
abbrev IsPathBy : Text → Text → Text → Type 0
IsPathBy folder entry path = (path ≡ path_of folder entry) × (is_single entry ≡ true) × (is_module_name entry ≡ true)

by_entry : (folder entry path : Text) (t : Bool) → is_part_name entry ≡ t → IsAmong path (cond t (path_of folder entry ∷ []) []) → IsPathBy folder entry path
by_entry folder entry path true h (inl e) = let p = and_parts (is_single entry) (is_module_name entry) h in (e, p.0, p.1)
by_entry folder entry path true h (inr none) = absurd none
by_entry folder entry path false h none = absurd none

to_entry : (folder entry path : Text) (t : Bool) → is_part_name entry ≡ t → IsPathBy folder entry path → IsAmong path (cond t (path_of folder entry ∷ []) [])
to_entry folder entry path true h p = inl p.0
to_entry folder entry path false h p = absurd (false≢true (sym h ∙ and_from (is_single entry) (is_module_name entry) p.1 p.2))

entry_of : (folder : Text) (es : List Text) (path : Text) → IsAmong path (flat_map (path_by folder) es) → (e : Text) × (list_any (bytes_eq e) es ≡ true) × IsPathBy folder e path
entry_of folder [] path a = absurd a
entry_of folder (e ∷ es) path a =
    by_cases ((among_append path (path_by folder e) (flat_map (path_by folder) es)).0 a)
    (λ b. (e, or_left (bytes_eq e e) (list_any (bytes_eq e) es) ((bytes_eq-Decides e e).1 refl), by_entry folder e path (is_part_name e) refl b))
    (λ b. let r = entry_of folder es path b in (r.0, or_right (bytes_eq r.0 e) (list_any (bytes_eq r.0) es) r.1, r.2))

of_entry : (folder : Text) (es : List Text) (e path : Text) → list_any (bytes_eq e) es ≡ true → IsPathBy folder e path → IsAmong path (flat_map (path_by folder) es)
of_entry folder [] e path h p = absurd (false≢true h)
of_entry folder (x ∷ es) e path h p =
    by_cases (or_cases (bytes_eq e x) (list_any (bytes_eq e) es) h)
    (λ q. (among_append path (path_by folder x) (flat_map (path_by folder) es)).1
    (inl (to_entry folder x path (is_part_name x) refl (subst (λ (y : Text). IsPathBy folder y path) ((bytes_eq-Decides e x).0 q) p))))
    (λ k. (among_append path (path_by folder x) (flat_map (path_by folder) es)).1 (inr (of_entry folder es e path k p)))

-- the paths in a folder are those of its entries
in_folder : (listings : Listings) (folder path : Text) (o : Option (List Text)) → listings folder ≡ o → IsAmong path (flat_map (path_by folder) (names_of o)) → (e : Text) × HasEntry listings folder e × IsPathBy folder e path
in_folder listings folder path None l a = absurd a
in_folder listings folder path (Some es) l a = let r = entry_of folder es path a in (r.0, (es, l, r.1), r.2)

pub next_entry : (listings : Listings) (folder path : Text) → IsAmong path (paths_in listings folder) → (e : Text) × HasEntry listings folder e × (path ≡ path_of folder e) × (is_single e ≡ true) × (is_module_name e ≡ true)
next_entry listings folder path a = let r = in_folder listings folder path (listings folder) refl a in (r.0, r.1, r.2.0, r.2.1, r.2.2)

pub entry_next : (listings : Listings) (folder e : Text) → HasEntry listings folder e → is_single e ≡ true → is_module_name e ≡ true → IsAmong (path_of folder e) (paths_in listings folder)
entry_next listings folder e (es, l, h) s m =
    subst (λ (o : Option (List Text)). IsAmong (path_of folder e) (flat_map (path_by folder) (names_of o))) (sym l) (of_entry folder es e (path_of folder e) h (refl, s, m))

-- ---- names

-- the name can be a name's end, of so many parts
pub record IsEnd (n : ℕ) (listings : Listings) (folder name : Text) : Type 0 where
  pub spelled : list_all is_part (parts name) ≡ true
  pub few : length (parts name) ≤ n
  pub reaches : ReachesThrough listings folder (parts name)

spelled_one : (e : Text) → is_single e ≡ true → is_module_name e ≡ true → list_all is_part (e ∷ []) ≡ true
spelled_one e s m = ap (list_all is_part) (sym (parts-single e s)) ∙ (and_parts (list_all is_part (parts e)) (nat_le (length (parts e)) 4) m).0

named_one : (e : Text) → is_single e ≡ true → list_all is_part (e ∷ []) ≡ true → is_module_name e ≡ true
named_one e s h =
    let p = parts-single e s in
    and_from (list_all is_part (parts e)) (nat_le (length (parts e)) 4) (ap (list_all is_part) p ∙ h) (ap (λ (l : List Text). nat_le (length l) 4) p)

head_part : (e : Text) (ps : List Text) → list_all is_part (e ∷ ps) ≡ true → (list_all is_part (e ∷ []) ≡ true) × (list_all is_part ps ≡ true)
head_part e ps h = let p = and_parts (is_part e) (list_all is_part ps) h in (and_from (is_part e) true p.0 refl, p.1)

both_parts : (e : Text) (ps : List Text) → list_all is_part (e ∷ []) ≡ true → list_all is_part ps ≡ true → list_all is_part (e ∷ ps) ≡ true
both_parts e ps h k = and_from (is_part e) (list_all is_part ps) (and_parts (is_part e) true h).0 k

cut_parts : (e more : Text) → is_single e ≡ true → parts (path_of e more) ≡ e ∷ parts more
cut_parts e more s = parts-path e more ∙ ap (λ (ps : List Text). ps ++ parts more) (parts-single e s)

-- below a folder by levels is at a name of so many parts
pub below_name : (listings : Listings) (n : ℕ) (folder path : Text) → IsBelowBy listings n folder path → (name : Text) × IsEnd n listings folder name × (path ≡ path_of folder name)
below_name listings zero folder path h = absurd h
below_name listings (suc n) folder path (next, among, at) =
    let i = next_entry listings folder next among in
    let e = i.0 in
    by_cases at
    (λ same. (
      e,
      record {
        spelled = ap (list_all is_part) (parts-single e i.3) ∙ spelled_one e i.3 i.4;
        few = let l : length (parts e) ≡ 1 = ap length (parts-single e i.3) in omega (arith, l);
        reaches = subst (ReachesThrough listings folder) (sym (parts-single e i.3)) (i.1, tt);
      },
      same ∙ i.2,
    ))
    (λ below.
    let r = below_name listings n next path below in
    let p = cut_parts e r.0 i.3 in (
      path_of e r.0,
      record {
        spelled = ap (list_all is_part) p ∙ both_parts e (parts r.0) (spelled_one e i.3 i.4) r.1.spelled;
        few = let l : length (parts (path_of e r.0)) ≡ suc (length (parts r.0)) = ap length p in let k : length (parts r.0) ≤ n = r.1.few in omega (arith, l, k);
        reaches = subst (ReachesThrough listings folder) (sym p) (i.1, subst (λ (f : Text). ReachesThrough listings f (parts r.0)) i.2 r.1.reaches);
      },
      r.2 ∙ (ap (λ (f : Text). path_of f r.0) i.2 ∙ path-assoc folder e r.0),
    ))

some_part : (name : Text) → 1 ≤ length (parts name)
some_part name = go (parts name) (parts-some name)
  where
    go : (ps : List Text) → (ps ≡ [] → ⊥) → 1 ≤ length ps
    go [] h = absurd (h refl)
    go (p ∷ ps) h = omega arith

pub name_below : (listings : Listings) (n : ℕ) (folder name : Text) → IsEnd n listings folder name → IsBelowBy listings n folder (path_of folder name)
name_below listings zero folder name end = let k : length (parts name) ≤ 0 = end.few in absurd (omega (arith, k, some_part name))
name_below listings (suc n) folder name end =
    by_cases (cut name)
    (λ s.
    let p = parts-single name s in
    let l = subst (ReachesThrough listings folder) p end.reaches in
    (path_of folder name, entry_next listings folder name l.0 s (named_one name s (ap (list_all is_part) (sym p) ∙ end.spelled)), inl refl))
    (λ c.
    let e = c.0 in
    let more = c.1 in
    let p : parts name ≡ e ∷ parts more = ap parts c.2 ∙ cut_parts e more c.3 in
    let h = head_part e (parts more) (ap (list_all is_part) (sym p) ∙ end.spelled) in
    let l = subst (ReachesThrough listings folder) p end.reaches in
    let k : length (parts name) ≤ suc n = end.few in
    let m : length (parts name) ≡ suc (length (parts more)) = ap length p in
    let there = name_below listings n (path_of folder e) more (record { spelled = h.1; few = omega (arith, k, m); reaches = l.1 }) in (
      path_of folder e,
      entry_next listings folder e l.0 c.3 (named_one e c.3 h.0),
      inr (subst (IsBelowBy listings n (path_of folder e)) (path-assoc folder e more ∙ ap (path_of folder) (sym c.2)) there),
    ))

four : (n : ℕ) → nat_le n 4 ≡ true → n ≤ 4
four n h = grind (arith, nat_tests)

few_enough : (n : ℕ) → n ≤ 4 → nat_le n 4 ≡ true
few_enough n h = grind (arith, nat_tests)

-- the files without the cookie that are found are those of the definition
pub found_are : (files : Files) (listings : Listings) (dir path : Text) → IsFoundBelow files listings 4 dir path ↔ IsNoModulefile files listings dir path
found_are files listings dir path = (
  (λ h. let r = below_name listings 4 dir path h.0 in record {
    name = r.0;
    spelled = and_from (list_all is_part (parts r.0)) (nat_le (length (parts r.0)) 4) r.1.spelled (few_enough (length (parts r.0)) r.1.few);
    reaches = r.1.reaches;
    below = r.2;
    content = no_cookie_there (modulefile (files path)) h.1;
  }),
  (λ m.
      let s = and_parts (list_all is_part (parts m.name)) (nat_le (length (parts m.name)) 4) m.spelled in
      let e : IsEnd 4 listings dir m.name = record { spelled = s.0; few = four (length (parts m.name)) s.1; reaches = m.reaches } in
      (subst (IsBelowBy listings 4 dir) (sym m.below) (name_below listings 4 dir m.name e), ap lacks_cookie m.content)),
)

-- what is looked at below a directory is looked at for its listing
pub of_listing : (results : Text → Text → Option DefaultFileResult → Type 0) (files : Files) (listings : Listings) (dir at : Text) → LooksAtBelow listings 4 dir at
    → LooksForListing results files listings [] dir at
of_listing results files listings dir at (inl e) = inl e
of_listing results files listings dir at (inr h) =
    let r = below_name listings 4 dir at h in
    let spelled = and_from (list_all is_part (parts r.0)) (nat_le (length (parts r.0)) 4) r.1.spelled (few_enough (length (parts r.0)) r.1.few) in
    inr (inl (r.0, record { spelled = spelled; reaches = r.1.reaches }, refl, r.2))

-- ---- several paths

pub in_more : (listings : Listings) (n : ℕ) (paths : List Text) (x q : Text) → IsInBy listings n (paths ++ x ∷ []) q ↔ (IsInBy listings n paths q ⊎ ((q ≡ x) ⊎ IsBelowBy listings n x q))
in_more listings n paths x q = (
  (λ (y, a, h). by_cases ((among_append y paths (x ∷ [])).0 a) (λ b. inl (y, b, h)) (λ b. by_cases b (λ e. inr (subst (λ (z : Text). (q ≡ z) ⊎ IsBelowBy listings n z q) e h)) (λ none. absurd none))),
  (λ s. by_cases s (λ (y, a, h). (y, (among_append y paths (x ∷ [])).1 (inl a), h)) (λ h. (x, (among_append x paths (x ∷ [])).1 (inr (inl refl)), h))),
)

pub in_next : (listings : Listings) (n : ℕ) (xs : List (String Global)) (i : ℕ) (x : String Global) → i < length xs → x ≡ get_or xs i x → (q : Text)
    → IsInBy listings n (map string_bytes (take (i + 1) xs)) q ↔ (IsInBy listings n (map string_bytes (take i xs)) q ⊎ ((q ≡ string_bytes x) ⊎ IsBelowBy listings n (string_bytes x) q))
in_next listings n xs i x l e q =
    let more : map string_bytes (take (i + 1) xs) ≡ map string_bytes (take i xs) ++ string_bytes x ∷ [] =
    ap (map string_bytes) (take_more xs i x l ∙ ap (λ (y : String Global). take i xs ++ y ∷ []) (sym e)) ∙ map-append string_bytes (take i xs) (x ∷ []) in
    subst (λ (ps : List Text). IsInBy listings n ps q ↔ (IsInBy listings n (map string_bytes (take i xs)) q ⊎ ((q ≡ string_bytes x) ⊎ IsBelowBy listings n (string_bytes x) q))) (sym more)
    (in_more listings n (map string_bytes (take i xs)) (string_bytes x) q)

pub in_none : (listings : Listings) (n : ℕ) (q : Text) → IsInBy listings n [] q → ⊥
in_none listings n q h = h.1

before_next : (n : ℕ) → suc n - 1 ≡ n
before_next n = omega arith

-- what is below a folder is at or below one of its entries
pub below_are : (listings : Listings) (n : ℕ) (folder q : Text) (paths : List Text) → n ≢ 0 → paths ≡ paths_in listings folder → IsInBy listings (n - 1) paths q ↔ IsBelowBy listings n folder q
below_are listings zero folder q paths some e = absurd (some refl)
below_are listings (suc n) folder q paths some e =
    subst (λ k. IsInBy listings k paths q ↔ IsBelowBy listings (suc n) folder q) (sym (before_next n)) (
      (λ (y, a, h). (y, subst (IsAmong y) e a, h)),
      (λ (y, a, h). (y, subst (IsAmong y) (sym e) a, h)),
    )

pub found_nowhere : (listings : Listings) (n : ℕ) (folder q : Text) → n ≡ 0 → IsBelowBy listings n folder q → ⊥
found_nowhere listings n folder q none h = subst (λ k. IsBelowBy listings k folder q) none h

-- of each, and of one more
pub at_next : (Whole First Last There : Type 0) → Whole ↔ (First ⊎ Last) → (Whole × There) ↔ ((First × There) ⊎ (Last × There))
at_next Whole First Last There either = (
  (λ h. by_cases (either.0 h.0) (λ f. inl (f, h.1)) (λ l. inr (l, h.1))),
  (λ s. by_cases s (λ f. (either.1 (inl f.0), f.1)) (λ l. (either.1 (inr l.0), l.1))),
)

pub among_at : (xs : List (String Global)) (i : ℕ) (x : String Global) → i < length xs → x ≡ get_or xs i x → IsAmong (string_bytes x) (map string_bytes xs)
among_at [] i x l e = absurd (omega arith)
among_at (y ∷ ys) zero x l e = inl (ap (λ (s : String Global). string_bytes s) e)
among_at (y ∷ ys) (suc i) x l e = inr (among_at ys i x (omega arith) e)

-- what the walk looks at from an entry on, it looks at from the folder on
pub looks_next : (listings : Listings) (n : ℕ) (folder : Text) (xs : List (String Global)) (i : ℕ) (x : String Global) (at : Text) → n ≢ 0 → map string_bytes xs ≡ paths_in listings folder
    → i < length xs → x ≡ get_or xs i x → LooksAtBelow listings (n - 1) (string_bytes x) at → LooksAtBelow listings n folder at
looks_next listings zero folder xs i x at some paths l e h = absurd (some refl)
looks_next listings (suc n) folder xs i x at some paths l e h =
    inr (string_bytes x, subst (IsAmong (string_bytes x)) paths (among_at xs i x l e), subst (λ k. LooksAtBelow listings k (string_bytes x) at) (before_next n) h)

-- ---- several directories

-- a file that is found below one of these directories
abbrev FoundIn : Files → Listings → List Text → Text → Type 0
FoundIn files listings dirs q = (dir : Text) × IsAmong dir dirs × IsFoundBelow files listings 4 dir q

pub begun : (files : Files) (listings : Listings) (found : BTreeSet (String Global)) (q : Text) → found.keys ≡ [] → Has found q ↔ ((dir : Text) × IsAmong dir [] × IsFoundBelow files listings 4 dir q)
begun files listings found q e = ((λ h. absurd (nothing_in found q e h)), (λ h. absurd h.1))

pub directory_more : (files : Files) (listings : Listings) (dirs : List (String Global)) (i : ℕ) (dir : String Global) (old new : BTreeSet (String Global)) (q : Text) → i < length dirs → dir ≡ get_or dirs i dir
    → Has old q ↔ FoundIn files listings (map string_bytes (take i dirs)) q → Adds old new (IsFoundBelow files listings 4 (string_bytes dir)) → Has new q ↔ FoundIn files listings (map string_bytes (take (i + 1) dirs)) q
directory_more files listings dirs i dir old new q l e before adds =
    let more : map string_bytes (take (i + 1) dirs) ≡ map string_bytes (take i dirs) ++ string_bytes dir ∷ [] =
    ap (map string_bytes) (take_more dirs i dir l ∙ ap (λ (y : String Global). take i dirs ++ y ∷ []) (sym e)) ∙ map-append string_bytes (take i dirs) (dir ∷ []) in
    subst (λ (ds : List Text). Has new q ↔ FoundIn files listings ds q) (sym more) (
      (λ n. by_cases ((adds q).0 n)
          (λ o. let r = before.0 o in (r.0, (among_append r.0 (map string_bytes (take i dirs)) (string_bytes dir ∷ [])).1 (inl r.1), r.2))
          (λ f. (string_bytes dir, (among_append (string_bytes dir) (map string_bytes (take i dirs)) (string_bytes dir ∷ [])).1 (inr (inl refl)), f))),
      (λ (d, a, f). by_cases ((among_append d (map string_bytes (take i dirs)) (string_bytes dir ∷ [])).0 a)
          (λ b. (adds q).1 (inl (before.1 (d, b, f))))
          (λ b. by_cases b (λ s. (adds q).1 (inr (subst (λ (x : Text). IsFoundBelow files listings 4 x q) s f))) (λ none. absurd none))),
    )

pub whole_are : (files : Files) (listings : Listings) (dirs : List (String Global)) (i : ℕ) (found : BTreeSet (String Global)) (paths : List (String Global)) (q : Text) → length dirs ≤ i → paths ≡ found.keys
    → Has found q ↔ FoundIn files listings (map string_bytes (take i dirs)) q
    → IsAmong q (map string_bytes paths) ↔ ((dir : Text) × IsAmong dir (map string_bytes dirs) × IsNoModulefile files listings dir q)
whole_are files listings dirs i found paths q l e h =
    let whole : take i dirs ≡ dirs = take_all i dirs l in
    let all = subst (λ (ds : List (String Global)). Has found q ↔ FoundIn files listings (map string_bytes ds) q) whole h in
    let keys = keys_are found paths e q in (
      (λ a. let r = all.0 (keys.0 a) in (r.0, r.1, (found_are files listings r.0 q).0 r.2)),
      (λ (d, a, m). keys.1 (all.1 (d, a, (found_are files listings d q).1 m))),
    )
