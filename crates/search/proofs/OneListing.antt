-- A MODULEPATH has one listing at most: a list in strict order is known by its members.
use Rattle.std.proofs.Common.{◌≡◌, ◌↔◌, Bool, true, false, ◌&&◌, List, [], ◌∷◌, Option, refl, ap, sym, ◌∙◌, subst}
use Rattle.std.proofs.Common.{⊎_elim, Less, Equal}
use Rattle.std.specs.Prelude.{bytes_eq}
use Rattle.std.specs.List.{AllByRecursion}
use Rattle.std.specs.List.Sorted.{IsStrictlySortedBy}
use Rattle.std.proofs.lemmas.Bool.{or_cases, or_left, or_right, and_parts, and_from}
use Rattle.std.proofs.lemmas.Cmp.{tied_itself}
use Rattle.modulename.specs.ModuleName.{Text}
use Rattle.filetree.specs.Agreement.{Files, Listings}
use Rattle.filetree.specs.Modulefiles.{directories}
use Rattle.search.specs.DefaultVersions.{DefaultFileResult}
use Rattle.modulename.specs.Versions.{version_order}
use Rattle.search.specs.Listed.{ListingEntry, names_of, is_marked, IsListing, Listing, AreListings, Listed}
use Rattle.modulename.proofs.OrderLemmas.{total}
use Rattle.search.proofs.VersionLemmas.{has, same, itself}

abbrev Sorted : List Text → Type 0
Sorted xs = IsStrictlySortedBy version_order xs

abbrev Same : List Text → List Text → Type 0
Same xs ys = (v : Text) → (has v xs ≡ true) ↔ (has v ys ≡ true)

below : (P : Text → Type 0) (v : Text) (xs : List Text) → AllByRecursion P xs → has v xs ≡ true → P v
below P v [] a h = absurd (cc)
below P v (x ∷ xs) a h =
    ⊎_elim (λ e. subst P (sym (same v x e)) a.0) (λ e. below P v xs a.1 e) (or_cases (bytes_eq v x) (has v xs) h)

not_below_itself : (x : Text) → version_order x x ≡ Less → ⊥
not_below_itself x h = let e : version_order x x ≡ Equal = tied_itself total x in absurd (cc)

not_both : (x y : Text) → version_order x y ≡ Less → version_order y x ≡ Less → ⊥
not_both x y h k = not_below_itself x (total.trans x y x h k)

first_same : (x y : Text) (xs ys : List Text) → Sorted (x ∷ xs) → Sorted (y ∷ ys) → Same (x ∷ xs) (y ∷ ys) → x ≡ y
unfolding IsStrictlySortedBy
first_same x y xs ys s t m =
    ⊎_elim (λ e. same x y e)
    (λ e. ⊎_elim (λ g. sym (same y x g))
    (λ g. absurd (not_both x y (below (λ v. version_order x v ≡ Less) y xs s.0 g) (below (λ v. version_order y v ≡ Less) x ys t.0 e)))
    (or_cases (bytes_eq y x) (has y xs) ((m y).1 (or_left (bytes_eq y y) (has y ys) (itself y)))))
    (or_cases (bytes_eq x y) (has x ys) ((m x).0 (or_left (bytes_eq x x) (has x xs) (itself x))))

-- what is in the rest isn't the first
rest_in : (x : Text) (xs ys : List Text) → Sorted (x ∷ xs) → ((v : Text) → has v (x ∷ xs) ≡ true → has v (x ∷ ys) ≡ true) → (v : Text) → has v xs ≡ true → has v ys ≡ true
unfolding IsStrictlySortedBy
rest_in x xs ys s m v h =
    ⊎_elim (λ e. absurd (not_below_itself x (subst (λ w. version_order x w ≡ Less) (same v x e) (below (λ w. version_order x w ≡ Less) v xs s.0 h))))
    (λ e. e) (or_cases (bytes_eq v x) (has v ys) (m v (or_right (bytes_eq v x) (has v xs) h)))

one_names : (xs ys : List Text) → Sorted xs → Sorted ys → Same xs ys → xs ≡ ys
unfolding IsStrictlySortedBy
one_names [] [] s t m = refl
one_names [] (y ∷ ys) s t m = absurd (let e = (m y).1 (or_left (bytes_eq y y) (has y ys) (itself y)) in cc)
one_names (x ∷ xs) [] s t m = absurd (let e = (m x).0 (or_left (bytes_eq x x) (has x xs) (itself x)) in cc)
one_names (x ∷ xs) (y ∷ ys) s t m =
    let e : x ≡ y = first_same x y xs ys s t m in
    let t' : Sorted (x ∷ ys) = subst (λ z. Sorted (z ∷ ys)) (sym e) t in
    let m' : Same (x ∷ xs) (x ∷ ys) = subst (λ z. Same (x ∷ xs) (z ∷ ys)) (sym e) m in
    let r : xs ≡ ys = one_names xs ys s.1 t'.1 (λ v. (rest_in x xs ys s (λ w. (m' w).0) v, rest_in x ys xs t' (λ w. (m' w).1) v)) in
    ap (λ z. z ∷ xs) e ∙ ap (λ zs. y ∷ zs) r

marked_has : (name : Text) (listing_entries : List ListingEntry) → is_marked name listing_entries ≡ true → has name (names_of listing_entries) ≡ true
marked_has name [] h = absurd (cc)
marked_has name ((n, b) ∷ listing_entries) h =
    ⊎_elim (λ e. or_left (bytes_eq name n) (has name (names_of listing_entries)) (and_parts (bytes_eq name n) b e).0)
    (λ e. or_right (bytes_eq name n) (has name (names_of listing_entries)) (marked_has name listing_entries e))
    (or_cases (bytes_eq name n && b) (is_marked name listing_entries) h)

-- the mark of the first module
first_mark : (n : Text) (b : Bool) (c : Bool) (rs qs : List ListingEntry) → Sorted (n ∷ names_of qs) → (is_marked n ((n, b) ∷ rs) ≡ true → is_marked n ((n, c) ∷ qs) ≡ true) → b ≡ true → c ≡ true
unfolding IsStrictlySortedBy
first_mark n b c rs qs s m e =
    ⊎_elim (λ g. (and_parts (bytes_eq n n) c g).1)
    (λ g. absurd (not_below_itself n (below (λ w. version_order n w ≡ Less) n (names_of qs) s.0 (marked_has n qs g))))
    (or_cases (bytes_eq n n && c) (is_marked n qs) (m (or_left (bytes_eq n n && b) (is_marked n rs) (and_from (bytes_eq n n) b (itself n) e))))

rest_mark : (n : Text) (b c : Bool) (rs qs : List ListingEntry) → Sorted (n ∷ names_of rs)
    → ((v : Text) → is_marked v ((n, b) ∷ rs) ≡ true → is_marked v ((n, c) ∷ qs) ≡ true) → (v : Text)
    → is_marked v rs ≡ true → is_marked v qs ≡ true
unfolding IsStrictlySortedBy
rest_mark n b c rs qs s m v h =
    ⊎_elim (λ e. absurd (not_below_itself n (subst (λ w. version_order n w ≡ Less)
    (same v n (and_parts (bytes_eq v n) c e).0) (below (λ w. version_order n w ≡ Less) v (names_of rs) s.0
    (marked_has v rs h)))))
    (λ e. e) (or_cases (bytes_eq v n && c) (is_marked v qs) (m v (or_right (bytes_eq v n && b) (is_marked v rs) h)))

pub alike : (b c : Bool) → (b ≡ true → c ≡ true) → (c ≡ true → b ≡ true) → b ≡ c
alike true c f g = sym (f refl)
alike false true f g = g refl
alike false false f g = refl

one_rows : (rs qs : List ListingEntry) → Sorted (names_of rs) → Sorted (names_of qs) → names_of rs ≡ names_of qs → ((v : Text) → (is_marked v rs ≡ true) ↔ (is_marked v qs ≡ true)) → rs ≡ qs
unfolding IsStrictlySortedBy
one_rows [] [] s t e m = refl
one_rows [] (q ∷ qs) s t e m = absurd (cc)
one_rows (r ∷ rs) [] s t e m = absurd (cc)
one_rows ((n, b) ∷ rs) ((k, c) ∷ qs) s t e m =
    let h : n ≡ k = cc in
    let g : names_of rs ≡ names_of qs = cc in
    let t' : Sorted (n ∷ names_of qs) = subst (λ z. Sorted (z ∷ names_of qs)) (sym h) t in
    let m' : (v : Text) → (is_marked v ((n, b) ∷ rs) ≡ true) ↔ (is_marked v ((n, c) ∷ qs) ≡ true) = subst
    (λ z. (v : Text) → (is_marked v ((n, b) ∷ rs) ≡ true) ↔ (is_marked v ((z, c) ∷ qs) ≡ true)) (sym h) m in
    let f : b ≡ c = alike b c (first_mark n b c rs qs t' (m' n).0) (first_mark n c b qs rs s (m' n).1) in
    let r : rs ≡ qs = one_rows rs qs s.1 t'.1 g (λ v. (rest_mark n b c rs qs s (λ w. (m' w).0) v, rest_mark n c b qs rs t' (λ w. (m' w).1) v)) in
    ap (λ z. (z, b) ∷ rs) h ∙ (ap (λ z. (k, z) ∷ rs) f ∙ ap (λ z. (k, c) ∷ z) r)

one_listing : (results : Text → Text → Option DefaultFileResult → Type 0) (files : Files) (listings : Listings)
    (texts : List Text) (dir : Text) (rs qs : List ListingEntry) → IsListing results files listings texts dir rs
    → IsListing results files listings texts dir qs → rs ≡ qs
one_listing results files listings texts dir rs qs h k =
    one_rows rs qs h.order k.order
    (one_names (names_of rs) (names_of qs) h.order k.order (λ v. (λ e. (k.names v).1 ((h.names v).0 e), λ e. (h.names v).1 ((k.names v).0 e))))
    (λ v. (λ e. (k.marks v).1 ((h.marks v).0 e), λ e. (h.marks v).1 ((k.marks v).0 e)))

one_listings : (results : Text → Text → Option DefaultFileResult → Type 0) (files : Files) (listings : Listings)
    (texts dirs : List Text) (ls ks : List Listing) → AreListings results files listings texts dirs ls
    → AreListings results files listings texts dirs ks → ls ≡ ks
one_listings results files listings texts [] [] [] h k = refl
one_listings results files listings texts [] [] (y ∷ ys) h k = absurd k
one_listings results files listings texts [] (x ∷ xs) ks h k = absurd h
one_listings results files listings texts (dir ∷ dirs) [] ks h k = absurd h
one_listings results files listings texts (dir ∷ dirs) (x ∷ xs) [] h k = absurd k
one_listings results files listings texts (dir ∷ dirs) ((d, rs) ∷ xs) ((c, qs) ∷ ys) h k =
    let e : d ≡ c = h.0 ∙ sym k.0 in
    let r : rs ≡ qs = one_listing results files listings texts dir rs qs h.1 k.1 in
    let m : xs ≡ ys = one_listings results files listings texts dirs xs ys h.2 k.2 in
    ap (λ z. (z, rs) ∷ xs) e ∙ (ap (λ z. (c, z) ∷ xs) r ∙ ap (λ z. (c, qs) ∷ z) m)

pub one_listed : (results : Text → Text → Option DefaultFileResult → Type 0) (files : Files) (listings : Listings)
    (texts : List Text) (modulepath : Text) (ls ks : List Listing) → Listed results files listings texts modulepath ls
    → Listed results files listings texts modulepath ks → ls ≡ ks
one_listed results files listings texts modulepath ls ks h k = one_listings results files listings texts (directories modulepath) ls ks h k
