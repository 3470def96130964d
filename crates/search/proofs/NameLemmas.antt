-- Names in lists of names, one name more.
use Rattle.std.proofs.Common.{◌≡◌, ◌⊎◌, Bool, true, false, List, [], ◌∷◌, ◌++◌, None, refl, sym, ap, ◌∙◌, inl, inr}
use Rattle.std.proofs.Common.{⊎_elim, append-nil, append_assoc, filter, map, string_bytes, String, Global}
use Rattle.std.specs.Prelude.{bytes_eq, if◌then◌else◌}
use Rattle.std.specs.List.Sorted.{IsPermutation}
use Rattle.std.proofs.lemmas.List.Sorted.{IsPermutation-map, IsPermutation-sym}
use Rattle.std.proofs.lemmas.Bool.{cases_Bool, or_cases, or_left, or_right}
use Rattle.modulename.specs.ModuleName.{Text}
use Rattle.filetree.specs.Agreement.{Listings}
use Rattle.filetree.specs.Modulefiles.{path_of}
use Rattle.search.specs.BelowFolder.{AreAmong, HasAllFolders}
use Rattle.search.proofs.VersionLemmas.{has, has_permutation, same, itself}

-- what some texts have, more texts have
pub has_left : (v : Text) (xs ys : List Text) → has v xs ≡ true → has v (xs ++ ys) ≡ true
has_left v [] ys h = absurd (cc)
has_left v (x ∷ xs) ys h =
    ⊎_elim (λ q. or_left (bytes_eq v x) (has v (xs ++ ys)) q) (λ q. or_right (bytes_eq v x) (has v (xs ++ ys)) (has_left v xs ys q)) (or_cases (bytes_eq v x) (has v xs) h)

pub has_right : (v : Text) (xs ys : List Text) → has v ys ≡ true → has v (xs ++ ys) ≡ true
has_right v [] ys h = h
has_right v (x ∷ xs) ys h = or_right (bytes_eq v x) (has v (xs ++ ys)) (has_right v xs ys h)

pub has_middle : (v : Text) (xs ys : List Text) → has v (xs ++ v ∷ ys) ≡ true
has_middle v [] ys = or_left (bytes_eq v v) (has v ys) (itself v)
has_middle v (x ∷ xs) ys = or_right (bytes_eq v x) (has v (xs ++ v ∷ ys)) (has_middle v xs ys)

pub has_last : (v n : Text) (xs : List Text) → has v (xs ++ n ∷ []) ≡ true → (has v xs ≡ true) ⊎ (v ≡ n)
has_last v n [] h = ⊎_elim (λ q. inr (same v n q)) (λ q. absurd (cc)) (or_cases (bytes_eq v n) false h)
has_last v n (x ∷ xs) h =
    ⊎_elim (λ q. inl (or_left (bytes_eq v x) (has v xs) q)) (λ q. ⊎_elim (λ r. inl (or_right (bytes_eq v x) (has v xs) r)) (λ r. inr r) (has_last v n xs q))
    (or_cases (bytes_eq v x) (has v (xs ++ n ∷ [])) h)

last_is : (v n : Text) (xs : List Text) → v ≡ n → has v (xs ++ n ∷ []) ≡ true
last_is v n xs q = ap (λ x. has x (xs ++ n ∷ [])) q ∙ has_middle n xs []

-- the names are the same in another order
pub sorted_among : (first sorted : List (String Global)) (all : List Text) → IsPermutation first sorted → map string_bytes first ≡ all → AreAmong (map string_bytes sorted) all × AreAmong all (map string_bytes sorted)
sorted_among first sorted all moved same =
    let texts = IsPermutation-map (λ (s : String Global). string_bytes s) first sorted moved in (
      λ v h. ap (has v) (sym same) ∙ has_permutation v (map string_bytes sorted) (map string_bytes first) (IsPermutation-sym (map string_bytes first) (map string_bytes sorted) texts) h,
      λ v h. has_permutation v (map string_bytes first) (map string_bytes sorted) texts (ap (has v) same ∙ h),
    )

-- one name more, which is added where the test is true
pub more_among : (test : Bool) (some all more : List Text) (n : Text) → more ≡ some ++ (if test then n ∷ [] else []) → AreAmong some all → AreAmong more (all ++ n ∷ [])
more_among true some all more n e a v h = ⊎_elim (λ q. has_left v all (n ∷ []) (a v q)) (λ q. last_is v n all q) (has_last v n some (ap (has v) (sym e) ∙ h))
more_among false some all more n e a v h = has_left v all (n ∷ []) (a v (ap (has v) (sym (e ∙ append-nil some)) ∙ h))

-- one name more of those that pass the test
pub filter_more : (p : Text → Bool) (test : Bool) (n : Text) (rest old new all : List Text) → p n ≡ test → new ≡ old
    ++ (if test then n ∷ [] else []) → all ≡ old ++ filter p (n ∷ rest) → all ≡ new ++ filter p rest
filter_more p true n rest old new all e f h =
    h ∙ rw e (sym (append_assoc old (n ∷ []) (filter p rest))) ∙ ap (λ xs. xs ++ filter p rest) (sym f)
filter_more p false n rest old new all e f h =
    h ∙ rw e refl ∙ ap (λ xs. xs ++ filter p rest) (sym (f ∙ append-nil old))

-- it is added unless there is no directory
pub more_others : (listings : Listings) (dir : Text) (test : Bool) (some all more : List Text) (n : Text) → more ≡ some ++ (if test then n ∷ [] else [])
    → (test ≡ false → listings (path_of dir n) ≡ None) → HasAllFolders listings dir all some → HasAllFolders listings dir (all ++ n ∷ []) more
more_others listings dir true some all more n e none a v h lacks =
    ⊎_elim (λ q. a v q (earlier (cases_Bool (has v some)))) (λ q. absurd (let there : has v more ≡ true = ap (has v) e ∙ last_is v n some q in cc)) (has_last v n all h)
  where
    earlier : (has v some ≡ true) ⊎ (has v some ≡ false) → has v some ≡ false
    earlier (inl q) = absurd (let there : has v more ≡ true = ap (has v) e ∙ has_left v some (n ∷ []) q in cc)
    earlier (inr q) = q
more_others listings dir false some all more n e none a v h lacks =
    ⊎_elim (λ q. a v q (ap (has v) (sym (e ∙ append-nil some)) ∙ lacks)) (λ q. ap (λ x. listings (path_of dir x)) q ∙ none refl) (has_last v n all h)
