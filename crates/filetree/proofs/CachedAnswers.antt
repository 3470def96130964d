-- One more answer is cached, and one more path is recorded.
use Rattle.std.proofs.Common.{◌≡◌, ℕ, Bool, true, false, not, cond, List, Option, Some, Result, Ok, Err, String, length}
use Rattle.std.proofs.Common.{take, string_bytes, [], ◌∷◌, ◌++◌, ◌||◌, map, refl, sym, ap, subst, ◌∙◌, inl, inr, ⊎_elim}
use Rattle.std.proofs.Math.Logic.{∥∥₁_elim, ∥∥₁_map, ∥∥₁_prop}
use Rattle.std.specs.Prelude.{OnErr, OnOk}
use Rattle.std.proofs.lemmas.Bool.{cases_Bool, or_cases, or_right}
use Rattle.std.specs.List.{list_any}
use Rattle.std.proofs.lemmas.Slice.Eq.{bytes_eq-Decides}
use Rattle.std.proofs.lemmas.Map.Text.{btree_map_updates_text, hash_map_updates_text}
use Rattle.std.specs.HashMap as hash
use Rattle.std.specs.Map.{lookup}
use Rattle.std.specs.HashMap.{HashMap}
use Rattle.std.specs.BTreeMap.{BTreeMap, get_by_text, UpdatesBy}
use Rattle.std.specs.Cmp.Lexicographic.{slice_cmp}
use Rattle.std.specs.Option.{option_map}
use Rattle.std.specs.Ordering.{nat_cmp}
use Rattle.std.specs.Str.{bytes_eq}
use Rattle.std.specs.String.{string_cmp, string_eq}
use Rattle.std.proofs.lemmas.List.{take-take}
use Rattle.filetree.specs.Known.{Fits, IsAnswered, SaysNoLess, lacks}
use Rattle.filetree.specs.Names.{has_name}
use Rattle.filetree.specs.Systems.{Answers, IsHiddenAndAbsent, IsHiddenIn}
use Rattle.filetree.specs.declared.known.KnownPath.{KnownPath}
use Rattle.filetree.specs.declared.known.KnownPath.TheVariants as known
use Rattle.filetree.specs.Agreement.{Files, Listings, with_at, HaveSamePrefix, FailedAt}

no_clash : ◌≡◌ {A = Bool} false true → ⊥
no_clash e = cc

of_not : (b : Bool) → not b ≡ true → b ≡ false
of_not true e = absurd (no_clash e)
of_not false e = refl

-- what is at each path fits what is known of it
abbrev pub FitsAll : {Y S : Type 0} → HashMap (String Y) KnownPath S → Files → Listings → Type 0
FitsAll m files listings = (path : List ℕ) (known : KnownPath) → hash.get_by_text m path ≡ Some known → Fits known (files path) (listings path)

-- one path is learned
module _ {Y S : Type 0} (m n : HashMap (String Y) KnownPath S) (path key : List ℕ) (known : KnownPath) (same : key ≡ path)
    (updates : hash.UpdatesBy string_eq (λ k. bytes_eq key (string_bytes k)) m n (Some known))
    (files : Files) (listings : Listings) (all : FitsAll n files listings) where
  now_at : (p : List ℕ) → hash.get_by_text n p ≡ cond (bytes_eq key p) (Some known) (hash.get_by_text m p)
  now_at p = hash_map_updates_text key m n (Some known) updates p

  pub fits_path : Fits known (files path) (listings path)
  fits_path = all path known (rw (now_at path, (bytes_eq-Decides key path).1 same) refl)

  pub fits_before : ((earlier : KnownPath) → hash.get_by_text m path ≡ Some earlier → SaysNoLess known earlier) → FitsAll m files listings
  fits_before later p earlier had = elim (cases_Bool (bytes_eq key p)) [
    | inl e ↦ let at_p : path ≡ p = sym same ∙ (bytes_eq-Decides key p).0 e in
        subst (λ q. Fits earlier (files q) (listings q)) at_p (later earlier (ap (λ q. hash.get_by_text m q) at_p ∙ had) (files path) (listings path) fits_path)
    | inr e ↦ all p earlier (rw (now_at p, e) had)
  ]

-- all that is known is made of the system's answers
abbrev pub AllAnswered : {Y S : Type 0} → Answers → HashMap (String Y) KnownPath S → Type 0
AllAnswered Answered m = (path : List ℕ) (k : KnownPath) → hash.get_by_text m path ≡ Some k → IsAnswered Answered path k

pub answered_too : {Y S : Type 0} (Answered : Answers) (m n : HashMap (String Y) KnownPath S) (path key : List ℕ) (known : KnownPath) → key ≡ path
    → hash.UpdatesBy string_eq (λ k. bytes_eq key (string_bytes k)) m n (Some known) → IsAnswered Answered path known → AllAnswered Answered m → AllAnswered Answered n
answered_too Answered m n path key known same updates h all p k had =
    let now : hash.get_by_text n p ≡ cond (bytes_eq key p) (Some known) (hash.get_by_text m p) = hash_map_updates_text key m n (Some known) updates p in
    elim (cases_Bool (bytes_eq key p)) [
      | inl e ↦
          let there : Some k ≡ Some known = sym had ∙ (now ∙ ap (λ b. cond b (Some known) (hash.get_by_text m p)) e) in
          let is : known ≡ k = cc in
          let at_p : path ≡ p = sym same ∙ (bytes_eq-Decides key p).0 e in
          subst (λ q. IsAnswered Answered q k) at_p (subst (λ x. IsAnswered Answered path x) is h)
      | inr e ↦ all p k (sym (now ∙ ap (λ b. cond b (Some known) (hash.get_by_text m p)) e) ∙ had)
    ]

-- the same after an insertion, which may fail
pub answered_after : {Y S V E : Type 0} (Answered : Answers) (m n : HashMap (String Y) KnownPath S) (path key : List ℕ) (known : KnownPath) (r : Result V E) → key ≡ path
    → OnOk r (hash.UpdatesBy string_eq (λ k. bytes_eq key (string_bytes k)) m n (Some known)) → OnErr r (n.entries ≡ m.entries)
    → ∥ IsAnswered Answered path known ∥₁ → ∥ AllAnswered Answered m ∥₁ → ∥ AllAnswered Answered n ∥₁
answered_after Answered m n path key known (Ok v) same updates kept one all =
    ∥∥₁_elim one ∥∥₁_prop (λ h. ∥∥₁_map all (answered_too Answered m n path key known same updates h))
answered_after Answered m n path key known (Err e) same updates kept one all =
    ∥∥₁_map all (λ a p k had. a p k (ap (λ es. lookup (λ q. bytes_eq p (string_bytes q)) es) (sym kept) ∙ had))

-- a hidden name that the listing of its directory hasn't
pub lacks_there : (Answered : Answers) (dir name path : List ℕ) (k : KnownPath) → IsHiddenIn dir name path → IsAnswered Answered dir k → lacks k name ≡ true
    → IsHiddenAndAbsent Answered path
lacks_there Answered dir name path known.Neither h a e = absurd (no_clash e)
lacks_there Answered dir name path (known.File prefix) h a e = absurd (no_clash e)
lacks_there Answered dir name path (known.WholeFile bytes) h a e = absurd (no_clash e)
lacks_there Answered dir name path known.Directory h a e = absurd (no_clash e)
lacks_there Answered dir name path (known.Listing names) h a e = (dir, name, string_bytes names.text, h, a, of_not (has_name (string_bytes names.text) name) e)

-- what is known of the one value that is there
pub of_some : {X : Type 0} (P : X → Type 0) (there : Option X) (x y : X) → there ≡ Some x → there ≡ Some y → P x → P y
of_some P there x y e f h = let same : x ≡ y = cc in subst P same h

put : {V W : Type 0} (view : V → W) (test : Bool) (value : V) (x : W) (rest : Option V) → view value ≡ x →
    option_map view (cond test (Some value) rest) ≡ cond test (Some x) (option_map view rest)
put view true value x rest e = ap Some e
put view false value x rest e = refl

-- one more value is put at a path
pub put_at : {Y V W : Type 0} (view : V → W) (m n : BTreeMap (String Y) V) (path key : List ℕ) (value : V) (x : W) → key ≡ path →
    UpdatesBy string_cmp (λ k. slice_cmp nat_cmp key (string_bytes k)) m n (Some value) → view value ≡ x → (p : List ℕ) →
    option_map view (get_by_text n p) ≡ with_at (λ q. option_map view (get_by_text m q)) path x p
put_at view m n path key value x same updates seen p =
    ap (option_map view) (btree_map_updates_text key m n (Some value) updates p)
    ∙ put view (bytes_eq key p) value x (get_by_text m p) seen
    ∙ ap (λ k. cond (bytes_eq k p) (Some x) (option_map view (get_by_text m p))) same

-- a file that was read has its first bytes
pub same_prefix_of_first : (size : ℕ) (xs ys : List ℕ) → take size xs ≡ ys → HaveSamePrefix size (Some xs) (Some ys)
same_prefix_of_first size xs ys e prefix short =
    let same : take (length prefix) xs ≡ take (length prefix) ys = sym (take-take (length prefix) size xs short) ∙ ap (take (length prefix)) e in
    rw same refl

any_end : (test : List ℕ → Bool) (xs : List (List ℕ)) (y : List ℕ) → list_any test (xs ++ y ∷ []) ≡ list_any test xs || test y
any_end test [] y = or_false (test y)
  where
    or_false : (b : Bool) → b || false ≡ b
    or_false true = refl
    or_false false = refl
any_end test (x ∷ xs) y = ap (λ b. test x || b) (any_end test xs y) ∙ or_or (test x) (list_any test xs) (test y)
  where
    or_or : (a b c : Bool) → a || (b || c) ≡ (a || b) || c
    or_or true b c = refl
    or_or false b c = refl

-- one more path is recorded
pub one_more : (xs : List (List ℕ)) (path : List ℕ) → FailedAt (λ p. list_any (bytes_eq p) xs) (λ p. list_any (bytes_eq p) (xs ++ path ∷ [])) path
one_more xs path = record {
  here = any_end (bytes_eq path) xs path ∙ or_right (list_any (bytes_eq path) xs) (bytes_eq path path) ((bytes_eq-Decides path path).1 refl);
  alone = λ p h. ⊎_elim (λ q. inl q) (λ q. inr ((bytes_eq-Decides p path).0 q)) (or_cases (list_any (bytes_eq p) xs) (bytes_eq p path) (sym (any_end (bytes_eq p) xs path) ∙ h));
  kept = λ p h. any_end (bytes_eq p) xs path ∙ ap (λ b. b || bytes_eq p path) h;
}

pub map_end : {A B : Type 0} (f : A → B) (xs : List A) (y : A) → map f (xs ++ y ∷ []) ≡ map f xs ++ f y ∷ []
map_end f [] y = refl
map_end f (x ∷ xs) y = ap (λ zs. f x ∷ zs) (map_end f xs y)
