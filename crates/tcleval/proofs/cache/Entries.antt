-- Maps of strings read as texts with trees.
use Rattle.std.proofs.Common.{◌≡◌, ℕ, suc, ◌+◌, ◌<◌, ◌≤◌, Bool, true, false, cond, not, nat_lt, ◌||◌, List, [], ◌∷◌}
use Rattle.std.proofs.Common.{◌++◌, map, length, get_or, slice_get, Contains, Some, None, String, Global, refl, sym, ap}
use Rattle.std.proofs.Common.{◌∙◌, arith, length-append}
use Rattle.std.specs.Prelude.{string_bytes, bytes_eq}
use Rattle.std.specs.declared.rc.Rc.{Rc}
use Rattle.std.specs.String.{string_eq}
use Rattle.std.specs.List.{IsDistinct, AllByRecursion, position, position_or_len}
use Rattle.std.specs.Map.{keys_of}
use Rattle.std.proofs.lemmas.Bool.Decides.{nat_tests}
use Rattle.std.proofs.lemmas.List.{map-append, get_or-map, length-map}
use Rattle.std.proofs.lemmas.Option.{slice_get_within, get_or_from_slice_get}
use Rattle.std.proofs.lemmas.Slice.Eq.{bytes_eq-Decides}
use Rattle.std.proofs.lemmas.List.Sums.{sum_by_push}
use Rattle.indexmap.specs.IndexMap.{insert_entry}
use Rattle.tcltext.specs.chars.Runs.{Text}
use Rattle.tcleval.specs.cache.Trees.{Trees, texts_of, index_of, bytes_of, is_full, max_texts, max_bytes}
use Rattle.tcleval.specs.cache.Texts.{entries_view}

module _ {X Y : Type 0} (f : X → Y) (p : Y → Bool) where
  place_map : (xs : List X) → position_or_len (λ x. p (f x)) xs ≡ position_or_len p (map f xs)
  place_map [] = refl
  place_map (x ∷ xs) = ap (λ n. cond (not (p (f x))) (1 + n) 0) (place_map xs)

  length_map : (xs : List X) → length xs ≡ length (map f xs)
  length_map [] = refl
  length_map (x ∷ xs) = ap suc (length_map xs)

  position_map : (xs : List X) → position (λ x. p (f x)) xs ≡ position p (map f xs)
  position_map xs = rw (place_map xs, length_map xs) refl

module _ {X : Type 0} (p : X → Bool) where
  beyond : (xs : List X) → position p xs ≡ None → length xs ≤ position_or_len p xs
  beyond xs h = go (nat_lt (position_or_len p xs) (length xs)) refl h
    where
      go : (b : Bool) → nat_lt (position_or_len p xs) (length xs) ≡ b → cond b (Some (position_or_len p xs)) None ≡ None → length xs ≤ position_or_len p xs
      go true e g = absurd (cc)
      go false e g = grind (arith, nat_tests)

  absent : (xs : List X) → length xs ≤ position_or_len p xs → AllByRecursion (λ x. p x ≡ false) xs
  absent [] h = tt
  absent (x ∷ xs) h = go (absent xs) (p x) refl h
    where
      go : (length xs ≤ position_or_len p xs → AllByRecursion (λ y. p y ≡ false) xs) → (b : Bool) → p x ≡ b
          → length (x ∷ xs) ≤ cond (not b) (1 + position_or_len p xs) 0 → AllByRecursion (λ y. p y ≡ false) (x ∷ xs)
      go k true e g = absurd (omega arith)
      go k false e g = (e, k (omega arith))

module _ {X : Type 0} (p : X → Bool) (d : X) where
  passes : (xs : List X) → position_or_len p xs < length xs → p (get_or xs (position_or_len p xs) d) ≡ true
  passes [] h = absurd (omega arith)
  passes (x ∷ xs) h = go (passes xs) (p x) refl h
    where
      go : (position_or_len p xs < length xs → p (get_or xs (position_or_len p xs) d) ≡ true) → (b : Bool) → p x ≡ b
          → cond (not b) (1 + position_or_len p xs) 0 < length (x ∷ xs)
          → p (get_or (x ∷ xs) (cond (not (p x)) (1 + position_or_len p xs) 0) d) ≡ true
      go k true e g = rw e e
      go k false e g =
          let n : 1 + position_or_len p xs ≡ suc (position_or_len p xs) = omega arith in
          rw (e, n) (k (omega arith))

  -- the entry at the index passes the test
  at_place : (xs : List X) (i : ℕ) → position p xs ≡ Some i → p (get_or xs i d) ≡ true
  at_place xs i h = go (nat_lt (position_or_len p xs) (length xs)) refl h
    where
      go : (b : Bool) → nat_lt (position_or_len p xs) (length xs) ≡ b → cond b (Some (position_or_len p xs)) None ≡ Some i → p (get_or xs i d) ≡ true
      go false e g = absurd (cc)
      go true e g =
          let n : position_or_len p xs ≡ i = cc in
          let l : position_or_len p xs < length xs = grind (arith, nat_tests) in
          rw (← n) (passes xs l)

module _ {T : Type 0} where
  texts_entries : (es : List (String Global × Rc T Global)) → map string_bytes (keys_of es) ≡ texts_of (entries_view es)
  texts_entries [] = refl
  texts_entries (e ∷ es) = ap (λ ts. string_bytes e.0 ∷ ts) (texts_entries es)

  pub place_entries : (es : List (String Global × Rc T Global)) (t : Text) → position (λ k. bytes_eq t (string_bytes k)) (keys_of es) ≡ index_of (entries_view es) t
  place_entries es t = position_map string_bytes (bytes_eq t) (keys_of es) ∙ ap (position (bytes_eq t)) (texts_entries es)

  pub distinct_entries : (es : List (String Global × Rc T Global)) → IsDistinct string_eq (keys_of es) → IsDistinct bytes_eq (texts_of (entries_view es))
  unfolding IsDistinct
  distinct_entries [] h = tt
  distinct_entries (e ∷ es) h = (others es h.0, distinct_entries es h.1)
    where
      others : (fs : List (String Global × Rc T Global)) → AllByRecursion (λ k. string_eq e.0 k ≡ false) (keys_of fs)
          → AllByRecursion (λ t. bytes_eq (string_bytes e.0) t ≡ false) (texts_of (entries_view fs))
      others [] g = tt
      others (f ∷ fs) g = (g.0, others fs g.1)

  pub insert_last : (es : List (String Global × Rc T Global)) (k : String Global) (v : Rc T Global)
      → index_of (entries_view es) (string_bytes k) ≡ None → insert_entry string_eq es k v ≡ es ++ (k, v) ∷ []
  insert_last es k v h = go es (absent (bytes_eq (string_bytes k)) (texts_of (entries_view es)) (beyond (bytes_eq (string_bytes k)) (texts_of (entries_view es)) h))
    where
      go : (fs : List (String Global × Rc T Global)) → AllByRecursion (λ t. bytes_eq (string_bytes k) t ≡ false) (texts_of (entries_view fs)) → insert_entry string_eq fs k v ≡ fs ++ (k, v) ∷ []
      go [] a = refl
      go (f ∷ fs) a = ap (λ b. cond b ((f.0, v) ∷ fs) (f ∷ insert_entry string_eq fs k v)) a.0 ∙ ap (λ r. f ∷ r) (go fs a.1)

  pub view_push : (es : List (String Global × Rc T Global)) (k : String Global) (v : Rc T Global) → entries_view (es ++ (k, v) ∷ []) ≡ entries_view es ++ (string_bytes k, v.value) ∷ []
  view_push es k v = map-append _ es _

  pub entries_added : (es fs : List (String Global × Rc T Global)) (k : String Global) (v : Rc T Global) (t : Text)
      (x : T) → fs ≡ insert_entry string_eq es k v → string_bytes k ≡ t → v.value ≡ x
      → index_of (entries_view es) t ≡ None → entries_view fs ≡ entries_view es ++ (t, x) ∷ []
  entries_added es fs k v t x e f g h =
      ap entries_view (e ∙ insert_last es k v (rw f h)) ∙ view_push es k v ∙ rw (f, g) refl

  pub length_push : (es : Trees T) (t : Text) (x : T) → length (es ++ (t, x) ∷ []) ≡ length es + 1
  length_push es t x = length-append es ((t, x) ∷ [])

  pub bytes_push : (es : Trees T) (t : Text) (v : T) → bytes_of (es ++ (t, v) ∷ []) ≡ bytes_of es + length t
  bytes_push es t v = rw (map-append (λ (e : Text × T). e.0) es ((t, v) ∷ [])) (sum_by_push length (texts_of es) t)

  pub room : (es : Trees T) (t : Text) → is_full es t ≡ false → (length es + 1 ≤ max_texts) × (bytes_of es + length t ≤ max_bytes)
  room es t h = go (nat_lt max_texts (length es + 1)) (nat_lt max_bytes (bytes_of es + length t)) refl refl h
    where
      go : (a b : Bool) → nat_lt max_texts (length es + 1) ≡ a → nat_lt max_bytes (bytes_of es + length t) ≡ b → (a || b) ≡ false → (length es + 1 ≤ max_texts) × (bytes_of es + length t ≤ max_bytes)
      go true b e f g = absurd (cc)
      go false true e f g = absurd (cc)
      go false false e f g = (grind (arith, nat_tests), grind (arith, nat_tests))

  pub made_there : (es : List (String Global × Rc T Global)) (t : Text) (i : ℕ) (k : String Global) (v : Rc T Global)
      → position (λ k. bytes_eq t (string_bytes k)) (keys_of es) ≡ Some i → slice_get es i ≡ Some (k, v)
      → Contains (entries_view es) (t, v.value)
  made_there es t i k v h g =
      let l : i < length es = slice_get_within es i (k, v) g in
      let e : get_or es i (k, v) ≡ (k, v) = get_or_from_slice_get es i (k, v) (k, v) g in
      let n : get_or (keys_of es) i k ≡ k = get_or-map (λ (e : String Global × Rc T Global). e.0) es i (k, v) k l ∙ ap (λ (e : String Global × Rc T Global). e.0) e in
      let same : t ≡ string_bytes k = (bytes_eq-Decides t (string_bytes k)).0 (rw n at (at_place (λ (k : String Global). bytes_eq t (string_bytes k)) k (keys_of es) i h)) in
      let m : length (entries_view es) ≡ length es = length-map es (λ (e : String Global × Rc T Global). (string_bytes e.0, e.1.value)) in (
        i,
        rw m l,
        get_or-map (λ (e : String Global × Rc T Global). (string_bytes e.0, e.1.value)) es i (k, v)
            (t, v.value) l ∙ ap (λ (e : String Global × Rc T Global). (string_bytes e.0, e.1.value)) e
            ∙ ap (λ (x : Text). (x, v.value)) (sym same),
      )
