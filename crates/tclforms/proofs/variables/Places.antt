-- The place of a name among entries.
use Rattle.std.proofs.Common.{◌≡◌, ℕ, suc, ◌+◌, Bool, true, false, cond, List, [], ◌∷◌, Some, None, String, Global}
use Rattle.std.proofs.Common.{refl, sym, ap, ◌∙◌, arith}
use Rattle.std.specs.List.{position, position_from, slice_get}
use Rattle.std.specs.Map.{keys_of, values_of}
use Rattle.std.specs.Option.{option_map}
use Rattle.std.specs.String.{string_bytes}
use Rattle.std.specs.Str.{bytes_eq}
use Rattle.std.proofs.lemmas.Iterator.Adapters.{position_from-zero}
use Rattle.indexmap.specs.IndexMap.{set_value_at}
use Rattle.tclrules.specs.Variables.{lookup, store}
use Rattle.tclforms.proofs.variables.Frames.{named}

module _ {A B : Type 0} (f : A → B) where
  placed : (es : List (String Global × A)) (q : List ℕ) (i j : ℕ)
      → position_from (λ k. bytes_eq q (string_bytes k)) i (keys_of es) ≡ Some j → (k : ℕ) × (j ≡ i + k)
      × ((v : A) → named f (set_value_at es k v) ≡ store (named f es) q (f v))
  placed [] q i j h = cc
  placed (e ∷ es) q i j h = go (bytes_eq q (string_bytes e.0)) refl h (placed es q (i + 1) j)
    where
      go : (b : Bool) → bytes_eq q (string_bytes e.0) ≡ b → cond b (Some i) (position_from (λ k. bytes_eq q (string_bytes k)) (i + 1) (keys_of es)) ≡ Some j
          → (position_from (λ k. bytes_eq q (string_bytes k)) (i + 1) (keys_of es) ≡ Some j → (k : ℕ) × (j ≡ i + 1 + k) × ((v : A) → named f (set_value_at es k v) ≡ store (named f es) q (f v)))
          → (k : ℕ) × (j ≡ i + k) × ((v : A) → named f (set_value_at (e ∷ es) k v) ≡ store (named f (e ∷ es)) q (f v))
      go true t h r = let same : i ≡ j = cc in (0, omega arith, λ v. rw t refl)
      go false t h r = let p = r h in let n : j ≡ i + suc p.0 = omega arith in (suc p.0, n, λ v. rw t (ap (λ l. (string_bytes e.0, f e.1) ∷ l) (p.2 v)))

  -- writing at the place of a name is storing under it
  pub set_at_place : (es : List (String Global × A)) (q : List ℕ) (j : ℕ)
      → Some j ≡ position (λ k. bytes_eq q (string_bytes k)) (keys_of es) → (v : A)
      → named f (set_value_at es j v) ≡ store (named f es) q (f v)
  set_at_place es q j h v =
      let p = placed es q 0 j (sym (h ∙ position_from-zero (λ k. bytes_eq q (string_bytes k)) (keys_of es))) in
      let n : j ≡ p.0 = omega arith in
      rw n (p.2 v)

  absent : (es : List (String Global × A)) (q : List ℕ) (i : ℕ) → position_from (λ k. bytes_eq q (string_bytes k)) i (keys_of es) ≡ None → lookup (named f es) q ≡ None
  absent [] q i h = refl
  absent (e ∷ es) q i h = go (bytes_eq q (string_bytes e.0)) h (absent es q (i + 1))
    where
      go : (b : Bool) → cond b (Some i) (position_from (λ k. bytes_eq q (string_bytes k)) (i + 1) (keys_of es)) ≡ None
          → (position_from (λ k. bytes_eq q (string_bytes k)) (i + 1) (keys_of es) ≡ None → lookup (named f es) q ≡ None)
          → cond b (Some (f e.1)) (lookup (named f es) q) ≡ None
      go true h r = cc
      go false h r = r h

  pub lookup_absent : (es : List (String Global × A)) (q : List ℕ) → None ≡ position (λ k. bytes_eq q (string_bytes k)) (keys_of es) → None ≡ lookup (named f es) q
  lookup_absent es q h = sym (absent es q 0 (sym (h ∙ position_from-zero (λ k. bytes_eq q (string_bytes k)) (keys_of es))))

  held : (es : List (String Global × A)) (q : List ℕ) (i j : ℕ)
      → position_from (λ k. bytes_eq q (string_bytes k)) i (keys_of es) ≡ Some j → (k : ℕ) × (j ≡ i + k)
      × (lookup (named f es) q ≡ option_map f (slice_get (values_of es) k))
  held [] q i j h = cc
  held (e ∷ es) q i j h = go (bytes_eq q (string_bytes e.0)) h (held es q (i + 1) j)
    where
      go : (b : Bool) → cond b (Some i) (position_from (λ k. bytes_eq q (string_bytes k)) (i + 1) (keys_of es)) ≡ Some j
          → (position_from (λ k. bytes_eq q (string_bytes k)) (i + 1) (keys_of es) ≡ Some j → (k : ℕ) × (j ≡ i + 1 + k) × (lookup (named f es) q ≡ option_map f (slice_get (values_of es) k)))
          → (k : ℕ) × (j ≡ i + k) × (cond b (Some (f e.1)) (lookup (named f es) q) ≡ option_map f (slice_get (values_of (e ∷ es)) k))
      go true h r = let same : i ≡ j = cc in (0, omega arith, refl)
      go false h r = let p = r h in let n : j ≡ i + suc p.0 = omega arith in (suc p.0, n, p.2)

  pub lookup_at_place : (es : List (String Global × A)) (q : List ℕ) (j : ℕ)
      → Some j ≡ position (λ k. bytes_eq q (string_bytes k)) (keys_of es) → (v : A)
      → slice_get (values_of es) j ≡ Some v → Some (f v) ≡ lookup (named f es) q
  lookup_at_place es q j h v e =
      let p = held es q 0 j (sym (h ∙ position_from-zero (λ k. bytes_eq q (string_bytes k)) (keys_of es))) in
      let n : j ≡ p.0 = omega arith in
      sym (p.2 ∙ ap (λ r. option_map f r) (rw n at e))
