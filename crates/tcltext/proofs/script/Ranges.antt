-- Ranges of bytes that cut no character.
use Rattle.std.proofs.Common.{◌≡◌, ℕ, ◌+◌, ◌-◌, ◌<◌, ◌≤◌, length, take, drop, Bool, true, false, nat_lt, nat_le, refl}
use Rattle.std.proofs.Common.{sym, ap, ap₂, subst, ◌∙◌, arith}
use Rattle.std.specs.Prelude.{slice_index}
use Rattle.std.proofs.lemmas.Bool.Decides.{nat_tests}
use Rattle.std.specs.Str.{IsUtf8, IsCharBoundary}
use Rattle.std.proofs.lemmas.Str.{IsCharBoundary-from_rest}
use Rattle.tcltext.specs.chars.Runs.{Text}
use Rattle.tcltext.specs.script.Pieces.{IsSuffixOf, IsPrefixOf, is_boundary, between}
use Rattle.tcltext.proofs.script.Ends.{end_cut, end_drop, front_cut, front_take}

le_holds : (m n : ℕ) → nat_le m n ≡ true → m ≤ n
le_holds m n h = grind (arith, nat_tests)

le_fails : (m n : ℕ) → nat_le m n ≡ false → n < m
le_fails m n h = grind (arith, nat_tests)

lt_holds : (m n : ℕ) → nat_lt m n ≡ true → m < n
lt_holds m n h = grind (arith, nat_tests)

lt_fails : (m n : ℕ) → nat_lt m n ≡ false → n ≤ m
lt_fails m n h = grind (arith, nat_tests)

pub boundary_true : (bs : Text) (i : ℕ) → IsCharBoundary bs i → is_boundary bs i ≡ true
boundary_true bs i h = go (nat_le i (length bs)) (nat_le (length bs) i) (nat_lt (slice_index bs i) 128) (nat_le 192 (slice_index bs i)) refl refl refl refl where
  go : (t u v w : Bool) → nat_le i (length bs) ≡ t → nat_le (length bs) i ≡ u → nat_lt (slice_index bs i) 128 ≡ v → nat_le 192 (slice_index bs i) ≡ w → is_boundary bs i ≡ true
  go false u v w k l m n = let less : length bs < i = le_fails i (length bs) k in absurd (omega (arith, h.0))
  go true true v w k l m n = rw (k, l) refl
  go true false true w k l m n = rw (k, l, m) refl
  go true false false true k l m n = rw (k, l, m, n) refl
  go true false false false k l m n =
      let big : 192 ≤ slice_index bs i = h.1 (le_fails (length bs) i l) (lt_fails (slice_index bs i) 128 m) in
      let small : slice_index bs i < 192 = le_fails 192 (slice_index bs i) n in
      absurd (omega arith)

pub between_is : (bs : Text) (i j : ℕ) → i ≤ j → IsCharBoundary bs i → IsCharBoundary bs j → between bs i j ≡ take (j - i) (drop i bs)
between_is bs i j le h k = let t : nat_le i j ≡ true = grind (arith, nat_tests) in rw (t, boundary_true bs i h, boundary_true bs j k) refl

-- the range of a piece
pub between_piece : (bs rest piece : Text) → IsUtf8 rest → IsUtf8 piece → IsSuffixOf bs rest → IsPrefixOf rest piece
    → between bs (length bs - length rest) ((length bs - length rest) + length piece) ≡ piece
between_piece bs rest piece u v e f =
    let n = length bs - length rest in
    let cut : IsCharBoundary bs n = end_cut bs rest u e in
    let here : drop n bs ≡ rest = end_drop bs rest e in
    let inner : IsCharBoundary (drop n bs) (length piece) = subst (λ (xs : Text). IsCharBoundary xs (length piece)) (sym here) (front_cut rest piece u v f) in
    let last : IsCharBoundary bs (n + length piece) = IsCharBoundary-from_rest bs n (length piece) (omega arith) inner in
    let long : (n + length piece) - n ≡ length piece = omega arith in
    between_is bs n (n + length piece) (omega arith) cut last ∙ ap₂ (λ (k : ℕ) (xs : Text). take k xs) long here ∙ front_take rest piece f

-- the same, where the range begins so far from the front
pub between_at : (bs rest piece : Text) (start : ℕ) → IsUtf8 rest → IsUtf8 piece → IsSuffixOf bs rest
    → IsPrefixOf rest piece → start + length rest ≡ length bs → between bs start (start + length piece) ≡ piece
between_at bs rest piece start u v e f at =
    let same : start ≡ length bs - length rest = omega (arith, at) in
    ap (λ (n : ℕ). between bs n (n + length piece)) same ∙ between_piece bs rest piece u v e f
