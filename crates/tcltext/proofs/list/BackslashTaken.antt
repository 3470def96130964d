-- A backslash takes bytes of what follows it, and leaves no more than that.
use Rattle.std.proofs.Common.{◌≡◌, ℕ, zero, suc, ◌+◌, ◌*◌, ◌≤◌, [], ◌∷◌, length, Bool, true, false, ◌==◌, ◌&&◌, nat_lt}
use Rattle.std.proofs.Common.{nat_le, Option, Some, None, if◌then◌else◌, subst, arith}
use Rattle.std.specs.Char.{digit_value}
use Rattle.tcltext.specs.chars.Bytes.{newline, is_continuation}
use Rattle.tcltext.specs.chars.Runs.{Text}
use Rattle.tcltext.specs.chars.Backslash.{after_backslash, is_octal, character, octal_at, octal_on, hexadecimal_at}
use Rattle.tcltext.specs.chars.Backslash.{hexadecimal_on, code_at, wide_code_at, begins_hexadecimal, is_blank_or_tab}
use Rattle.tcltext.specs.chars.Backslash.{digit_at}
use Rattle.tcltext.proofs.list.Runs.{back_no_longer}

either : {A : Type 0} (P : A → Type 0) (t : Bool) (x y : A) → P x → P y → P (if t then x else y)
either P true x y a b = a
either P false x y a b = b

-- what is left is no longer than that
abbrev Leaves : {A : Type 0} → ℕ → Option (A × Text) → Type 0
Leaves n None = Unit {0}
Leaves n (Some p) = length p.1 ≤ n

digit_leaves : (base : ℕ) (bs : Text) → Leaves (length bs) (digit_at base bs)
digit_leaves base [] = tt
digit_leaves base (b ∷ bs) = either (Leaves (length (b ∷ bs))) (nat_lt (digit_value b) base) (Some (digit_value b, bs)) None (omega arith) tt

octal_leaves : (n v : ℕ) (bs : Text) → length (octal_at n v bs).1 ≤ length bs
octal_leaves zero v bs = omega arith
octal_leaves (suc n) v bs = cases (digit_at 8 bs) (digit_leaves 8 bs) (octal_leaves n) where
  cases : (d : Option (ℕ × Text)) → Leaves (length bs) d → ((w : ℕ) (cs : Text) → length (octal_at n w cs).1 ≤ length cs) → length (octal_on (octal_at n) v bs d).1 ≤ length bs
  cases None h more = omega arith
  cases (Some d) h more = either (λ (r : ℕ × Text). length r.1 ≤ length bs) (nat_lt (v * 8 + d.0) 256) (octal_at n (v * 8 + d.0) d.1) (v, bs) (omega (arith, more (v * 8 + d.0) d.1)) (omega arith)

hexadecimal_leaves : (n v : ℕ) (bs : Text) → length (hexadecimal_at n v bs).1 ≤ length bs
hexadecimal_leaves zero v bs = omega arith
hexadecimal_leaves (suc n) v bs = cases (digit_at 16 bs) (digit_leaves 16 bs) (hexadecimal_leaves n) where
  cases : (d : Option (ℕ × Text)) → Leaves (length bs) d → ((w : ℕ) (cs : Text) → length (hexadecimal_at n w cs).1 ≤ length cs) → length (hexadecimal_on (hexadecimal_at n) v bs d).1 ≤ length bs
  cases None h more = omega arith
  cases (Some d) h more = omega (arith, more (v * 16 + d.0) d.1)

character_leaves : (n : ℕ) (r : ℕ × Text) → length r.1 ≤ n → Leaves n (character r)
character_leaves n r h = either (Leaves n) (nat_le 55296 r.0 && nat_lt r.0 57344) None _ tt h

code_leaves : (n b : ℕ) (bs : Text) → Leaves (length bs) (code_at n b bs)
code_leaves n b bs = either (Leaves (length bs)) (begins_hexadecimal bs) (character (hexadecimal_at n 0 bs))
    (Some (b ∷ [], bs)) (character_leaves (length bs) (hexadecimal_at n 0 bs) (hexadecimal_leaves n 0 bs)) (omega arith)

wide_code_leaves : (bs : Text) → Leaves (length bs) (wide_code_at bs)
wide_code_leaves bs = either (Leaves (length bs)) (begins_hexadecimal bs) None (Some (85 ∷ [], bs)) tt (omega arith)

more_left : {A : Type 0} (m n : ℕ) (found : Option (A × Text)) → m ≤ n → Leaves m found → Leaves n found
more_left m n None le h = tt
more_left m n (Some p) le h = omega arith

leaves : (bs : Text) → Leaves (length bs) (after_backslash bs)
leaves [] = tt
leaves (b ∷ bs) =
    let P : Option (Text × Text) → Type 0 = Leaves (length (b ∷ bs)) in
    either P (b == newline) _ _ (omega (arith, back_no_longer is_blank_or_tab bs))
    (either P (is_octal b) _ _ (character_leaves (length (b ∷ bs)) (octal_at 3 0 (b ∷ bs)) (octal_leaves 3 0 (b ∷ bs)))
    (either P (b == 120) _ _ (more_left (length bs) (length (b ∷ bs)) (code_at 2 b bs) (omega arith) (code_leaves 2 b bs))
    (either P (b == 117) _ _ (more_left (length bs) (length (b ∷ bs)) (code_at 4 b bs) (omega arith) (code_leaves 4 b bs))
    (either P (b == 85) _ _ (more_left (length bs) (length (b ∷ bs)) (wide_code_at bs) (omega arith) (wide_code_leaves bs))
    (either P (nat_le 128 b) _ _ (omega (arith, back_no_longer is_continuation bs)) (omega arith))))))

pub taken_length : (bs v r : Text) → after_backslash bs ≡ Some (v, r) → length r ≤ length bs
taken_length bs v r h = subst (Leaves (length bs)) h (leaves bs)
