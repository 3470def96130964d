-- What follows a backslash and what it takes along is an end of the text.
use Rattle.std.proofs.Common.{◌≡◌, ℕ, zero, suc, ◌+◌, ◌*◌, [], ◌∷◌, ◌++◌, Bool, true, false, ◌&&◌, ◌==◌, nat_lt, nat_le}
use Rattle.std.proofs.Common.{if◌then◌else◌, Option, Some, None, refl, sym, ap, ◌∙◌}
use Rattle.std.specs.Char.{digit_value}
use Rattle.tcltext.specs.chars.Bytes.{newline, is_continuation}
use Rattle.tcltext.specs.chars.Runs.{Text, take_while, drop_while}
use Rattle.tcltext.specs.chars.Backslash.{is_octal, is_blank_or_tab, digit_at, octal_on, octal_at, hexadecimal_on}
use Rattle.tcltext.specs.chars.Backslash.{hexadecimal_at, character, begins_hexadecimal, code_at, wide_code_at, letter_value}
use Rattle.tcltext.specs.chars.Backslash.{after_backslash}
use Rattle.tcltext.specs.script.Pieces.{IsSuffixOf, IsPrefixOf}
use Rattle.tcltext.proofs.script.Ends.{end_same, end_behind, end_through}

-- a choice has what both sides have
pub either : {A : Type 0} (P : A → Type 0) (t : Bool) (x y : A) → P x → P y → P (if t then x else y)
either P true x y here there = here
either P false x y here there = there

pub back_end : (p : ℕ → Bool) (bs : Text) → IsSuffixOf bs (drop_while p bs)
back_end p [] = end_same []
back_end p (b ∷ bs) = either (IsSuffixOf (b ∷ bs)) (p b) (drop_while p bs) (b ∷ bs) (end_behind b bs _ (back_end p bs)) (end_same (b ∷ bs))

pub front_whole : (p : ℕ → Bool) (bs : Text) → bs ≡ take_while p bs ++ drop_while p bs
front_whole p [] = refl
front_whole p (b ∷ bs) = go (front_whole p bs) (p b) where
  go : bs ≡ take_while p bs ++ drop_while p bs → (t : Bool) → b ∷ bs ≡ (if t then b ∷ take_while p bs else []) ++ (if t then drop_while p bs else b ∷ bs)
  go more true = ap (λ xs. b ∷ xs) more
  go more false = refl

-- a run at the front
pub run_front : (p : ℕ → Bool) (bs run : Text) → run ≡ take_while p bs → IsPrefixOf bs run
run_front p bs run is = (drop_while p bs, front_whole p bs ∙ ap (λ xs. xs ++ drop_while p bs) (sym is))

-- what follows, if anything was read
abbrev pub LeavesSome : {A : Type 0} → (Text → Type 0) → Option (A × Text) → Type 0
LeavesSome P None = Unit {0}
LeavesSome P (Some x) = P x.1

pub digit_end : (base : ℕ) (bs : Text) → LeavesSome (IsSuffixOf bs) (digit_at base bs)
digit_end base [] = tt
digit_end base (b ∷ bs) = either (LeavesSome (IsSuffixOf (b ∷ bs))) (nat_lt (digit_value b) base) (Some (digit_value b, bs)) None (end_behind b bs bs (end_same bs)) tt

pub octal_end : (n v : ℕ) (bs : Text) → IsSuffixOf bs (octal_at n v bs).1
octal_end zero v bs = end_same bs
octal_end (suc n) v bs = go (octal_end n) (digit_at 8 bs) (digit_end 8 bs) where
  go : ((w : ℕ) (xs : Text) → IsSuffixOf xs (octal_at n w xs).1) → (d : Option (ℕ × Text)) → LeavesSome (IsSuffixOf bs) d → IsSuffixOf bs (octal_on (octal_at n) v bs d).1
  go more None e = end_same bs
  go more (Some d) e = either (λ (r : ℕ × Text). IsSuffixOf bs r.1) (nat_lt (v * 8 + d.0) 256) (octal_at n (v * 8 + d.0) d.1) (v, bs) (end_through bs d.1 _ e (more (v * 8 + d.0) d.1)) (end_same bs)

pub hexadecimal_end : (n v : ℕ) (bs : Text) → IsSuffixOf bs (hexadecimal_at n v bs).1
hexadecimal_end zero v bs = end_same bs
hexadecimal_end (suc n) v bs = go (hexadecimal_end n) (digit_at 16 bs) (digit_end 16 bs) where
  go : ((w : ℕ) (xs : Text) → IsSuffixOf xs (hexadecimal_at n w xs).1) → (d : Option (ℕ × Text)) → LeavesSome (IsSuffixOf bs) d → IsSuffixOf bs (hexadecimal_on (hexadecimal_at n) v bs d).1
  go more None e = end_same bs
  go more (Some d) e = end_through bs d.1 _ e (more (v * 16 + d.0) d.1)

pub character_leaves : (P : Text → Type 0) (r : ℕ × Text) → P r.1 → LeavesSome P (character r)
character_leaves P r h = either (LeavesSome P) (nat_le 55296 r.0 && nat_lt r.0 57344) None (Some _) tt h

pub code_leaves : (n b : ℕ) (bs : Text) → LeavesSome (IsSuffixOf bs) (code_at n b bs)
code_leaves n b bs = either (LeavesSome (IsSuffixOf bs)) (begins_hexadecimal bs) (character (hexadecimal_at n 0 bs))
    (Some (b ∷ [], bs)) (character_leaves (IsSuffixOf bs) (hexadecimal_at n 0 bs) (hexadecimal_end n 0 bs))
    (end_same bs)

pub wide_leaves : (bs : Text) → LeavesSome (IsSuffixOf bs) (wide_code_at bs)
wide_leaves bs = either (LeavesSome (IsSuffixOf bs)) (begins_hexadecimal bs) None (Some (85 ∷ [], bs)) tt (end_same bs)

behind_byte : {A : Type 0} (b : ℕ) (bs : Text) (found : Option (A × Text)) → LeavesSome (IsSuffixOf bs) found → LeavesSome (IsSuffixOf (b ∷ bs)) found
behind_byte b bs None e = tt
behind_byte b bs (Some x) e = end_behind b bs x.1 e

pub backslash_end : (bs : Text) → LeavesSome (IsSuffixOf bs) (after_backslash bs)
backslash_end [] = tt
backslash_end (b ∷ bs) = go (b == newline) (is_octal b) (b == 120) (b == 117) (b == 85) (nat_le 128 b) where
  go : (t u v w x y : Bool) → LeavesSome (IsSuffixOf (b ∷ bs)) (if t then Some (32 ∷ [], drop_while is_blank_or_tab bs)
      else if u then character (octal_at 3 0 (b ∷ bs))
      else if v then code_at 2 b bs
      else if w then code_at 4 b bs
      else if x then wide_code_at bs
      else if y then Some (b ∷ take_while is_continuation bs, drop_while is_continuation bs)
      else Some (letter_value b ∷ [], bs))
  go true u v w x y = end_behind b bs _ (back_end is_blank_or_tab bs)
  go false true v w x y = character_leaves (IsSuffixOf (b ∷ bs)) (octal_at 3 0 (b ∷ bs)) (octal_end 3 0 (b ∷ bs))
  go false false true w x y = behind_byte b bs (code_at 2 b bs) (code_leaves 2 b bs)
  go false false false true x y = behind_byte b bs (code_at 4 b bs) (code_leaves 4 b bs)
  go false false false false true y = behind_byte b bs (wide_code_at bs) (wide_leaves bs)
  go false false false false false true = end_behind b bs _ (back_end is_continuation bs)
  go false false false false false false = end_behind b bs bs (end_same bs)
