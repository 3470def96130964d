-- Braces that match (Tcl(n), rule 6: a backslash and the character after it count for none).
use Rattle.std.specs.Prelude.{◌≢◌, ℕ, zero, suc, [], ◌∷◌, ◌++◌, Bool, true, false, ◌==◌, if◌then◌else◌, Option, Some}
use Rattle.std.specs.Prelude.{None, option_map}
use Rattle.tcltext.specs.chars.Bytes.{backslash, left_brace, right_brace}
use Rattle.tcltext.specs.chars.Runs.{Text}

-- braces match, but for those after a backslash
pub data Balanced : Text → Type 0 where
  nothing : Balanced []
  other : {b : ℕ} {bs : Text} → b ≢ backslash → b ≢ left_brace → b ≢ right_brace → Balanced bs → Balanced (b ∷ bs)
  escaped : {b : ℕ} {bs : Text} → Balanced bs → Balanced (backslash ∷ (b ∷ bs))
  inner : {inside bs : Text} → Balanced inside → Balanced bs → Balanced (left_brace ∷ (inside ++ right_brace ∷ bs))

-- The brace that closes, as a function that computes; by the law `closing_brace` it agrees with Balanced.

-- the byte put before the text that was found
abbrev pub with_first : ℕ → Option (Text × Text) → Option (Text × Text)
with_first b found = option_map (λ p. (b ∷ p.0, p.1)) found

-- Inside braces, what one byte does: whether the next byte is escaped, and how many braces are then open inside. None
-- where it closes the outer brace.
abbrev pub brace_step : Bool → ℕ → ℕ → Option (Bool × ℕ)
brace_step true depth b = Some (false, depth)
brace_step false zero b =
    if b == backslash then Some (true, 0)
    else if b == left_brace then Some (false, 1)
    else if b == right_brace then None
    else Some (false, 0)
brace_step false (suc depth) b =
    if b == backslash then Some (true, suc depth)
    else if b == left_brace then Some (false, suc (suc depth))
    else if b == right_brace then Some (false, depth)
    else Some (false, suc depth)

-- what is found after a byte, by what the byte does
abbrev pub after_step : ℕ → Text → (Bool → ℕ → Option (Text × Text)) → Option (Bool × ℕ) → Option (Text × Text)
after_step b bs more None = Some ([], bs)
after_step b bs more (Some s) = with_first b (more s.0 s.1)

-- the text before the brace that closes, and the text after it
unfoldable pub braced_at : Bool → ℕ → Text → Option (Text × Text)
braced_at next depth [] = None
braced_at next depth (b ∷ bs) = after_step b bs (λ e d. braced_at e d bs) (brace_step next depth b)
