-- A text with a semicolon at its end, and without one.
use Rattle.std.proofs.Common.{◌≡◌, ℕ, ◌+◌, ◌-◌, Option, Some, None, [], ◌∷◌, ◌++◌, length, take, Bor, refl, sym, ap, ◌∙◌, lit<, Bool, true, false, ◌==◌, arith}
use Rattle.std.proofs.lemmas.Bool.Decides.{nat_tests}
use Rattle.std.specs.Prelude.{MatchOption, unwrap_or, ◌≢◌, if◌then◌else◌}
use Rattle.std.specs.Str.Pattern.{FindsCharSuffix}
use Rattle.std.proofs.lemmas.Str.Pattern.{strip_suffix_char}
use Rattle.terminal.specs.text.Shown.{Text}
use Rattle.module_explain.specs.FileLines.{without_semicolon}

-- one is taken off
off : (front : Text) → without_semicolon (front ++ 59 ∷ []) ≡ front
off [] = refl
off (b ∷ []) = refl
off (b ∷ c ∷ more) = ap (λ (t : Text). b ∷ t) (off (c ∷ more))

is_semicolon : (b : ℕ) → (b == 59) ≡ true → b ≡ 59
is_semicolon b h = grind (arith, nat_tests)

-- where there is none the text stays
stays_one : (b : ℕ) → ((front : Text) → b ∷ [] ≢ front ++ 59 ∷ []) → (t : Bool) → (b == 59) ≡ t
    → (if t then [] else b ∷ []) ≡ b ∷ []
stays_one b none true e = absurd (none [] (ap (λ (n : ℕ). n ∷ []) (is_semicolon b e)))
stays_one b none false e = refl

stays : (text : Text) → ((front : Text) → text ≢ front ++ 59 ∷ []) → without_semicolon text ≡ text
stays [] none = refl
stays (b ∷ []) none = stays_one b none (b == 59) refl
stays (b ∷ c ∷ more) none = ap (λ (t : Text). b ∷ t) (stays (c ∷ more) (λ front e. none (b ∷ front) (ap (λ (t : Text). b ∷ t) e)))

-- what `strip_suffix` answers
stripped : (text : Bor Text) (r : Option (Bor Text))
    → MatchOption r ((front : Text) → text.now ≢ front ++ 59 ∷ []) (λ x. text.now ≡ x.now ++ 59 ∷ [])
    → (unwrap_or r text).now ≡ without_semicolon text.now
stripped text None h = sym (stays text.now h)
stripped text (Some x) h = sym (ap without_semicolon h ∙ off x.now)

pub stripped_or : (text : Bor Text) (r : Option (Bor Text))
    → MatchOption r (FindsCharSuffix 59 text.now None) (λ x. (n : ℕ) × FindsCharSuffix 59 text.now (Some n) × (x.now ≡ take (length text.now - n) text.now) × (length x.now + n ≡ length text.now))
    → (unwrap_or r text).now ≡ without_semicolon text.now
stripped_or text r h = stripped text r (strip_suffix_char 59 text.now r h (lit< tt))
