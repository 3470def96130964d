-- A backslash that stands for nothing does so by five bytes behind it at most.
use Rattle.std.proofs.Common.{◌≡◌, ◌≢◌, ℕ, suc, ◌+◌, ◌*◌, ◌<◌, ◌≤◌, [], ◌∷◌, ◌++◌, length, Bool, true, false, ◌&&◌}
use Rattle.std.proofs.Common.{nat_lt, nat_le, Some, None, refl, sym, ap, subst, ◌∙◌, arith, ◌⊎◌, inl, inr}
use Rattle.std.specs.Prelude.{encode_utf8}
use Rattle.std.specs.Char.{digit_value}
use Rattle.std.proofs.lemmas.Bool.Decides.{nat_tests}
use Rattle.tcltext.specs.chars.Runs.{Text}
use Rattle.tcltext.specs.chars.Backslash.{is_hexadecimal, hexadecimal_at, character, begins_hexadecimal, code_at}
use Rattle.tcltext.specs.chars.Backslash.{wide_code_at, after_backslash}
use Rattle.tcltext.specs.script.ViablePrefixes.{IsBadEscape}
use Rattle.tcltext.proofs.script.Prefixes.{escape_letter}

some_none : {A : Type 0} (x : A) → Some x ≡ None → ⊥
some_none x h = cc

low_character : (r : ℕ × Text) → r.0 < 55296 → character r ≡ None → ⊥
low_character r h e = some_none (encode_utf8 r.0, r.1) (sym (is_one r h) ∙ e) where
  is_one : (r : ℕ × Text) → r.0 < 55296 → character r ≡ Some (encode_utf8 r.0, r.1)
  is_one r h = (let low : (nat_le 55296 r.0 && nat_lt r.0 57344) ≡ false = grind (arith, nat_tests) in rw low refl)

small_digit : (b : ℕ) → is_hexadecimal b ≡ true → digit_value b < 16
small_digit b h = grind (arith, nat_tests)

-- one digit, or none
abbrev Digit : ℕ → ℕ → Text → Type 0
Digit n v bs = (b : ℕ) × (rest : Text) × (bs ≡ b ∷ rest) × (is_hexadecimal b ≡ true) × ((xs : Text) → hexadecimal_at (suc n) v (b ∷ xs) ≡ hexadecimal_at n (v * 16 + digit_value b) xs)

digit : (n v : ℕ) (bs : Text) → (hexadecimal_at (suc n) v bs ≡ (v, bs)) ⊎ Digit n v bs
digit n v [] = inl refl
digit n v (b ∷ bs) = test (is_hexadecimal b) refl where
  test : (t : Bool) → is_hexadecimal b ≡ t → (hexadecimal_at (suc n) v (b ∷ bs) ≡ (v, b ∷ bs)) ⊎ Digit n v (b ∷ bs)
  test false h = inl (rw h refl)
  test true h = inr (b, bs, refl, h, λ xs. rw h refl)

-- so few digits, whatever follows them
abbrev Fixed : ℕ → ℕ → Text → Type 0
Fixed n v bs = (bad : Text) × (more : Text) × (bs ≡ bad ++ more) × (length bad ≤ n) × ((xs : Text) → character (hexadecimal_at n v (bad ++ xs)) ≡ None)

last : (v : ℕ) (bs : Text) → character (hexadecimal_at 0 v bs) ≡ None → Fixed 0 v bs
last v bs h = ([], bs, refl, omega arith, λ xs. same xs (nat_le 55296 v && nat_lt v 57344) refl) where
  same : (xs : Text) (t : Bool) → (nat_le 55296 v && nat_lt v 57344) ≡ t → character (v, xs) ≡ None
  same xs true e = rw e refl
  same xs false e = absurd (some_none (encode_utf8 v, bs) (rw e at h))

one_more : (n v : ℕ) (bs : Text) → v < 55296 → character (hexadecimal_at (suc n) v bs) ≡ None
    → ((b : ℕ) (rest : Text) → is_hexadecimal b ≡ true
    → character (hexadecimal_at n (v * 16 + digit_value b) rest) ≡ None → Fixed n (v * 16 + digit_value b) rest)
    → Fixed (suc n) v bs
one_more n v bs low h next = elim (digit n v bs) [
  | inl e ↦ absurd (low_character (v, bs) low (sym (ap character e) ∙ h))
  | inr k ↦ (
      let b = k.0 in
      let rest = k.1 in
      let read : character (hexadecimal_at n (v * 16 + digit_value b) rest) ≡ None = sym (ap character (k.4 rest)) ∙ ap (λ ys. character (hexadecimal_at (suc n) v ys)) (sym k.2) ∙ h in
      let m = next b rest k.3 read in
      (b ∷ m.0, m.1, k.2 ∙ ap (λ ys. b ∷ ys) m.2, omega (arith, m.3), λ xs. ap character (k.4 (m.0 ++ xs)) ∙ m.4 xs)
      )
]

four_digits : (bs : Text) → character (hexadecimal_at 4 0 bs) ≡ None → Fixed 4 0 bs
four_digits bs h =
    one_more 3 0 bs (omega arith) h (λ a ys ha h.
    let da = small_digit a ha in
    one_more 2 (0 * 16 + digit_value a) ys (omega arith) h (λ b bs hb h.
    let db = small_digit b hb in
    one_more 1 ((0 * 16 + digit_value a) * 16 + digit_value b) bs (omega arith) h (λ c cs hc h.
    let dc = small_digit c hc in
    one_more 0 (((0 * 16 + digit_value a) * 16 + digit_value b) * 16 + digit_value c) cs (omega arith) h
    (λ e es he h. last ((((0 * 16 + digit_value a) * 16 + digit_value b) * 16 + digit_value c) * 16 + digit_value e)
    es h))))

begins_wide : (bs : Text) → wide_code_at bs ≡ None → (b : ℕ) × (rest : Text) × (bs ≡ b ∷ rest) × (is_hexadecimal b ≡ true)
begins_wide [] h = absurd (some_none (85 ∷ [], []) h)
begins_wide (b ∷ bs) h = test (is_hexadecimal b) refl where
  test : (t : Bool) → is_hexadecimal b ≡ t → (c : ℕ) × (rest : Text) × (b ∷ bs ≡ c ∷ rest) × (is_hexadecimal c ≡ true)
  test true e = (b, bs, refl, e)
  test false e = absurd (some_none (85 ∷ [], b ∷ bs) (rw e at h))

-- with a digit in front, what the letter u begins is a code
code_of : (bad xs : Text) → begins_hexadecimal (bad ++ xs) ≡ true → code_at 4 117 (bad ++ xs) ≡ character (hexadecimal_at 4 0 (bad ++ xs))
code_of bad xs h = rw h refl

begins_code : (bs : Text) → code_at 4 117 bs ≡ None → (begins_hexadecimal bs ≡ true) × (character (hexadecimal_at 4 0 bs) ≡ None)
begins_code bs h = test (begins_hexadecimal bs) refl where
  test : (t : Bool) → begins_hexadecimal bs ≡ t → (t ≡ true) × (character (hexadecimal_at 4 0 bs) ≡ None)
  test true e = (refl, rw e at h)
  test false e = absurd (some_none (117 ∷ [], bs) (rw e at h))

code_end : (xs : Text) → character (hexadecimal_at 4 0 []) ≡ None → ⊥
code_end xs h = low_character (0, []) (omega arith) h

still_begins : (bad more xs : Text) → character (hexadecimal_at 4 0 bad) ≡ None → begins_hexadecimal (bad ++ more) ≡ true → begins_hexadecimal (bad ++ xs) ≡ true
still_begins [] more xs h k = absurd (code_end xs h)
still_begins (b ∷ bad) more xs h k = k

no_more : (bad : Text) → bad ++ [] ≡ bad
no_more [] = refl
no_more (b ∷ bad) = ap (λ xs. b ∷ xs) (no_more bad)

u_escape : (bs : Text) → after_backslash (117 ∷ bs) ≡ None → (bad : Text) × (more : Text) × (117 ∷ bs ≡ bad ++ more) × (length bad ≤ 5) × IsBadEscape bad
u_escape bs h =
    let code = begins_code bs h in
    let m = four_digits bs code.1 in
    let alone : character (hexadecimal_at 4 0 m.0) ≡ None = ap (λ ys. character (hexadecimal_at 4 0 ys)) (sym (no_more m.0)) ∙ m.4 [] in (
      117 ∷ m.0,
      m.1,
      ap (λ ys. 117 ∷ ys) m.2,
      omega (arith, m.3),
      ((λ e. cc), λ xs. code_of m.0 xs (still_begins m.0 m.1 xs alone (ap begins_hexadecimal (sym m.2) ∙ code.0)) ∙ m.4 xs),
    )

wide_escape : (bs : Text) → after_backslash (85 ∷ bs) ≡ None → (bad : Text) × (more : Text) × (85 ∷ bs ≡ bad ++ more) × (length bad ≤ 5) × IsBadEscape bad
wide_escape bs h =
    let m = begins_wide bs h in
    (85 ∷ (m.0 ∷ []), m.1, ap (λ ys. 85 ∷ ys) m.2, omega arith, ((λ e. cc), λ xs. wide m.0 xs m.3)) where
      wide : (b : ℕ) (xs : Text) → is_hexadecimal b ≡ true → after_backslash (85 ∷ (b ∷ xs)) ≡ None
      wide b xs h = rw h refl

-- what a backslash begins that stands for nothing
pub bad_escape : (bs : Text) → bs ≢ [] → after_backslash bs ≡ None → (bad : Text) × (more : Text) × (bs ≡ bad ++ more) × (length bad ≤ 5) × IsBadEscape bad
bad_escape [] some h = absurd (some refl)
bad_escape (b ∷ bs) some h = elim (escape_letter b bs h) [
  | inl e ↦ subst (λ c. (bad : Text) × (more : Text) × (c ∷ bs ≡ bad ++ more) × (length bad ≤ 5) × IsBadEscape bad) (sym e) (u_escape bs (rw e at h))
  | inr e ↦ subst (λ c. (bad : Text) × (more : Text) × (c ∷ bs ≡ bad ++ more) × (length bad ≤ 5) × IsBadEscape bad) (sym e) (wide_escape bs (rw e at h))
]
