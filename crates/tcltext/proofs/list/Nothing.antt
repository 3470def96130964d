-- A backslash that stands for nothing stands for nothing whatever follows.
use Rattle.std.proofs.Common.{◌≡◌, ℕ, zero, suc, ◌+◌, ◌*◌, ◌<◌, ◌≤◌, [], ◌∷◌, ◌++◌, Bool, true, false, ◌==◌, nat_lt}
use Rattle.std.proofs.Common.{nat_le, max, Option, Some, None, refl, sym, ap, subst, ◌∙◌, arith, ◌⊎◌, inl, inr}
use Rattle.std.proofs.Common.{encode_utf8}
use Rattle.std.proofs.lemmas.Bool.Decides.{nat_tests}
use Rattle.std.specs.Char.{digit_value}
use Rattle.tcltext.specs.chars.Bytes.{newline, is_continuation}
use Rattle.tcltext.specs.chars.Runs.{Text, take_while, drop_while}
use Rattle.tcltext.specs.chars.Backslash.{after_backslash, is_octal, is_hexadecimal, character, octal_at, hexadecimal_at}
use Rattle.tcltext.specs.chars.Backslash.{code_at, wide_code_at, is_blank_or_tab, letter_value}
use Rattle.tcltext.specs.list.ListFaults.{StandsForNothing}
use Rattle.tcltext.proofs.list.Cuts.{octal-digit, hexadecimal-digit, code-digit, code-none, wide-none, is_half}
use Rattle.tcltext.proofs.list.Cuts.{character-whole, character-half, same_mark}

some_none : (p : Text × Text) → (let remaining : Option (Text × Text) = Some p in remaining ≡ None) → ⊥
some_none p h = cc

not_half : (w : ℕ) → w < 55296 → is_half w ≡ false
not_half w h = grind (arith, nat_tests)

small_is : (w : ℕ) (r : Text) → w < 55296 → character (w, r) ≡ None → ⊥
small_is w r h e = some_none (encode_utf8 w, r) (sym (character-whole w r (not_half w h)) ∙ e)

-- octal numbers are small
octal_small-cases : (n v b : ℕ) (bs : Text) (t u : Bool) → nat_lt (digit_value b) 8 ≡ t
    → nat_lt (v * 8 + digit_value b) 256 ≡ u → v < 256 → ((x : ℕ) → x < 256 → (octal_at n x bs).0 < 256)
    → (octal_at (suc n) v (b ∷ bs)).0 < 256
octal_small-cases n v b bs true true t' u' h more = subst (λ (p : ℕ × Text). p.0 < 256)
    (sym (octal-digit n v b bs true true t' u')) (more (v * 8 + digit_value b) (below (v * 8 + digit_value b) u')) where
      below : (x : ℕ) → nat_lt x 256 ≡ true → x < 256
      below x h = grind (arith, nat_tests)
octal_small-cases n v b bs true false t' u' h more = subst (λ (p : ℕ × Text). p.0 < 256) (sym (octal-digit n v b bs true false t' u')) h
octal_small-cases n v b bs false u t' u' h more = subst (λ (p : ℕ × Text). p.0 < 256) (sym (octal-digit n v b bs false u t' u')) h

octal_small : (n v : ℕ) (bs : Text) → v < 256 → (octal_at n v bs).0 < 256
octal_small zero v bs h = h
octal_small (suc n) v [] h = h
octal_small (suc n) v (b ∷ bs) h = octal_small-cases n v b bs (nat_lt (digit_value b) 8) (nat_lt (v * 8 + digit_value b) 256) refl refl h (λ x k. octal_small n x bs k)

-- hexadecimal numbers stay, or the text ended before all their digits
abbrev top : ℕ → ℕ → ℕ
top zero v = 0
top (suc n) v = max v (top n (v * 16 + 15))

top-more : (n v w : ℕ) → v ≤ w → top n v ≤ top n w
top-more zero v w h = omega arith
top-more (suc n) v w h = omega (arith, top-more n (v * 16 + 15) (w * 16 + 15) (omega arith))

abbrev Stays : ℕ → ℕ → Text → Text → Type 0
Stays n v bs more = (hexadecimal_at n v (bs ++ more) ≡ ((hexadecimal_at n v bs).0, (hexadecimal_at n v bs).1 ++ more)) ⊎ ((hexadecimal_at n v bs).0 ≤ top n v)

stays-digit : (n v b : ℕ) (bs more : Text) → nat_lt (digit_value b) 16 ≡ true → Stays n (v * 16 + digit_value b) bs more → Stays (suc n) v (b ∷ bs) more
stays-digit n v b bs more t (inl h) =
    inl (hexadecimal-digit n v b (bs ++ more) true t ∙ h ∙ ap (λ (p : ℕ × Text). (p.0, p.1 ++ more)) (sym (hexadecimal-digit n v b bs true t)))
stays-digit n v b bs more t (inr h) =
    let small : digit_value b < 16 = below (digit_value b) t in
    inr (subst (λ (p : ℕ × Text). p.0 ≤ max v (top n (v * 16 + 15))) (sym (hexadecimal-digit n v b bs true t))
    (omega (arith, h, top-more n (v * 16 + digit_value b) (v * 16 + 15) (omega arith)))) where
      below : (x : ℕ) → nat_lt x 16 ≡ true → x < 16
      below x h = grind (arith, nat_tests)

stays-stop : (n v b : ℕ) (bs more : Text) → nat_lt (digit_value b) 16 ≡ false → Stays (suc n) v (b ∷ bs) more
stays-stop n v b bs more t = inl (hexadecimal-digit n v b (bs ++ more) false t ∙ ap (λ (p : ℕ × Text). (p.0, p.1 ++ more)) (sym (hexadecimal-digit n v b bs false t)))

stays_cases : (n v b : ℕ) (bs more : Text) (t : Bool) → nat_lt (digit_value b) 16 ≡ t → ((x : ℕ) → Stays n x bs more) → Stays (suc n) v (b ∷ bs) more
stays_cases n v b bs more true t' all = stays-digit n v b bs more t' (all (v * 16 + digit_value b))
stays_cases n v b bs more false t' all = stays-stop n v b bs more t'

stays : (n v : ℕ) (bs more : Text) → Stays n v bs more
stays zero v bs more = inl refl
stays (suc n) v [] more = inr (omega arith)
stays (suc n) v (b ∷ bs) more = stays_cases n v b bs more (nat_lt (digit_value b) 16) refl (λ x. stays n x bs more)

digit_below : (h : ℕ) → is_hexadecimal h ≡ true → digit_value h ≤ 15
digit_below h e = below (digit_value h) e where
  below : (x : ℕ) → nat_lt x 16 ≡ true → x ≤ 15
  below x h = grind (arith, nat_tests)

top-three : top 3 15 ≡ 4095
top-three = refl

character-none : (w : ℕ) (r s : Text) → character (w, r) ≡ None → character (w, s) ≡ None
character-none w r s h = cases (is_half w) refl where
  cases : (t : Bool) → is_half w ≡ t → character (w, s) ≡ None
  cases true e = character-half w s e
  cases false e = absurd (some_none (encode_utf8 w, r) (sym (character-whole w r e) ∙ h))

four-stays : (d : ℕ) (bs more : Text) → d ≤ 15 → Stays 3 d bs more → character (hexadecimal_at 3 d bs) ≡ None → character (hexadecimal_at 3 d (bs ++ more)) ≡ None
four-stays d bs more le (inl same) h = ap character same ∙ character-none (hexadecimal_at 3 d bs).0 (hexadecimal_at 3 d bs).1 ((hexadecimal_at 3 d bs).1 ++ more) h
four-stays d bs more le (inr small) h = absurd (small_is (hexadecimal_at 3 d bs).0 (hexadecimal_at 3 d bs).1 (omega (arith, small, top-more 3 d 15 le, top-three)) h)

four_cases : (b h : ℕ) (bs more : Text) (t : Bool) → is_hexadecimal h ≡ t → code_at 4 b (h ∷ bs) ≡ None → code_at 4 b (h ∷ (bs ++ more)) ≡ None
four_cases b h bs more true t e =
    code-digit 3 b h (bs ++ more) t ∙ four-stays (digit_value h) bs more (digit_below h t) (stays 3 (digit_value h) bs more) (sym (code-digit 3 b h bs t) ∙ e)
four_cases b h bs more false t e = absurd (some_none (b ∷ [], h ∷ bs) (sym (code-none 4 b h bs t) ∙ e))

four_more : (b : ℕ) (bs more : Text) → code_at 4 b bs ≡ None → code_at 4 b (bs ++ more) ≡ None
four_more b [] more e = absurd (some_none (b ∷ [], []) e)
four_more b (h ∷ bs) more e = four_cases b h bs more (is_hexadecimal h) refl e

-- two digits are never refused
two_small : (d : ℕ) (bs : Text) → d ≤ 15 → (hexadecimal_at 1 d bs).0 < 256
two_small d [] h = omega arith
two_small d (b ∷ bs) h = cases (nat_lt (digit_value b) 16) refl where
  below : (x : ℕ) → nat_lt x 16 ≡ true → x < 16
  below x h = grind (arith, nat_tests)

  cases : (t : Bool) → nat_lt (digit_value b) 16 ≡ t → (hexadecimal_at 1 d (b ∷ bs)).0 < 256
  cases true t = let small : digit_value b < 16 = below (digit_value b) t in subst (λ (p : ℕ × Text). p.0 < 256) (sym (hexadecimal-digit 0 d b bs true t)) (omega arith)
  cases false t = subst (λ (p : ℕ × Text). p.0 < 256) (sym (hexadecimal-digit 0 d b bs false t)) (omega arith)

two_cases : (b h : ℕ) (bs : Text) (t : Bool) → is_hexadecimal h ≡ t → code_at 2 b (h ∷ bs) ≡ None → ⊥
two_cases b h bs true t e =
    let small = two_small (digit_value h) bs (digit_below h t) in
    small_is (hexadecimal_at 1 (digit_value h) bs).0 (hexadecimal_at 1 (digit_value h) bs).1 (omega (arith, small)) (sym (code-digit 1 b h bs t) ∙ e)
two_cases b h bs false t e = some_none (b ∷ [], h ∷ bs) (sym (code-none 2 b h bs t) ∙ e)

two_never : (b : ℕ) (bs : Text) → code_at 2 b bs ≡ None → ⊥
two_never b [] e = some_none (b ∷ [], []) e
two_never b (h ∷ bs) e = two_cases b h bs (is_hexadecimal h) refl e

wide-digit : (h : ℕ) (xs : Text) → is_hexadecimal h ≡ true → wide_code_at (h ∷ xs) ≡ None
wide-digit h xs t = rw t refl

wide_cases : (h : ℕ) (bs more : Text) (t : Bool) → is_hexadecimal h ≡ t → wide_code_at (h ∷ bs) ≡ None → wide_code_at (h ∷ (bs ++ more)) ≡ None
wide_cases h bs more true t e = wide-digit h (bs ++ more) t
wide_cases h bs more false t e = absurd (some_none (85 ∷ [], h ∷ bs) (sym (wide-none h bs t) ∙ e))

wide_more : (bs more : Text) → wide_code_at bs ≡ None → wide_code_at (bs ++ more) ≡ None
wide_more [] more e = absurd (some_none (85 ∷ [], []) e)
wide_more (h ∷ bs) more e = wide_cases h bs more (is_hexadecimal h) refl e

nothing_cases : (b : ℕ) (bs more : Text) (n o x u l w : Bool) → (b == newline) ≡ n → is_octal b ≡ o → (b == 120) ≡ x
    → (b == 117) ≡ u → (b == 85) ≡ l → nat_le 128 b ≡ w → after_backslash (b ∷ bs) ≡ None
    → after_backslash (b ∷ (bs ++ more)) ≡ None
nothing_cases b bs more true o x u l w n' o' x' u' l' w' h = absurd (some_none (32 ∷ [], drop_while is_blank_or_tab bs) (sym (same_mark b true o x u l w n' o' x' u' l' w' bs) ∙ h))
nothing_cases b bs more false true x u l w n' o' x' u' l' w' h =
    let small = octal_small 3 0 (b ∷ bs) (omega arith) in
    absurd (small_is (octal_at 3 0 (b ∷ bs)).0 (octal_at 3 0 (b ∷ bs)).1 (omega (arith, small)) (sym (same_mark b false true x u l w n' o' x' u' l' w' bs) ∙ h))
nothing_cases b bs more false false true u l w n' o' x' u' l' w' h = absurd (two_never b bs (sym (same_mark b false false true u l w n' o' x' u' l' w' bs) ∙ h))
nothing_cases b bs more false false false true l w n' o' x' u' l' w' h =
    same_mark b false false false true l w n' o' x' u' l' w' (bs ++ more) ∙ four_more b bs more (sym (same_mark b false false false true l w n' o' x' u' l' w' bs) ∙ h)
nothing_cases b bs more false false false false true w n' o' x' u' l' w' h =
    same_mark b false false false false true w n' o' x' u' l' w' (bs ++ more) ∙ wide_more bs more (sym (same_mark b false false false false true w n' o' x' u' l' w' bs) ∙ h)
nothing_cases b bs more false false false false false true n' o' x' u' l' w' h =
    absurd (some_none (b ∷ take_while is_continuation bs, drop_while is_continuation bs) (sym (same_mark b false false false false false true n' o' x' u' l' w' bs) ∙ h))
nothing_cases b bs more false false false false false false n' o' x' u' l' w' h =
    absurd (some_none (letter_value b ∷ [], bs) (sym (same_mark b false false false false false false n' o' x' u' l' w' bs) ∙ h))

pub nothing_more : (rest more : Text) → StandsForNothing rest → StandsForNothing (rest ++ more)
nothing_more [] more h = absurd h
nothing_more (b ∷ bs) more h = nothing_cases b bs more (b == newline) (is_octal b) (b == 120) (b == 117) (b == 85) (nat_le 128 b) refl refl refl refl refl refl h
