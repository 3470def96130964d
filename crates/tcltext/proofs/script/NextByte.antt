-- What a backslash stands for depends on no more than one byte of what follows.
use Rattle.std.proofs.Common.{◌≡◌, ℕ, zero, suc, ◌+◌, ◌*◌, ◌≤◌, [], ◌∷◌, ◌++◌, length, Bool, true, false, ◌&&◌, ◌==◌}
use Rattle.std.proofs.Common.{nat_lt, nat_le, if◌then◌else◌, Option, Some, None, refl, sym, ap, ap₂, subst, ◌∙◌, arith}
use Rattle.std.proofs.Common.{length-append, ◌⊎◌, inl, inr}
use Rattle.std.proofs.lemmas.Bool.Decides.{nat_tests}
use Rattle.std.specs.Prelude.{encode_utf8}
use Rattle.std.specs.Char.{digit_value}
use Rattle.tcltext.specs.chars.Bytes.{newline, is_continuation}
use Rattle.tcltext.specs.chars.Runs.{Text, take_while, drop_while}
use Rattle.tcltext.specs.chars.Backslash.{is_octal, is_hexadecimal, is_blank_or_tab, digit_at, octal_on, octal_at}
use Rattle.tcltext.specs.chars.Backslash.{hexadecimal_on, hexadecimal_at, character, code_at, wide_code_at, letter_value}
use Rattle.tcltext.specs.chars.Backslash.{after_backslash}
use Rattle.tcltext.specs.script.Pieces.{IsSuffixOf}
use Rattle.tcltext.proofs.script.Ends.{end_no_longer}
use Rattle.tcltext.proofs.script.Escapes.{either, back_end, octal_end, hexadecimal_end, LeavesSome, character_leaves}
use Rattle.tcltext.proofs.script.Escapes.{code_leaves, wide_leaves}

pub both_ways : {A : Type 0} (P : A → A → Type 0) (t : Bool) (x y x' y' : A) → P x x' → P y y' → P (if t then x else y) (if t then x' else y')
both_ways P true x y x' y' here there = here
both_ways P false x y x' y' here there = there

some_same : {A : Type 0} (x y : A) → Some x ≡ Some y → x ≡ y
some_same x y h = cc

none_some : {A : Type 0} (x : A) → None ≡ Some x → ⊥
none_some x h = cc

-- what a backslash stands for, by what is known of the first byte behind it
abbrev pub escape_of : ℕ → Bool → Bool → Bool → Bool → Bool → Bool → Text → Option (Text × Text)
escape_of b t u v w x y bs =
    if t then Some (32 ∷ [], drop_while is_blank_or_tab bs)
    else if u then character (octal_at 3 0 (b ∷ bs))
    else if v then code_at 2 b bs
    else if w then code_at 4 b bs
    else if x then wide_code_at bs
    else if y then Some (b ∷ take_while is_continuation bs, drop_while is_continuation bs)
    else Some (letter_value b ∷ [], bs)

module _ (c : ℕ) (a a' : Text) where
  -- the same was read up to before the byte c; or more than that
  abbrev Along : {A : Type 0} → A × Text → A × Text → Type 0
  Along r s = ((r.0 ≡ s.0) × (z : Text) × (r.1 ≡ z ++ c ∷ a) × (s.1 ≡ z ++ c ∷ a')) ⊎ (length r.1 ≤ length a)

  abbrev AlongSome : {A : Type 0} → Option (A × Text) → Option (A × Text) → Type 0
  AlongSome None s = Unit {0}
  AlongSome (Some r) None = length r.1 ≤ length a
  AlongSome (Some r) (Some s) = Along r s

  along_here : {A : Type 0} (x : A) (z : Text) → Along (x, z ++ c ∷ a) (x, z ++ c ∷ a')
  along_here x z = inl (refl, z, refl, refl)

  past : {A : Type 0} (r s : A × Text) → IsSuffixOf a r.1 → Along r s
  past r s h = inr (end_no_longer a r.1 h)

  octal_along : (n v : ℕ) (e : Text) → Along (octal_at n v (e ++ c ∷ a)) (octal_at n v (e ++ c ∷ a'))
  octal_along zero v e = along_here v e
  octal_along (suc n) v [] =
      both_ways (λ (d d' : Option (ℕ × Text)). Along (octal_on (octal_at n) v (c ∷ a) d)
      (octal_on (octal_at n) v (c ∷ a') d')) (nat_lt (digit_value c) 8) (Some (digit_value c, a)) None
      (Some (digit_value c, a')) None
      (both_ways (λ (r s : ℕ × Text). Along r s) (nat_lt (v * 8 + digit_value c) 256) (octal_at n (v * 8 + digit_value c) a) (v, c ∷ a) (octal_at n (v * 8 + digit_value c) a') (v, c ∷ a')
      (past (octal_at n (v * 8 + digit_value c) a) (octal_at n (v * 8 + digit_value c) a') (octal_end n (v * 8 + digit_value c) a)) (along_here v []))
      (along_here v [])
  octal_along (suc n) v (b ∷ e) =
      let x = e ++ c ∷ a in
      let y = e ++ c ∷ a' in
      both_ways (λ (d d' : Option (ℕ × Text)). Along (octal_on (octal_at n) v (b ∷ x) d)
      (octal_on (octal_at n) v (b ∷ y) d')) (nat_lt (digit_value b) 8) (Some (digit_value b, x)) None
      (Some (digit_value b, y)) None
      (both_ways (λ (r s : ℕ × Text). Along r s) (nat_lt (v * 8 + digit_value b) 256) (octal_at n (v * 8 + digit_value b) x) (v, b ∷ x) (octal_at n (v * 8 + digit_value b) y) (v, b ∷ y)
      (octal_along n (v * 8 + digit_value b) e) (along_here v (b ∷ e)))
      (along_here v (b ∷ e))

  hexadecimal_along : (n v : ℕ) (e : Text) → Along (hexadecimal_at n v (e ++ c ∷ a)) (hexadecimal_at n v (e ++ c ∷ a'))
  hexadecimal_along zero v e = along_here v e
  hexadecimal_along (suc n) v [] =
      both_ways (λ (d d' : Option (ℕ × Text)). Along (hexadecimal_on (hexadecimal_at n) v (c ∷ a) d)
      (hexadecimal_on (hexadecimal_at n) v (c ∷ a') d')) (nat_lt (digit_value c) 16) (Some (digit_value c, a)) None
      (Some (digit_value c, a')) None
      (past (hexadecimal_at n (v * 16 + digit_value c) a) (hexadecimal_at n (v * 16 + digit_value c) a') (hexadecimal_end n (v * 16 + digit_value c) a)) (along_here v [])
  hexadecimal_along (suc n) v (b ∷ e) =
      let x = e ++ c ∷ a in
      let y = e ++ c ∷ a' in
      both_ways (λ (d d' : Option (ℕ × Text)). Along (hexadecimal_on (hexadecimal_at n) v (b ∷ x) d)
      (hexadecimal_on (hexadecimal_at n) v (b ∷ y) d')) (nat_lt (digit_value b) 16) (Some (digit_value b, x)) None
      (Some (digit_value b, y)) None
      (hexadecimal_along n (v * 16 + digit_value b) e) (along_here v (b ∷ e))

  past_any : (r : Text × Text) (x : Option (Text × Text)) → length r.1 ≤ length a → AlongSome (Some r) x
  past_any r None h = h
  past_any r (Some s) h = inr h

  same_value : (n : ℕ) (x y z : Text) → x ≡ z ++ c ∷ a → y ≡ z ++ c ∷ a' → AlongSome (character (n, x)) (character (n, y))
  same_value n x y z h k =
      both_ways (λ (p q : Option (Text × Text)). AlongSome p q) (nat_le 55296 n && nat_lt n 57344) None (Some (encode_utf8 n, x)) None (Some (encode_utf8 n, y)) tt (inl (refl, z, h, k))

  character_along : (r s : ℕ × Text) → Along r s → AlongSome (character r) (character s)
  character_along r s (inr more) =
      either (λ (x : Option (Text × Text)). AlongSome x (character s)) (nat_le 55296 r.0 && nat_lt r.0 57344) None (Some (encode_utf8 r.0, r.1)) tt (past_any (encode_utf8 r.0, r.1) (character s) more)
  character_along r s (inl h) = subst (λ n. AlongSome (character r) (character (n, s.1))) h.0 (same_value r.0 r.1 s.1 h.1 h.2 h.3)

  code_along : (n b : ℕ) (e : Text) → AlongSome (code_at n b (e ++ c ∷ a)) (code_at n b (e ++ c ∷ a'))
  code_along n b [] =
      both_ways (λ (p q : Option (Text × Text)). AlongSome p q) (is_hexadecimal c)
      (character (hexadecimal_at n 0 (c ∷ a))) (Some (b ∷ [], c ∷ a)) (character (hexadecimal_at n 0 (c ∷ a')))
      (Some (b ∷ [], c ∷ a'))
      (character_along (hexadecimal_at n 0 (c ∷ a)) (hexadecimal_at n 0 (c ∷ a')) (hexadecimal_along n 0 [])) (along_here (b ∷ []) [])
  code_along n b (x ∷ e) =
      let p = x ∷ (e ++ c ∷ a) in
      let q = x ∷ (e ++ c ∷ a') in
      both_ways (λ (p q : Option (Text × Text)). AlongSome p q) (is_hexadecimal x) (character (hexadecimal_at n 0 p)) (Some (b ∷ [], p)) (character (hexadecimal_at n 0 q)) (Some (b ∷ [], q))
      (character_along (hexadecimal_at n 0 p) (hexadecimal_at n 0 q) (hexadecimal_along n 0 (x ∷ e))) (along_here (b ∷ []) (x ∷ e))

  wide_along : (e : Text) → AlongSome (wide_code_at (e ++ c ∷ a)) (wide_code_at (e ++ c ∷ a'))
  wide_along [] = both_ways (λ (p q : Option (Text × Text)). AlongSome p q) (is_hexadecimal c) None (Some (85 ∷ [], c ∷ a)) None (Some (85 ∷ [], c ∷ a')) tt (along_here (85 ∷ []) [])
  wide_along (x ∷ e) = both_ways (λ (p q : Option (Text × Text)). AlongSome p q) (is_hexadecimal x) None
      (Some (85 ∷ [], x ∷ (e ++ c ∷ a))) None (Some (85 ∷ [], x ∷ (e ++ c ∷ a'))) tt (along_here (85 ∷ []) (x ∷ e))

  -- a run
  run_along : (p : ℕ → Bool) (e : Text) → Along (take_while p (e ++ c ∷ a), drop_while p (e ++ c ∷ a)) (take_while p (e ++ c ∷ a'), drop_while p (e ++ c ∷ a'))
  run_along p [] = byte (p c) refl where
    byte : (t : Bool) → p c ≡ t → Along (take_while p (c ∷ a), drop_while p (c ∷ a)) (take_while p (c ∷ a'), drop_while p (c ∷ a'))
    byte true h = inr (rw h (end_no_longer a (drop_while p a) (back_end p a)))
    byte false h = rw h (inl (refl, [], refl, refl))
  run_along p (b ∷ e) = byte (p b) refl (run_along p e) where
    byte : (t : Bool) → p b ≡ t → Along (take_while p (e ++ c ∷ a), drop_while p (e ++ c ∷ a))
        (take_while p (e ++ c ∷ a'), drop_while p (e ++ c ∷ a'))
        → Along (take_while p (b ∷ (e ++ c ∷ a)), drop_while p (b ∷ (e ++ c ∷ a)))
        (take_while p (b ∷ (e ++ c ∷ a')), drop_while p (b ∷ (e ++ c ∷ a')))
    byte true h so = rw h (elim so [ inl k ↦ inl (ap (λ xs. b ∷ xs) k.0, k.1, k.2, k.3) | inr more ↦ inr more ])
    byte false h so = rw h (inl (refl, b ∷ e, refl, refl))

  value_along : (f : Text → Text) (r s : Text × Text) → Along r s → AlongSome (Some (f r.0, r.1)) (Some (f s.0, s.1))
  value_along f r s (inl h) = inl (ap f h.0, h.1, h.2, h.3)
  value_along f r s (inr more) = inr more

  backslash_along : (b : ℕ) (e : Text) → AlongSome (after_backslash (b ∷ (e ++ c ∷ a))) (after_backslash (b ∷ (e ++ c ∷ a')))
  backslash_along b e =
      let x = e ++ c ∷ a in
      let y = e ++ c ∷ a' in
      go (b == newline) (is_octal b) (b == 120) (b == 117) (b == 85) (nat_le 128 b) x y
      (value_along (λ t. 32 ∷ []) (take_while is_blank_or_tab x, drop_while is_blank_or_tab x) (take_while is_blank_or_tab y, drop_while is_blank_or_tab y) (run_along is_blank_or_tab e))
      (character_along (octal_at 3 0 (b ∷ x)) (octal_at 3 0 (b ∷ y)) (octal_along 3 0 (b ∷ e)))
      (code_along 2 b e) (code_along 4 b e) (wide_along e)
      (value_along (λ t. b ∷ t) (take_while is_continuation x, drop_while is_continuation x) (take_while is_continuation y, drop_while is_continuation y) (run_along is_continuation e))
      (along_here (letter_value b ∷ []) e) where
        go : (t u v w x y : Bool) (p q : Text) → AlongSome {A = Text} (Some (32 ∷ [], drop_while is_blank_or_tab p))
            (Some (32 ∷ [], drop_while is_blank_or_tab q)) → AlongSome (character (octal_at 3 0 (b ∷ p)))
            (character (octal_at 3 0 (b ∷ q)))
            → AlongSome (code_at 2 b p) (code_at 2 b q) → AlongSome (code_at 4 b p) (code_at 4 b q) → AlongSome (wide_code_at p) (wide_code_at q)
            → AlongSome {A = Text} (Some (b ∷ take_while is_continuation p, drop_while is_continuation p))
            (Some (b ∷ take_while is_continuation q, drop_while is_continuation q))
            → AlongSome {A = Text} (Some (letter_value b ∷ [], p)) (Some (letter_value b ∷ [], q))
            → AlongSome (escape_of b t u v w x y p) (escape_of b t u v w x y q)
        go true u v w x y p q h1 h2 h3 h4 h5 h6 h7 = h1
        go false true v w x y p q h1 h2 h3 h4 h5 h6 h7 = h2
        go false false true w x y p q h1 h2 h3 h4 h5 h6 h7 = h3
        go false false false true x y p q h1 h2 h3 h4 h5 h6 h7 = h4
        go false false false false true y p q h1 h2 h3 h4 h5 h6 h7 = h5
        go false false false false false true p q h1 h2 h3 h4 h5 h6 h7 = h6
        go false false false false false false p q h1 h2 h3 h4 h5 h6 h7 = h7

  from_along : (x : Option (Text × Text)) (v : Text) → AlongSome (Some (v, c ∷ a)) x → x ≡ Some (v, c ∷ a')
  from_along None v h = absurd (omega (arith, h))
  from_along (Some s) v (inr more) = absurd (omega (arith, more))
  from_along (Some s) v (inl h) =
      let none : h.1 ≡ [] = no_more h.1 h.2 in
      ap₂ (λ (x y : Text). Some (x, y)) (sym h.0) (h.3 ∙ ap (λ z. z ++ c ∷ a') none) where
        no_more : (z : Text) → c ∷ a ≡ z ++ c ∷ a → z ≡ []
        no_more [] h = refl
        no_more (x ∷ z) h = absurd (omega (arith, ap length h, length-append (x ∷ z) (c ∷ a)))

  -- what a backslash stands for, where what follows begins with the same byte
  pub same_escape : (b : ℕ) (e v : Text) → after_backslash (b ∷ (e ++ c ∷ a)) ≡ Some (v, c ∷ a) → after_backslash (b ∷ (e ++ c ∷ a')) ≡ Some (v, c ∷ a')
  same_escape b e v h = from_along (after_backslash (b ∷ (e ++ c ∷ a'))) v (subst (λ x. AlongSome x (after_backslash (b ∷ (e ++ c ∷ a')))) h (backslash_along b e))

-- Some bytes are read behind a backslash

abbrev ShorterSome : {A : Type 0} → Text → Option (A × Text) → Type 0
ShorterSome bs None = Unit {0}
ShorterSome bs (Some r) = length r.1 ≤ length bs

ended_some : {A : Type 0} (bs : Text) (x : Option (A × Text)) → LeavesSome (IsSuffixOf bs) x → ShorterSome bs x
ended_some bs None h = tt
ended_some bs (Some r) h = end_no_longer bs r.1 h

octal_first : (b : ℕ) (bs : Text) → is_octal b ≡ true → IsSuffixOf bs (octal_at 3 0 (b ∷ bs)).1
octal_first b bs h =
    let small : nat_lt (0 * 8 + digit_value b) 256 ≡ true = below b h in
    subst (λ (d : Option (ℕ × Text)). IsSuffixOf bs (octal_on (octal_at 2) 0 (b ∷ bs) d).1) (sym (digit b bs h))
    (subst (λ t. IsSuffixOf bs (if t then octal_at 2 (0 * 8 + digit_value b) bs else (0, b ∷ bs)).1) (sym small) (octal_end 2 (0 * 8 + digit_value b) bs)) where
      below : (b : ℕ) → is_octal b ≡ true → nat_lt (0 * 8 + digit_value b) 256 ≡ true
      below b h = grind (arith, nat_tests)

      digit : (b : ℕ) (bs : Text) → is_octal b ≡ true → digit_at 8 (b ∷ bs) ≡ Some (digit_value b, bs)
      digit b bs h = rw h refl

pub shorter_escape : (b : ℕ) (bs v r : Text) → after_backslash (b ∷ bs) ≡ Some (v, r) → length r ≤ length bs
shorter_escape b bs v r h = subst (ShorterSome bs) h (go (b == newline) (is_octal b) refl (b == 120) (b == 117) (b == 85) (nat_le 128 b)) where
  go : (t u : Bool) → is_octal b ≡ u → (v w x y : Bool) → ShorterSome bs (escape_of b t u v w x y bs)
  go true u e v w x y = end_no_longer bs (drop_while is_blank_or_tab bs) (back_end is_blank_or_tab bs)
  go false true e v w x y = ended_some bs (character (octal_at 3 0 (b ∷ bs))) (character_leaves (IsSuffixOf bs) (octal_at 3 0 (b ∷ bs)) (octal_first b bs e))
  go false false e true w x y = ended_some bs (code_at 2 b bs) (code_leaves 2 b bs)
  go false false e false true x y = ended_some bs (code_at 4 b bs) (code_leaves 4 b bs)
  go false false e false false true y = ended_some bs (wide_code_at bs) (wide_leaves bs)
  go false false e false false false true = end_no_longer bs (drop_while is_continuation bs) (back_end is_continuation bs)
  go false false e false false false false = omega arith
