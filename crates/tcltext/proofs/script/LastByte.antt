-- What a backslash at the end of a text stands for, it stands for before what closes as well.
use Rattle.std.proofs.Common.{◌≡◌, ℕ, zero, suc, ◌+◌, ◌*◌, [], ◌∷◌, ◌++◌, Bool, true, false, ◌&&◌, ◌==◌, nat_lt, nat_le}
use Rattle.std.proofs.Common.{Option, Some, None, refl, sym, ap, ap₂, ◌∙◌, append-nil}
use Rattle.std.specs.Prelude.{encode_utf8}
use Rattle.std.specs.Char.{digit_value}
use Rattle.tcltext.specs.chars.Bytes.{newline, is_continuation}
use Rattle.tcltext.specs.chars.Runs.{Text, take_while, drop_while}
use Rattle.tcltext.specs.chars.Backslash.{is_octal, is_hexadecimal, is_blank_or_tab, octal_on, octal_at, hexadecimal_on}
use Rattle.tcltext.specs.chars.Backslash.{hexadecimal_at, character, code_at, wide_code_at, after_backslash}
use Rattle.tcltext.proofs.script.NextByte.{both_ways, escape_of}

-- a byte that ends what a backslash takes along
pub record IsStop (k : ℕ) : Type 0 where
  pub octal : nat_lt (digit_value k) 8 ≡ false
  pub hexadecimal : nat_lt (digit_value k) 16 ≡ false
  pub blank : is_blank_or_tab k ≡ false
  pub continuation : is_continuation k ≡ false

module _ (k : ℕ) (stop : IsStop k) (r : Text) where
  abbrev then : {A : Type 0} → A × Text → A × Text
  then x = (x.0, x.1 ++ k ∷ r)

  abbrev then_some : Option (Text × Text) → Option (Text × Text)
  then_some None = None
  then_some (Some x) = Some (then x)

  octal_stop : (n v : ℕ) (e : Text) → octal_at n v (e ++ k ∷ r) ≡ then (octal_at n v e)
  octal_stop zero v e = refl
  octal_stop (suc n) v [] = rw (stop.octal) refl
  octal_stop (suc n) v (b ∷ e) =
      let x = e ++ k ∷ r in
      both_ways (λ (d d' : Option (ℕ × Text)). octal_on (octal_at n) v (b ∷ x) d ≡ then
      (octal_on (octal_at n) v (b ∷ e) d')) (nat_lt (digit_value b) 8) (Some (digit_value b, x)) None
      (Some (digit_value b, e)) None
      (both_ways (λ (p q : ℕ × Text). p ≡ then q) (nat_lt (v * 8 + digit_value b) 256)
      (octal_at n (v * 8 + digit_value b) x) (v, b ∷ x) (octal_at n (v * 8 + digit_value b) e) (v, b ∷ e)
      (octal_stop n (v * 8 + digit_value b) e) refl)
      refl

  hexadecimal_stop : (n v : ℕ) (e : Text) → hexadecimal_at n v (e ++ k ∷ r) ≡ then (hexadecimal_at n v e)
  hexadecimal_stop zero v e = refl
  hexadecimal_stop (suc n) v [] = rw (stop.hexadecimal) refl
  hexadecimal_stop (suc n) v (b ∷ e) =
      let x = e ++ k ∷ r in
      both_ways (λ (d d' : Option (ℕ × Text)). hexadecimal_on (hexadecimal_at n) v (b ∷ x) d ≡ then
      (hexadecimal_on (hexadecimal_at n) v (b ∷ e) d')) (nat_lt (digit_value b) 16) (Some (digit_value b, x)) None
      (Some (digit_value b, e)) None
      (hexadecimal_stop n (v * 16 + digit_value b) e) refl

  character_stop : (x : ℕ × Text) → character (then x) ≡ then_some (character x)
  character_stop x =
      both_ways (λ (p q : Option (Text × Text)). p ≡ then_some q) (nat_le 55296 x.0 && nat_lt x.0 57344) None (Some (encode_utf8 x.0, x.1 ++ k ∷ r)) None (Some (encode_utf8 x.0, x.1)) refl refl

  code_stop : (n b : ℕ) (e : Text) → code_at n b (e ++ k ∷ r) ≡ then_some (code_at n b e)
  code_stop n b [] = rw (stop.hexadecimal) refl
  code_stop n b (x ∷ e) =
      both_ways (λ (p q : Option (Text × Text)). p ≡ then_some q) (is_hexadecimal x)
      (character (hexadecimal_at n 0 (x ∷ (e ++ k ∷ r)))) (Some (b ∷ [], x ∷ (e ++ k ∷ r)))
      (character (hexadecimal_at n 0 (x ∷ e))) (Some (b ∷ [], x ∷ e))
      (ap character (hexadecimal_stop n 0 (x ∷ e)) ∙ character_stop (hexadecimal_at n 0 (x ∷ e))) refl

  wide_stop : (e : Text) → wide_code_at (e ++ k ∷ r) ≡ then_some (wide_code_at e)
  wide_stop [] = rw (stop.hexadecimal) refl
  wide_stop (x ∷ e) = both_ways (λ (p q : Option (Text × Text)). p ≡ then_some q) (is_hexadecimal x) None (Some (85 ∷ [], x ∷ (e ++ k ∷ r))) None (Some (85 ∷ [], x ∷ e)) refl refl

  run_stop : (p : ℕ → Bool) → p k ≡ false → (e : Text) → (take_while p (e ++ k ∷ r) ≡ take_while p e) × (drop_while p (e ++ k ∷ r) ≡ drop_while p e ++ k ∷ r)
  run_stop p h [] = rw h (refl, refl)
  run_stop p h (b ∷ e) = byte (p b) refl (run_stop p h e) where
    byte : (t : Bool) → p b ≡ t → (take_while p (e ++ k ∷ r) ≡ take_while p e)
        × (drop_while p (e ++ k ∷ r) ≡ drop_while p e ++ k ∷ r)
        → (take_while p (b ∷ (e ++ k ∷ r)) ≡ take_while p (b ∷ e))
        × (drop_while p (b ∷ (e ++ k ∷ r)) ≡ drop_while p (b ∷ e) ++ k ∷ r)
    byte true t so = rw t (ap (λ xs. b ∷ xs) so.0, so.1)
    byte false t so = rw t (refl, refl)

  backslash_stop : (b : ℕ) (e : Text) → after_backslash (b ∷ (e ++ k ∷ r)) ≡ then_some (after_backslash (b ∷ e))
  backslash_stop b e =
      go (b == newline) (is_octal b) (b == 120) (b == 117) (b == 85) (nat_le 128 b)
      (ap (λ xs. let found : Option (Text × Text) = Some (32 ∷ [], xs) in found) (run_stop is_blank_or_tab stop.blank e).1)
      (ap character (octal_stop 3 0 (b ∷ e)) ∙ character_stop (octal_at 3 0 (b ∷ e)))
      (code_stop 2 b e) (code_stop 4 b e) (wide_stop e)
      (let run = run_stop is_continuation stop.continuation e in ap₂ (λ (xs ys : Text). let found : Option (Text × Text) = Some (b ∷ xs, ys) in found) run.0 run.1) where
        go : (t u v w x y : Bool) → (let found : Option (Text × Text) = Some (32 ∷ [], drop_while is_blank_or_tab (e ++ k ∷ r)) in found) ≡ Some (32 ∷ [], drop_while is_blank_or_tab e ++ k ∷ r)
            → character (octal_at 3 0 (b ∷ (e ++ k ∷ r))) ≡ then_some (character (octal_at 3 0 (b ∷ e)))
            → code_at 2 b (e ++ k ∷ r) ≡ then_some (code_at 2 b e)
            → code_at 4 b (e ++ k ∷ r) ≡ then_some (code_at 4 b e)
            → wide_code_at (e ++ k ∷ r) ≡ then_some (wide_code_at e)
            → (let found : Option (Text × Text) = Some (
              b ∷ take_while is_continuation (e ++ k ∷ r),
              drop_while
                  is_continuation (e ++ k ∷ r),
            ) in found) ≡ Some (
              b ∷ take_while is_continuation e,
              drop_while
                  is_continuation e ++ k ∷ r,
            )
            → escape_of b t u v w x y (e ++ k ∷ r) ≡ then_some (escape_of b t u v w x y e)
        go true u v w x y h1 h2 h3 h4 h5 h6 = h1
        go false true v w x y h1 h2 h3 h4 h5 h6 = h2
        go false false true w x y h1 h2 h3 h4 h5 h6 = h3
        go false false false true x y h1 h2 h3 h4 h5 h6 = h4
        go false false false false true y h1 h2 h3 h4 h5 h6 = h5
        go false false false false false true h1 h2 h3 h4 h5 h6 = h6
        go false false false false false false h1 h2 h3 h4 h5 h6 = refl

  pub escape_finish : (e v : Text) → after_backslash (e ++ []) ≡ Some (v, []) → after_backslash (e ++ k ∷ r) ≡ Some (v, k ∷ r)
  escape_finish [] v h = absurd (apart h) where
    apart : {A : Type 0} {x : A} → None ≡ Some x → ⊥
    apart h = cc
  escape_finish (b ∷ e) v h = backslash_stop b e ∙ ap then_some (ap after_backslash (sym (append-nil (b ∷ e))) ∙ h)
