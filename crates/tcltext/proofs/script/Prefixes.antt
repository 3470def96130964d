-- Up to an offending character a text goes on to a script, and with it to none.
use Rattle.std.proofs.Common.{◌≡◌, ◌≢◌, ℕ, zero, suc, ◌+◌, ◌*◌, ◌<◌, ◌≤◌, [], ◌∷◌, ◌++◌, length, Bool, true, false}
use Rattle.std.proofs.Common.{◌&&◌, ◌==◌, nat_lt, nat_le, if◌then◌else◌, Option, Some, None, refl, sym, subst, ◌∙◌}
use Rattle.std.proofs.Common.{arith, ◌⊎◌, inl, inr}
use Rattle.std.specs.Prelude.{encode_utf8}
use Rattle.std.proofs.lemmas.Bool.Decides.{nat_tests}
use Rattle.tcltext.specs.chars.Runs.{Text, take_while, drop_while}
use Rattle.tcltext.specs.chars.Bytes.{newline, is_continuation}
use Rattle.tcltext.specs.chars.Backslash.{is_octal, is_blank_or_tab, digit_at, octal_on, octal_at, hexadecimal_on}
use Rattle.tcltext.specs.chars.Backslash.{hexadecimal_at, character, begins_hexadecimal, code_at, wide_code_at, letter_value}
use Rattle.tcltext.specs.chars.Backslash.{after_backslash}
use Rattle.tcltext.proofs.chars.BackslashLemmas.{digit_below}
use Rattle.tcltext.specs.declared.chars.fault.Fault.{Fault}
use Rattle.tcltext.specs.declared.chars.fault.Fault.TheVariants.{TooDeep}
use Rattle.tcltext.specs.declared.script.context.Context.{Context}
use Rattle.tcltext.specs.script.Tree.{Commands, nesting}
use Rattle.tcltext.specs.script.Grammar.{IsScript}
use Rattle.tcltext.specs.script.Faults as faults
use Rattle.tcltext.specs.script.Faults.{CommandsFault, CommandFault, WordsFault, WordFault, UnexpandedWordFault, PartsFault}
use Rattle.tcltext.specs.script.Faults.{PartFault, IsFault}
use Rattle.tcltext.proofs.script.Whole.{no_tree}
use Rattle.tcltext.proofs.script.ViablePrefixes.{Kind, joined, escape, mark, Kept, same_cut, commands_move}

-- Where more may nest

mutual
  commands_deeper : {d : ℕ} {nested : Bool} {bs : Text} {f : Fault} → CommandsFault d nested bs f → (e : ℕ) → d ≤ e → f ≢ TooDeep → CommandsFault e nested bs f
  commands_deeper (faults.CommandsFault.first_command gap h free k) e more some = faults.CommandsFault.first_command gap h free (command_deeper k e more some)
  commands_deeper (faults.CommandsFault.later_command gap source body ws h free k deep l) e more some =
      faults.CommandsFault.later_command gap source body ws h free k (omega (arith, deep, more))
      (commands_deeper l e more some)

  command_deeper : {d : ℕ} {nested : Bool} {bs : Text} {f : Fault} → CommandFault d nested bs f → (e : ℕ) → d ≤ e → f ≢ TooDeep → CommandFault e nested bs f
  command_deeper (faults.CommandFault.first_word h) e more some = faults.CommandFault.first_word (word_deeper h e more some)
  command_deeper (faults.CommandFault.later_word body w h deep k) e more some = faults.CommandFault.later_word body w h (omega (arith, deep, more)) (words_deeper k e more some)

  words_deeper : {d : ℕ} {nested : Bool} {bs : Text} {f : Fault} → WordsFault d nested bs f → (e : ℕ) → d ≤ e → f ≢ TooDeep → WordsFault e nested bs f
  words_deeper (faults.WordsFault.next_word blanks h k) e more some = faults.WordsFault.next_word blanks h (word_deeper k e more some)
  words_deeper (faults.WordsFault.word_after blanks body w h k deep l) e more some = faults.WordsFault.word_after blanks body w h k (omega (arith, deep, more)) (words_deeper l e more some)

  word_deeper : {d : ℕ} {nested : Bool} {bs : Text} {f : Fault} → WordFault d nested bs f → (e : ℕ) → d ≤ e → f ≢ TooDeep → WordFault e nested bs f
  word_deeper (faults.WordFault.not_expanding none h) e more some = faults.WordFault.not_expanding none (plain_deeper h e more some)
  word_deeper (faults.WordFault.expanding h k) e more some = faults.WordFault.expanding h (plain_deeper k e more some)

  plain_deeper : {d : ℕ} {nested : Bool} {bs : Text} {f : Fault} → UnexpandedWordFault d nested bs f → (e : ℕ) → d ≤ e → f ≢ TooDeep → UnexpandedWordFault e nested bs f
  plain_deeper (faults.UnexpandedWordFault.open_brace h) e more some = faults.UnexpandedWordFault.open_brace h
  plain_deeper (faults.UnexpandedWordFault.joined_brace inside rest h k) e more some = faults.UnexpandedWordFault.joined_brace inside rest h k
  plain_deeper (faults.UnexpandedWordFault.in_quotes h) e more some = faults.UnexpandedWordFault.in_quotes (parts_deeper h e more some)
  plain_deeper (faults.UnexpandedWordFault.open_quote ps h deep) e more some = faults.UnexpandedWordFault.open_quote ps h (omega (arith, deep, more))
  plain_deeper (faults.UnexpandedWordFault.joined_quote inside rest ps h deep l) e more some = faults.UnexpandedWordFault.joined_quote inside rest ps h (omega (arith, deep, more)) l
  plain_deeper (faults.UnexpandedWordFault.in_bare h k) e more some = faults.UnexpandedWordFault.in_bare h (parts_deeper k e more some)

  parts_deeper : {d : ℕ} {c : Context} {bs : Text} {f : Fault} → PartsFault d c bs f → (e : ℕ) → d ≤ e → f ≢ TooDeep → PartsFault e c bs f
  parts_deeper (faults.PartsFault.first_part h) e more some = faults.PartsFault.first_part (part_deeper h e more some)
  parts_deeper (faults.PartsFault.later_part body q goes h deep k) e more some = faults.PartsFault.later_part body q goes h (omega (arith, deep, more)) (parts_deeper k e more some)

  part_deeper : {d : ℕ} {bs : Text} {f : Fault} → PartFault d bs f → (e : ℕ) → d ≤ e → f ≢ TooDeep → PartFault e bs f
  part_deeper (faults.PartFault.open_name h) e more some = faults.PartFault.open_name h
  part_deeper (faults.PartFault.bad_character begun h) e more some = faults.PartFault.bad_character begun h
  part_deeper faults.PartFault.bracket_too_deep e more some = absurd (some refl)
  part_deeper (faults.PartFault.in_bracket h) zero more some = absurd (omega (arith, more))
  part_deeper (faults.PartFault.in_bracket h) (suc e) more some = faults.PartFault.in_bracket (commands_deeper h e (omega (arith, more)) some)
  part_deeper (faults.PartFault.open_bracket s h less) zero more some = absurd (omega (arith, more))
  part_deeper (faults.PartFault.open_bracket s h less) (suc e) more some = faults.PartFault.open_bracket s h (omega (arith, less, more))
  part_deeper (faults.PartFault.index_too_deep name bs h) e more some = absurd (some refl)
  part_deeper (faults.PartFault.in_index name bs h k) zero more some = absurd (omega (arith, more))
  part_deeper (faults.PartFault.in_index name bs h k) (suc e) more some = faults.PartFault.in_index name bs h (parts_deeper k e (omega (arith, more)) some)
  part_deeper (faults.PartFault.open_index name bs ps h k less) zero more some = absurd (omega (arith, more))
  part_deeper (faults.PartFault.open_index name bs ps h k less) (suc e) more some = faults.PartFault.open_index name bs ps h k (omega (arith, less, more))

marked : (kind : Kind) (n : ℕ) → mark kind n ≢ TooDeep
marked joined n = λ h. cc
marked escape n = λ h. cc

-- With what offends, and anything behind it, there is no script, however deep it nests.
pub no_further : (kind : Kind) (d : ℕ) (before keep s t : Text)
    → IsFault d (before ++ (keep ++ s)) (mark kind (length (keep ++ s))) → Kept kind keep s t → (tree : Commands)
    → IsScript (before ++ (keep ++ t)) tree → ⊥
no_further kind d before keep s t h k tree is =
    let m = commands_move kind h (length (keep ++ s)) refl in
    let cut = same_cut before (keep ++ s) m.before m.rest m.whole (sym m.long) in
    let moved : IsFault d (m.before ++ (keep ++ t)) (mark kind (length (keep ++ t))) = m.moves keep s t (sym cut.1) k in
    let there : IsFault d (before ++ (keep ++ t)) (mark kind (length (keep ++ t))) = subst (λ ys. IsFault d (ys ++ (keep ++ t)) (mark kind (length (keep ++ t)))) (sym cut.0) moved in
    let e = d + nesting tree in
    no_tree e (before ++ (keep ++ t)) (mark kind (length (keep ++ t))) tree (commands_deeper there e (omega arith) (marked kind (length (keep ++ t)))) is (omega arith)

-- A backslash that stands for nothing

octal_small : (n v : ℕ) (bs : Text) → v < 256 → (octal_at n v bs).0 < 256
octal_small zero v bs h = h
octal_small (suc n) v bs h = digit (digit_at 8 bs) (octal_small n) where
  digit : (d : Option (ℕ × Text)) → ((w : ℕ) (xs : Text) → w < 256 → (octal_at n w xs).0 < 256) → (octal_on (octal_at n) v bs d).0 < 256
  digit None more = h
  digit (Some d) more = test (nat_lt (v * 8 + d.0) 256) refl where
    test : (t : Bool) → nat_lt (v * 8 + d.0) 256 ≡ t → (octal_on (octal_at n) v bs (Some d)).0 < 256
    test true e = rw e (more (v * 8 + d.0) d.1 (grind (arith, nat_tests)))
    test false e = rw e h

one_digit : (v : ℕ) (bs : Text) → v < 16 → (hexadecimal_at 1 v bs).0 < 256
one_digit v bs h = digit (digit_at 16 bs) refl where
  digit : (d : Option (ℕ × Text)) → digit_at 16 bs ≡ d → (hexadecimal_on (hexadecimal_at 0) v bs d).0 < 256
  digit None e = omega arith
  digit (Some d) e = (let small = digit_below 16 bs d.0 d.1 e in omega arith)

two_digits : (bs : Text) → (hexadecimal_at 2 0 bs).0 < 256
two_digits bs = digit (digit_at 16 bs) refl where
  digit : (d : Option (ℕ × Text)) → digit_at 16 bs ≡ d → (hexadecimal_on (hexadecimal_at 1) 0 bs d).0 < 256
  digit None e = omega arith
  digit (Some d) e = (let small = digit_below 16 bs d.0 d.1 e in one_digit (0 * 16 + d.0) d.1 (omega arith))

some_none : {A : Type 0} (x : A) → Some x ≡ None → ⊥
some_none x h = cc

small_character : (r : ℕ × Text) → r.0 < 256 → character r ≡ None → ⊥
small_character r h e = some_none (encode_utf8 r.0, r.1) (sym (is_one r h) ∙ e) where
  is_one : (r : ℕ × Text) → r.0 < 256 → character r ≡ Some (encode_utf8 r.0, r.1)
  is_one r h = (let low : (nat_le 55296 r.0 && nat_lt r.0 57344) ≡ false = grind (arith, nat_tests) in rw low refl)

pub escape_letter : (b : ℕ) (bs : Text) → after_backslash (b ∷ bs) ≡ None → (b ≡ 117) ⊎ (b ≡ 85)
escape_letter b bs h = go (b == newline) (is_octal b) (b == 120) (b == 117) refl (b == 85) refl (nat_le 128 b) h where
  is_byte : (c : ℕ) → (b == c) ≡ true → b ≡ c
  is_byte c h = grind (arith, nat_tests)

  code : (t : Bool) → (if t then character (hexadecimal_at 2 0 bs) else Some (b ∷ [], bs)) ≡ None → ⊥
  code true h = small_character (hexadecimal_at 2 0 bs) (two_digits bs) h
  code false h = some_none (b ∷ [], bs) h

  go : (t u v w : Bool) → (b == 117) ≡ w → (x : Bool) → (b == 85) ≡ x → (y : Bool)
      → (if t then Some (32 ∷ [], drop_while is_blank_or_tab bs)
      else if u then character (octal_at 3 0 (b ∷ bs))
      else if v then code_at 2 b bs
      else if w then code_at 4 b bs
      else if x then wide_code_at bs
      else if y then Some (b ∷ take_while is_continuation bs, drop_while is_continuation bs)
      else Some (letter_value b ∷ [], bs)) ≡ None
      → (b ≡ 117) ⊎ (b ≡ 85)
  go true u v w f x g y h = absurd (some_none (32 ∷ [], drop_while is_blank_or_tab bs) h)
  go false true v w f x g y h = absurd (small_character (octal_at 3 0 (b ∷ bs)) (octal_small 3 0 (b ∷ bs) (omega arith)) h)
  go false false true w f x g y h = absurd (code (begins_hexadecimal bs) h)
  go false false false true f x g y h = inl (is_byte 117 f)
  go false false false false f true g y h = inr (is_byte 85 g)
  go false false false false f false g true h = absurd (some_none (b ∷ take_while is_continuation bs, drop_while is_continuation bs) h)
  go false false false false f false g false h = absurd (some_none (letter_value b ∷ [], bs) h)
