-- A word that is one run of literal bytes.
use Rattle.std.proofs.Common.{◌≡◌, ℕ, ◌<◌, [], ◌∷◌, length, Bool, true, false, ◌==◌, Ok, refl, sym, ap, ap₂, subst, ◌∙◌}
use Rattle.std.proofs.Common.{arith}
use Rattle.std.proofs.lemmas.Bool.Decides.{nat_tests}
use Rattle.tcltext.specs.chars.Runs.{Text, take_while, drop_while}
use Rattle.tcltext.specs.chars.Classes.{in_class}
use Rattle.tcltext.specs.chars.Reading.{Read, read_map}
use Rattle.tcltext.proofs.chars.RunLemmas.{take_while-cons_false}
use Rattle.tcltext.specs.declared.script.context.Context.{Context}
use Rattle.tcltext.specs.declared.script.context.Context.TheVariants.{InScript, InBracket, InIndex, InQuotes}
use Rattle.tcltext.specs.script.Tree.{no_parts, part, literal, Part, parts_of}
use Rattle.tcltext.specs.script.Ends.{word_ends, parts_end, class_of, bare}
use Rattle.tcltext.specs.script.Reading.{Inner, part_at, parts_with}
use Rattle.tcltext.proofs.script.Readers.{literal_behind}
use Rattle.tcltext.proofs.script.Loops.{so_far-none, so_far-more, so_far-end}

-- a literal byte ends no parts and begins no substitution
record Literal (context : Context) (b : ℕ) (bs : Text) : Type 0 where
  going : parts_end context (b ∷ bs) ≡ false
  no_dollar : (b == 36) ≡ false
  no_bracket : (b == 91) ≡ false
  no_backslash : (b == 92) ≡ false

literal_byte : (context : Context) (b : ℕ) (bs : Text) → in_class (class_of context) b ≡ true → Literal context b bs
literal_byte InScript b bs h = record { going = grind (arith, nat_tests); no_dollar = grind (arith, nat_tests); no_bracket = grind (arith, nat_tests); no_backslash = grind (arith, nat_tests) }
literal_byte InBracket b bs h = record { going = grind (arith, nat_tests); no_dollar = grind (arith, nat_tests); no_bracket = grind (arith, nat_tests); no_backslash = grind (arith, nat_tests) }
literal_byte InIndex b bs h = record { going = grind (arith, nat_tests); no_dollar = grind (arith, nat_tests); no_bracket = grind (arith, nat_tests); no_backslash = grind (arith, nat_tests) }
literal_byte InQuotes b bs h = record { going = grind (arith, nat_tests); no_dollar = grind (arith, nat_tests); no_bracket = grind (arith, nat_tests); no_backslash = grind (arith, nat_tests) }

some_run : (run : Text) → run ≡ [] → (length run == 0) ≡ false → ⊥
some_run [] e h = cc
some_run (b ∷ bs) e h = cc

module _ (context : Context) (inner : Inner) where
  literal_part : (b : ℕ) (bs run rest : Text) → Literal context b bs → run ≡ take_while (in_class (class_of context)) (b ∷ bs) → rest ≡ drop_while (in_class (class_of context)) (b ∷ bs)
      → part_at context inner (b ∷ bs) ≡ Ok (literal run, rest)
  unfolding part_at
  literal_part b bs run rest l is after = rw (l.no_dollar, l.no_bracket, l.no_backslash) (ap₂ (λ (xs ys : Text). let found : Read Part = Ok (literal xs, ys) in found) (sym is) (sym after))

  literal_parts : (b : ℕ) (bs run rest : Text) → Literal context b bs
      → run ≡ take_while (in_class (class_of context)) (b ∷ bs)
      → rest ≡ drop_while (in_class (class_of context)) (b ∷ bs) → parts_end context rest ≡ true
      → parts_with context inner (b ∷ bs) ≡ Ok (part (literal run) no_parts, rest)
  unfolding parts_with
  literal_parts b bs run rest l is after ends =
      let behind = literal_behind context (b ∷ bs) l.going l.no_dollar l.no_bracket l.no_backslash in
      let less : length rest < length (b ∷ bs) = subst (λ ys. length ys < length (b ∷ bs)) (sym after) behind.1 in
      let none = so_far-none (λ bs. bs) (parts_end context) (part_at context inner) (b ∷ bs) in
      let one = so_far-more (λ bs. bs) (parts_end context) (part_at context inner) (b ∷ bs) [] (literal run ∷ [])
      (b ∷ bs) (b ∷ bs) (literal run) rest refl l.going (literal_part b bs run rest l is after) less refl none in
      ap (read_map parts_of) (so_far-end (λ bs. bs) (parts_end context) (part_at context inner) (b ∷ bs) (literal run ∷ []) rest rest refl ends one)

  run_parts : (bs run rest : Text) → run ≡ take_while (in_class (class_of context)) bs → rest ≡ drop_while (in_class (class_of context)) bs → (length run == 0) ≡ false → parts_end context rest ≡ true
      → parts_with context inner bs ≡ Ok (part (literal run) no_parts, rest)
  run_parts [] run rest is after some ends = absurd (some_run run is some)
  run_parts (b ∷ bs) run rest is after some ends = go (in_class (class_of context) b) refl where
    go : (t : Bool) → in_class (class_of context) b ≡ t → parts_with context inner (b ∷ bs) ≡ Ok (part (literal run) no_parts, rest)
    go true h = literal_parts b bs run rest (literal_byte context b bs h) is after ends
    go false h = absurd (some_run run (is ∙ take_while-cons_false (in_class (class_of context)) b bs h) some)

ends_bare : (nested : Bool) (bs : Text) → word_ends nested bs ≡ true → parts_end (bare nested) bs ≡ true
ends_bare true bs h = h
ends_bare false bs h = h

-- a run that is not empty, and behind which the word ends
pub bare-word : (nested : Bool) (inner : Inner) (bs run rest : Text)
    → run ≡ take_while (in_class (class_of (bare nested))) bs → rest ≡ drop_while (in_class (class_of (bare nested))) bs
    → (length run == 0) ≡ false → word_ends nested rest ≡ true
    → parts_with (bare nested) inner bs ≡ Ok (part (literal run) no_parts, rest)
bare-word nested inner bs run rest is after some ends = run_parts (bare nested) inner bs run rest is after some (ends_bare nested rest ends)
