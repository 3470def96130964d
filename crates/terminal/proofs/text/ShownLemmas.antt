-- What is shown of a text, character after character, where this is what is shown of each.
use Rattle.std.proofs.Common.{◌≡◌, ℕ, List, [], ◌++◌, flat_map, encode_utf8, length, sym, ap, ◌∙◌, append_assoc, append-nil}
use Rattle.std.specs.Prelude.{IsUtf8, chars}
use Rattle.std.proofs.lemmas.List.{nil_from_length}
use Rattle.std.proofs.lemmas.Str.{chars-nil, chars_past_char}

module _ (show : ℕ → List ℕ) where
  -- a character is shown, and what is left is shorter by it
  pub shown_turn : (old new whole before after : List ℕ) (c : ℕ) → IsUtf8 before → before ≡ encode_utf8 c ++ after → new ≡ old ++ show c → old ++ flat_map show (chars before) ≡ whole
      → new ++ flat_map show (chars after) ≡ whole
  shown_turn old new whole before after c utf8 next written kept =
      ap (λ (l : List ℕ). l ++ flat_map show (chars after)) written ∙ (append_assoc old (show c) (flat_map show (chars after))
      ∙ (ap (λ (l : List ℕ). old ++ l) (sym (ap (flat_map show) (chars_past_char before after c utf8 next))) ∙ kept))

  -- nothing is left
  pub shown_end : (now whole rest : List ℕ) → length rest ≡ 0 → now ++ flat_map show (chars rest) ≡ whole → now ≡ whole
  shown_end now whole rest none kept =
      let nothing : flat_map show (chars rest) ≡ [] = ap (λ (l : List ℕ). flat_map show (chars l)) (nil_from_length rest none) ∙ ap (flat_map show) chars-nil in
      sym (append-nil now) ∙ (ap (λ (l : List ℕ). now ++ l) (sym nothing) ∙ kept)
