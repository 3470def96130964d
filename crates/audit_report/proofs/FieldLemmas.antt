-- A text as a field, character after character.
use Rattle.std.proofs.Common.{◌≡◌, ℕ, List, [], ◌++◌, flat_map, encode_utf8, length, sym, ap, ◌∙◌, append_assoc, append-nil}
use Rattle.std.specs.Prelude.{IsUtf8}
use Rattle.std.proofs.lemmas.List.{nil_from_length}
use Rattle.std.proofs.lemmas.Str.{chars-nil, chars_past_char}
use Rattle.audit_report.specs.Words.{spelled, spelled_char}

-- a character is written, and what is left is shorter by it
pub field_turn : (old new whole before after : List ℕ) (c : ℕ) → IsUtf8 before → before ≡ encode_utf8 c ++ after → new ≡ old ++ spelled_char c → old ++ spelled before ≡ whole
    → new ++ spelled after ≡ whole
field_turn old new whole before after c utf8 next written kept =
    let spells : List ℕ → List ℕ = λ cs. flat_map spelled_char cs in
    ap (λ (l : List ℕ). l ++ spelled after) written ∙ (append_assoc old (spelled_char c) (spelled after)
    ∙ (ap (λ (l : List ℕ). old ++ l) (sym (ap spells (chars_past_char before after c utf8 next))) ∙ kept))

-- nothing is left
pub field_end : (now whole rest : List ℕ) → length rest ≡ 0 → now ++ spelled rest ≡ whole → now ≡ whole
field_end now whole rest none kept =
    let spells : List ℕ → List ℕ = λ cs. flat_map spelled_char cs in
    let nothing : spelled rest ≡ [] = ap spelled (nil_from_length rest none) ∙ ap spells chars-nil in
    sym (append-nil now) ∙ (ap (λ (l : List ℕ). now ++ l) (sym nothing) ∙ kept)
