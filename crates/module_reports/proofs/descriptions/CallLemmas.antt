-- A text quoted character after character.
use Rattle.std.proofs.Common.{◌≡◌, ℕ, [], ◌++◌, flat_map, encode_utf8, length, sym, ap, ◌∙◌, append_assoc, append-nil}
use Rattle.std.specs.Prelude.{IsUtf8}
use Rattle.std.proofs.lemmas.List.{nil_from_length}
use Rattle.std.proofs.lemmas.Str.{chars-nil, chars_past_char}
use Rattle.envvars.specs.Texts.{Text}
use Rattle.module_reports.specs.descriptions.Calls.{quoted, quoted_char}

-- a character is quoted, and what is left is shorter by it
pub quoted_turn : (old new whole before after : Text) (c : ℕ) → IsUtf8 before → before ≡ encode_utf8 c ++ after → new ≡ old ++ quoted_char c → old ++ quoted before ≡ whole → new ++ quoted after ≡ whole
quoted_turn old new whole before after c utf8 next written kept =
    ap (λ (l : Text). l ++ quoted after) written ∙ (append_assoc old (quoted_char c) (quoted after)
    ∙ (ap (λ (l : Text). old ++ l) (sym (ap (flat_map quoted_char) (chars_past_char before after c utf8 next))) ∙ kept))

-- nothing is left
pub quoted_end : (now whole rest : Text) → length rest ≡ 0 → now ++ quoted rest ≡ whole → now ≡ whole
quoted_end now whole rest none kept =
    let nothing : quoted rest ≡ [] = ap quoted (nil_from_length rest none) ∙ ap (flat_map quoted_char) chars-nil in
    sym (append-nil now) ∙ (ap (λ (l : Text). now ++ l) (sym nothing) ∙ kept)
