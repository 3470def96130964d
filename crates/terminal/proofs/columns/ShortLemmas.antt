-- How long texts are whose lines stand in columns.
use Rattle.std.proofs.Common.{ℕ, ◌+◌, ◌-◌, ◌*◌, ◌≤◌, List, [], ◌∷◌, length, length-append, map, replicate, subst, arith}
use Rattle.std.specs.List.{join_with_byte}
use Rattle.std.proofs.lemmas.List.Splits.{join_with_byte-slice_split}
use Rattle.terminal.specs.columns.Columns.{Text, aligned_line, column_width, fields, filled, in_columns, lines, most_width, width_of}
use Rattle.terminal.specs.columns.Laws.{StaysShort}
use Rattle.terminal.proofs.columns.FillLemmas.{count}

of_filled : (width : ℕ) (field : Text) → width ≤ most_width → length (filled width field) ≤ length field + 82
of_filled width field narrow =
    let blanks : ℕ = width - width_of field + 2 in
    omega (arith, length-append field (replicate blanks 32), count blanks)

of_fields : (width : ℕ → ℕ) (place : ℕ) (parts : List Text) → ((at : ℕ) → width at ≤ most_width)
    → length (in_columns width place parts) ≤ 82 * length (join_with_byte 9 parts)
of_fields width place [] narrow = omega arith
of_fields width place (field ∷ []) narrow = omega arith
of_fields width place (field ∷ next ∷ parts) narrow =
    let first : length (filled (width place) field) ≤ length field + 82 = of_filled (width place) field (narrow place) in
    let others = of_fields width (place + 1) (next ∷ parts) narrow in
    omega (
      arith,
      length-append (filled (width place) field) (in_columns width (place + 1) (next ∷ parts)),
      length-append field (9 ∷ join_with_byte 9 (next ∷ parts)),
    )

of_line : (width : ℕ → ℕ) (line : Text) → ((at : ℕ) → width at ≤ most_width) → length (aligned_line width line) ≤ 82 * length line
of_line width line narrow =
    subst (λ (text : Text). length (aligned_line width line) ≤ 82 * length text) (join_with_byte-slice_split 9 line) (of_fields width 0 (fields line) narrow)

of_lines : (width : ℕ → ℕ) (ls : List Text) → ((at : ℕ) → width at ≤ most_width)
    → length (join_with_byte 10 (map (aligned_line width) ls)) ≤ 82 * length (join_with_byte 10 ls)
of_lines width [] narrow = omega arith
of_lines width (line ∷ []) narrow = of_line width line narrow
of_lines width (line ∷ next ∷ ls) narrow =
    let first : length (aligned_line width line) ≤ 82 * length line = of_line width line narrow in
    let others = of_lines width (next ∷ ls) narrow in
    omega (
      arith,
      length-append (aligned_line width line) (10 ∷ join_with_byte 10 (map (aligned_line width) (next ∷ ls))),
      length-append line (10 ∷ join_with_byte 10 (next ∷ ls)),
    )

pub stays_short : StaysShort
stays_short text =
    subst (λ (whole : Text). length (join_with_byte 10 (map (aligned_line (column_width (lines text))) (lines text))) ≤ 82 * length whole)
    (join_with_byte-slice_split 10 text) (of_lines (column_width (lines text)) (lines text) (λ (at : ℕ). omega arith))
