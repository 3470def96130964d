-- What stays of texts whose lines stand in columns.
use Rattle.std.proofs.Common.{◌≡◌, ℕ, zero, suc, ◌+◌, ◌-◌, ◌≤◌, not, List, [], ◌∷◌, ◌++◌, length, map, replicate, refl, sym, ap, ◌∙◌, append-nil, arith}
use Rattle.std.specs.List.{join_with_byte}
use Rattle.std.proofs.lemmas.Bool.Decides.{nat_tests}
use Rattle.std.proofs.lemmas.List.Elements.{filter-append}
use Rattle.std.proofs.lemmas.List.Splits.{join_with_byte-slice_split}
use Rattle.terminal.specs.columns.Columns.{Text, aligned_line, column_width, fields, filled, in_columns, lines, width_of}
use Rattle.terminal.specs.columns.Laws.{KeepsTexts, LinesStay, is_gap, without_gaps}

over : (xs ys : Text) → without_gaps (xs ++ ys) ≡ without_gaps xs ++ without_gaps ys
over xs ys = filter-append (λ (b : ℕ). not (is_gap b)) xs ys

no_blanks : (n : ℕ) → without_gaps (replicate n 32) ≡ []
no_blanks zero = refl
no_blanks (suc n) = no_blanks n

of_filled : (width : ℕ) (field : Text) → without_gaps (filled width field) ≡ without_gaps field
of_filled width field =
    let blanks : ℕ = width - width_of field + 2 in
    over field (replicate blanks 32) ∙ (ap (λ (t : Text). without_gaps field ++ t) (no_blanks blanks) ∙ append-nil (without_gaps field))

of_fields : (width : ℕ → ℕ) (place : ℕ) (parts : List Text) → without_gaps (in_columns width place parts) ≡ without_gaps (join_with_byte 9 parts)
of_fields width place [] = refl
of_fields width place (field ∷ []) = refl
of_fields width place (field ∷ next ∷ parts) =
    over (filled (width place) field) (in_columns width (place + 1) (next ∷ parts))
    ∙ (ap (λ (t : Text). t ++ without_gaps (in_columns width (place + 1) (next ∷ parts))) (of_filled (width place) field)
    ∙ (ap (λ (t : Text). without_gaps field ++ t) (of_fields width (place + 1) (next ∷ parts))
    ∙ sym (over field (9 ∷ join_with_byte 9 (next ∷ parts)))))

of_line : (width : ℕ → ℕ) (line : Text) → without_gaps (aligned_line width line) ≡ without_gaps line
of_line width line = of_fields width 0 (fields line) ∙ ap without_gaps (join_with_byte-slice_split 9 line)

of_lines : (width : ℕ → ℕ) (ls : List Text) → without_gaps (join_with_byte 10 (map (aligned_line width) ls)) ≡ without_gaps (join_with_byte 10 ls)
of_lines width [] = refl
of_lines width (line ∷ []) = of_line width line
of_lines width (line ∷ next ∷ ls) =
    let others : Text = join_with_byte 10 (map (aligned_line width) (next ∷ ls)) in
    over (aligned_line width line) (10 ∷ others)
    ∙ (ap (λ (t : Text). t ++ 10 ∷ without_gaps others) (of_line width line)
    ∙ (ap (λ (t : Text). without_gaps line ++ 10 ∷ t) (of_lines width (next ∷ ls))
    ∙ sym (over line (10 ∷ join_with_byte 10 (next ∷ ls)))))

pub keeps_texts : KeepsTexts
keeps_texts text = of_lines (column_width (lines text)) (lines text) ∙ ap without_gaps (join_with_byte-slice_split 10 text)

one_part : (width : ℕ → ℕ) (parts : List Text) → length parts ≤ 1 → in_columns width 0 parts ≡ join_with_byte 9 parts
one_part width [] few = refl
one_part width (part ∷ []) few = refl
one_part width (part ∷ next ∷ parts) few = absurd (omega arith)

pub lines_stay : LinesStay
lines_stay width line whole =
    one_part width (fields line) (grind (arith, nat_tests)) ∙ join_with_byte-slice_split 9 line
