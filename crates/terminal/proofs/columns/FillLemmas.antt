-- How wide a field is with what fills its column.
use Rattle.std.proofs.Common.{min, ◌≡◌, ℕ, zero, suc, ◌+◌, ◌-◌, ◌≤◌, Bool, true, false, List, [], ◌∷◌, ◌++◌, chars, length, map, replicate, refl, sym, ap, subst, ◌∙◌, arith, lit<}
use Rattle.std.specs.Prelude.{if◌then◌else◌}
use Rattle.std.specs.Int.{is_in_range}
use Rattle.std.specs.List.{IsAmong, list_all}
use Rattle.std.specs.Str.{IsAscii, is_utf8}
use Rattle.std.proofs.lemmas.Str.{IsUtf8-append, IsUtf8-from_ascii, IsUtf8-from_is_utf8, chars-IsAscii, chars-append}
use Rattle.unicode_width.specs.Width.{str_width}
use Rattle.unicode_width.proofs.Rules.{is_simple, str_width-append_simple, str_width-printable}
use Rattle.terminal.specs.columns.Columns.{Text, column_width, field_at, is_parted, lines, most_width, widest, width_of}
use Rattle.terminal.specs.columns.Laws.{FieldsFill}
use Rattle.terminal.proofs.columns.Utf8.{is_text}
use Rattle.terminal.proofs.columns.WidthLemmas.{column_width-cons}

are_ascii : (n : ℕ) → IsAscii (replicate n 32)
are_ascii zero i = lit< tt
are_ascii (suc n) zero = lit< tt
are_ascii (suc n) (suc i) = are_ascii n i

are_simple : (n : ℕ) → list_all is_simple (replicate n 32) ≡ true
are_simple zero = refl
are_simple (suc n) = are_simple n

are_printable : (n : ℕ) → list_all (is_in_range 0x20 0x7E) (replicate n 32) ≡ true
are_printable zero = refl
are_printable (suc n) = are_printable n

pub count : (n : ℕ) → length (replicate {A = ℕ} n 32) ≡ n
count zero = refl
count (suc n) = ap suc (count n)

in_utf8 : (text : Text) → is_utf8 text ≡ true → width_of text ≡ str_width false (chars text)
in_utf8 text e = ap (λ (utf8 : Bool). if utf8 then str_width false (chars text) else length text) e

-- blanks behind a text add their number to its width
with_blanks : (text : Text) (n : ℕ) → is_utf8 text ≡ true → width_of (text ++ replicate n 32) ≡ width_of text + n
with_blanks text n e =
    let utf8 = IsUtf8-from_is_utf8 text e in
    let whole = is_text (text ++ replicate n 32) (IsUtf8-append text (replicate n 32) utf8 (IsUtf8-from_ascii (replicate n 32) (are_ascii n))) in
    in_utf8 (text ++ replicate n 32) whole
    ∙ (ap (str_width false) (chars-append text (replicate n 32) utf8 ∙ ap (λ (t : Text). chars text ++ t) (chars-IsAscii (replicate n 32) (are_ascii n)))
    ∙ (str_width-append_simple false (chars text) (replicate n 32) (are_simple n)
    ∙ (ap (λ (w : ℕ). w + str_width false (replicate n 32)) (sym (in_utf8 text e))
    ∙ ap (λ (w : ℕ). width_of text + w) (str_width-printable false (replicate n 32) (are_printable n) ∙ count n))))

of_first : (place : ℕ) (line : Text) (parted : Bool) → parted ≡ true
    → min (width_of (field_at place line)) most_width ≤ min (widest (map (field_at place) (if parted then line ∷ [] else []))) most_width
of_first place line true e = omega arith
of_first place line false e = let never : false ≡ true = e in absurd (cc)

-- a field of a line that tabs part fits in its column
fits : (ls : List Text) (line : Text) (place : ℕ) → IsAmong ls line → is_parted line ≡ true → min (width_of (field_at place line)) most_width ≤ column_width ls place
fits [] line place (i, (below, is)) parted = absurd (omega arith)
fits (x ∷ ls) line place (zero, (below, is)) parted =
    let here : min (width_of (field_at place line)) most_width ≤ column_width (x ∷ []) place = subst (λ (l : Text). min (width_of (field_at place line)) most_width ≤ column_width (l ∷ []) place) is (of_first place line (is_parted line) parted) in
    omega (arith, column_width-cons x ls place)
fits (x ∷ ls) line place (suc i, (below, is)) parted =
    let later : min (width_of (field_at place line)) most_width ≤ column_width ls place = fits ls line place (i, (omega arith, is)) parted in
    omega (arith, column_width-cons x ls place)

pub fields_fill : FieldsFill
fields_fill text line place among parted utf8 narrow =
    let width : ℕ = column_width (lines text) place in
    let fit : min (width_of (field_at place line)) most_width ≤ width = fits (lines text) line place among parted in
    let filling : width_of (field_at place line) + (width - width_of (field_at place line) + 2) ≡ width + 2 = omega arith in
    with_blanks (field_at place line) (width - width_of (field_at place line) + 2) utf8 ∙ filling
