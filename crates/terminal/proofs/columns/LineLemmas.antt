-- Fields in columns, field after field, and lines, line after line.
use Rattle.std.proofs.Common.{◌≡◌, ℕ, suc, ◌+◌, ◌-◌, ◌==◌, ◌≤◌, take, Result, Ok, Err, Bool, false, List, [], ◌∷◌, ◌++◌, ◌<◌, drop, get_or, length, length-drop, drop-cons, map, flat_map, refl, sym, ap, ◌∙◌, append-nil, append_assoc, Bor, arith}
use Rattle.std.specs.Prelude.{if◌then◌else◌, OnOk}
use Rattle.std.proofs.lemmas.List.{get_or-map, length-map}
use Rattle.std.proofs.Math.Seq.{take-length}
use Rattle.std.specs.List.{join_with_byte}
use Rattle.std.proofs.lemmas.Bool.Decides.{nat_tests}
use Rattle.terminal.specs.columns.Columns.{Text, aligned_line, filled, in_columns}
use Rattle.terminal.specs.columns.Views.{texts}

some_left : (n : ℕ) → (suc n == 0) ≡ false
some_left n = grind (arith, nat_tests)

-- the first of the fields, and the others behind it
pub in_columns-cons : (width : ℕ → ℕ) (place : ℕ) (field : Text) (fields : List Text) (last : Bool) → last ≡ (length fields == 0)
    → in_columns width place (field ∷ fields)
    ≡ (if last then field else filled (width place) field) ++ in_columns width (place + 1) fields
in_columns-cons width place field [] last e =
    rw e (sym (append-nil field))
in_columns-cons width place field (next ∷ fields) last e =
    rw (e ∙ some_left (length fields)) refl

-- lines with a newline between them: the first, and the others, each behind its newline
pub joined : (f : Text → Text) (line : Text) (lines : List Text)
    → join_with_byte 10 (map f (line ∷ lines)) ≡ f line ++ flat_map (λ (l : Text). 10 ∷ f l) lines
joined f line [] = sym (append-nil (f line))
joined f line (next ∷ lines) = ap (λ (t : Text). f line ++ 10 ∷ t) (joined f next lines)

-- what stands at a place and behind it, of fields of which some are left there
pub columns_turn : (width : ℕ → ℕ) (place : ℕ) (fields : List Text) (last : Bool) → place < length fields → last ≡ (place + 1 == length fields)
    → in_columns width place (drop place fields)
    ≡ (if last then get_or fields place [] else filled (width place) (get_or fields place [])) ++ in_columns width (place + 1) (drop (place + 1) fields)
columns_turn width place fields last there e =
    let next : place + 1 ≡ suc place = omega arith in
    let left : length (drop (suc place) fields) + suc place ≡ length fields = omega (arith, length-drop (suc place) fields) in
    let is : last ≡ (length (drop (suc place) fields) == 0) = grind (arith, nat_tests) in
    ap (in_columns width place) (drop-cons fields place [] there)
    ∙ (in_columns-cons width place (get_or fields place []) (drop (suc place) fields) last is
    ∙ ap (λ (n : ℕ). (if last then get_or fields place [] else filled (width place) (get_or fields place [])) ++ in_columns width (place + 1) (drop n fields)) (sym next))

-- a field more is written
pub fields_step : (width : ℕ → ℕ) (slices : List (Bor Text)) (nothing : Bor Text) (place w : ℕ) (old new whole : Text)
    → place < length slices → w ≡ width place
    → new ≡ old ++ (if place + 1 == length slices then (get_or slices place nothing).now else filled w (get_or slices place nothing).now)
    → old ++ in_columns width place (drop place (texts slices)) ≡ whole
    → new ++ in_columns width (place + 1) (drop (place + 1) (texts slices)) ≡ whole
fields_step width slices nothing place w old new whole there wide written kept =
    let fields : List Text = texts slices in
    let last : Bool = place + 1 == length slices in
    let count : length fields ≡ length slices = length-map slices (λ (slice : Bor Text). slice.now) in
    let field : (get_or slices place nothing).now ≡ get_or fields place [] = sym (get_or-map (λ (slice : Bor Text). slice.now) slices place nothing [] there) in
    let left : Text = in_columns width (place + 1) (drop (place + 1) fields) in
    let cell : Text → ℕ → Text = λ (f : Text) (n : ℕ). if last then f else filled n f in
    let turn = columns_turn width place fields last (omega arith) (ap (λ (n : ℕ). place + 1 == n) (sym count)) in
    ap (λ (t : Text). t ++ left) (written ∙ (ap (λ (f : Text). old ++ cell f w) field ∙ ap (λ (n : ℕ). old ++ cell (get_or fields place []) n) wide))
    ∙ (append_assoc old (cell (get_or fields place []) (width place)) left
    ∙ (ap (λ (t : Text). old ++ t) (sym turn) ∙ kept))

-- what follows from a fact on success holds on success
pub on_ok_then : {X E P Q : Type 0} (r : Result X E) → (P → Q) → OnOk r P → OnOk r Q
on_ok_then (Ok x) f p = f p
on_ok_then (Err e) f p = p

-- the first of several lines is written, and then the others
pub lines_join : (width : ℕ → ℕ) (slices : List (Bor Text)) (nothing : Bor Text) (old first new : Text) → 1 ≤ length slices
    → first ≡ old ++ aligned_line width (get_or slices 0 nothing).now
    → new ≡ first ++ flat_map (λ (line : Text). 10 ∷ aligned_line width line) (texts (take (length slices - 1) (drop 1 slices)))
    → new ≡ old ++ join_with_byte 10 (map (aligned_line width) (texts slices))
lines_join width [] nothing old first new some a b = absurd (omega arith)
lines_join width (slice ∷ slices) nothing old first new some a b =
    let less : suc (length slices) - 1 ≡ length slices = omega arith in
    let later : List (Bor Text) → Text = λ slices. flat_map (λ (line : Text). 10 ∷ aligned_line width line) (texts slices) in
    b ∙ (ap (λ (n : ℕ). first ++ later (take n slices)) less
    ∙ (ap (λ (l : List (Bor Text)). first ++ later l) (take-length slices)
    ∙ (ap (λ (t : Text). t ++ later slices) a
    ∙ (append_assoc old (aligned_line width slice.now) (later slices)
    ∙ ap (λ (t : Text). old ++ t) (sym (joined (aligned_line width) slice.now (texts slices)))))))
