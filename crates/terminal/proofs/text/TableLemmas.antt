-- A table, row after row and cell after cell.
use Rattle.std.proofs.Common.{◌≡◌, ℕ, zero, suc, ◌+◌, ◌-◌, ◌<◌, List, [], ◌∷◌, ◌++◌, length, drop, map, get_or, replicate, string_bytes, refl, sym, ap, ◌∙◌, append_assoc, append-nil, arith, Result, Ok, Err}
use Rattle.std.specs.Prelude.{OnOk}
use Rattle.std.specs.List.{flat_map, range_with_len}
use Rattle.terminal.specs.text.Shown.{Text}
use Rattle.terminal.specs.text.Tables.{Cell, row_text}
use Rattle.terminal.specs.text.CellViews.{cell_view}
use Rattle.terminal.specs.declared.text.table.Cell as code

-- what follows from a fact on success holds on success
pub on_ok_then : {X E P Q : Type 0} (r : Result X E) → (P → Q) → OnOk r P → OnOk r Q
on_ok_then (Ok x) f p = f p
on_ok_then (Err e) f p = p

-- what is left of a list behind a number of elements, element by element
pub map_drop : {A B : Type 0} (f : A → B) (n : ℕ) (xs : List A) → drop n (map f xs) ≡ map f (drop n xs)
map_drop f zero xs = refl
map_drop f (suc n) [] = refl
map_drop f (suc n) (x ∷ xs) = map_drop f n xs

-- a row with a cell is the gap, the cell and the rest of the row
pub row_turn : (column step count gap : ℕ) (cells : List code.Cell) (cell : code.Cell) → 0 < count → 0 < length cells → cell ≡ get_or cells 0 cell
    → row_text column step count gap (map cell_view cells)
    ≡ replicate gap 32 ++ (string_bytes cell.text ++ row_text column step (count - 1) (column - cell.width) (map cell_view (drop step cells)))
row_turn column step zero gap cells cell some cell_there is = absurd (omega arith)
row_turn column step (suc count) gap [] cell some cell_there is = absurd (omega arith)
row_turn column step (suc count) gap (x ∷ xs) cell some cell_there is =
    let less : suc count - 1 ≡ count = omega arith in
    rw less (rw is (ap (λ (rest : List Cell). replicate gap 32 ++ (string_bytes x.text ++ row_text column step count (column - x.width) rest)) (map_drop cell_view step (x ∷ xs))))

-- a text behind which a gap, a cell and a rest are written
pub row_joins : (old gapped celled new gap text rest whole : Text) → gapped ≡ old ++ gap → celled ≡ gapped ++ text → whole ≡ gap ++ (text ++ rest) → new ≡ celled ++ rest
    → new ≡ old ++ whole
row_joins old gapped celled new gap text rest whole a b c d =
    d ∙ (ap (λ (l : Text). l ++ rest) (b ∙ ap (λ (l : Text). l ++ text) a)
    ∙ (append_assoc (old ++ gap) text rest ∙ (append_assoc old gap (text ++ rest) ∙ ap (λ (l : Text). old ++ l) (sym c))))

-- one number more
pub range_more : (f : ℕ → Text) (n a : ℕ) → flat_map f (range_with_len a (suc n)) ≡ flat_map f (range_with_len a n) ++ f (a + n)
range_more f zero a =
    let here : a + 0 ≡ a = omega arith in
    append-nil (f a) ∙ ap f (sym here)
range_more f (suc n) a =
    let next : (a + 1) + n ≡ a + suc n = omega arith in
    ap (λ (l : Text). f a ++ l) (range_more f n (a + 1) ∙ ap (λ (m : ℕ). flat_map f (range_with_len (a + 1) n) ++ f m) next)
    ∙ sym (append_assoc (f a) (flat_map f (range_with_len (a + 1) n)) (f (a + suc n)))

-- a row more behind a text
pub rows_join : (f : ℕ → Text) (n : ℕ) (first old rowed new : Text) (row : Text) → old ≡ first ++ flat_map f (range_with_len 0 n) → rowed ≡ old ++ row → new ≡ rowed ++ 10 ∷ [] → f n ≡ row ++ 10 ∷ []
    → new ≡ first ++ flat_map f (range_with_len 0 (n + 1))
rows_join f n first old rowed new row a b c d =
    let one : n + 1 ≡ suc n = omega arith in
    let here : 0 + n ≡ n = omega arith in
    rw one (c ∙ (ap (λ (l : Text). l ++ 10 ∷ []) (b ∙ ap (λ (l : Text). l ++ row) a)
    ∙ (append_assoc (first ++ flat_map f (range_with_len 0 n)) row (10 ∷ [])
    ∙ (append_assoc first (flat_map f (range_with_len 0 n)) (row ++ 10 ∷ [])
    ∙ ap (λ (l : Text). first ++ l) (ap (λ (l : Text). flat_map f (range_with_len 0 n) ++ l) (sym d ∙ ap f (sym here)) ∙ sym (range_more f n 0))))))
