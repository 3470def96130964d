-- Names in turn.
use Rattle.std.proofs.Common.{◌≡◌, ◌<◌, ◌+◌, ℕ, List, ◌∷◌, map, drop, get_or, length, sym, ap, ◌∙◌}
use Rattle.std.proofs.lemmas.List.{drop_more}

-- the item of a turn, before those after it
pub split_at : {X Y : Type 0} (view : X → Y) (xs : List X) (i : ℕ) (x : X) → i < length xs → x ≡ get_or xs i x → map view (drop i xs) ≡ view x ∷ map view (drop (i + 1) xs)
split_at view xs i x below is = ap (map view) (drop_more xs i x below) ∙ ap (λ z. view z ∷ map view (drop (i + 1) xs)) (sym is)
