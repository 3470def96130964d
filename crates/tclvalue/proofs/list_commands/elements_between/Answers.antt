use Rattle.std.proofs.Common.{◌≡◌, ℕ, length, map, take, drop, string_bytes, sym, ap, ◌∙◌, List, ◌+ℤ◌, pos}
use Rattle.std.proofs.lemmas.List.{take-map, drop-map, length-map}
use Rattle.tclvalue.specs.Indexes.{Index, position, items_between, at_least_0}
use Rattle.tclvalue.specs.Views.{index_view}
use Rattle.tclvalue.proofs.list_commands.elements_between.Goals as goal

mapped : {X Y : Type 0} (f : X → Y) (i j : Index) (xs : List X)
    → map f (items_between (position (length xs) i) (position (length xs) j) xs) ≡ items_between (position (length (map f xs)) i) (position (length (map f xs)) j) (map f xs)
mapped f i j xs =
    sym (ap (drop (first (length xs))) (take-map f (last (length xs)) xs) ∙ drop-map f (first (length xs)) (take (last (length xs)) xs))
    ∙ ap (λ n. items_between (position n i) (position n j) (map f xs)) (sym (length-map xs f))
  where
    first : ℕ → ℕ
    first n = at_least_0 (position n i)

    last : ℕ → ℕ
    last n = at_least_0 (position n j +ℤ pos 1)

pub returns : goal.returns
returns c = ap (map string_bytes) c.between.ensures ∙ mapped string_bytes (index_view c.args.first) (index_view c.args.last) c.args.elements.now
