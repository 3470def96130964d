-- How a name goes on, as the code reads it: for this crate's own contracts.
use Rattle.std.specs.Prelude.{ℕ, Bool, true, false, not, ◌&&◌, List, [], ◌∷◌, length, nat_le}
use Rattle.std.specs.List.{list_all}
use Rattle.modulename.specs.ModuleName.{Text, is_forbidden, is_part, parts}

-- The texts between the slashes of what follows: the first goes on with a part, and each other is one.
abbrev pub are_parts_after : List Text → Bool
are_parts_after [] = false
are_parts_after (p ∷ ps) = list_all (λ b. not (is_forbidden b)) p && list_all is_part ps

-- A name goes on so, where a part begins or one was begun: well spelled, and with so many parts at most.
abbrev pub goes_on : Bool → ℕ → Text → Bool
goes_on true most rest = list_all is_part (parts rest) && nat_le (length (parts rest)) most
goes_on false most rest = are_parts_after (parts rest) && nat_le (length (parts rest)) most
