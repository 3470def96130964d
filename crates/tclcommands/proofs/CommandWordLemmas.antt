-- The words of a command by its name and its operands.
use Rattle.std.proofs.Common.{◌≡◌, ◌<◌, List, [], ◌∷◌, map, drop, length, get_or, String, Global, refl, arith}
use Rattle.std.specs.Prelude.{string_bytes}
use Rattle.tclcommands.specs.CommandTexts.{name_of}

pub whole : (ws : List (String Global)) → 0 < length ws → map string_bytes ws ≡ name_of ws ∷ map string_bytes (drop 1 ws)
whole [] h = absurd (omega (arith, h))
whole (w ∷ ws) h = refl

-- the name is the first word
pub name_at : (ws : List (String Global)) (w : String Global) → 0 < length ws → name_of ws ≡ string_bytes (get_or ws 0 w)
name_at [] w h = absurd (omega (arith, h))
name_at (v ∷ ws) w h = refl
