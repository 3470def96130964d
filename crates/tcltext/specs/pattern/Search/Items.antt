-- Sets as they are read: item by item.
use Rattle.std.specs.Prelude.{ℕ, List, [], ◌∷◌, ◌==◌, if◌then◌else◌, Option, Some, None}
use Rattle.tcltext.specs.pattern.Patterns.{close_bracket, dash}

-- an item: its two ends, which are the same for a character alone, and the pattern after it
pub record Item : Type 0 where
  pub low : ℕ
  pub high : ℕ
  pub rest : List ℕ

-- the range from a character to the next, after the dash
abbrev pub range_at : ℕ → List ℕ → Option Item
range_at low [] = None
range_at low (high ∷ ps) = Some (record { low = low; high = high; rest = ps })

-- the item that begins with this character
abbrev pub item_from : ℕ → List ℕ → Option Item
item_from low [] = Some (record { low = low; high = low; rest = [] })
item_from low (d ∷ ps) = if d == dash then range_at low ps else Some (record { low = low; high = low; rest = d ∷ ps })

-- the item that the remainder of a set begins with
abbrev pub item_at : List ℕ → Option Item
item_at [] = None
item_at (low ∷ ps) = if low == close_bracket then None else item_from low ps
