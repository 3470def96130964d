-- The first bytes of a file, as they are kept. For this crate's own contracts alone.
use Rattle.std.specs.Prelude.{ℕ, List, take}
use Rattle.filetree.specs.declared.prefix.Prefix.{Prefix}

-- the bytes in the room
abbrev pub prefix_bytes : Prefix → List ℕ
prefix_bytes prefix = take prefix.count prefix.room
