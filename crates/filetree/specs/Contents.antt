-- The contents of a tree in memory, as the two maps that agree with it.
use Rattle.std.specs.Prelude.{map, string_bytes, vec_items}
use Rattle.std.specs.BTreeMap.{get_by_text}
use Rattle.std.specs.Option.{option_map}
use Rattle.filetree.specs.Agreement.{Files, Listings}
use Rattle.filetree.specs.declared.memory.MemoryTree.{MemoryTree}

-- the bytes of the file at each path
abbrev pub files_of : MemoryTree → Files
files_of tree path = option_map (λ bytes. vec_items bytes) (get_by_text tree.files path)

-- the names in the directory at each path
abbrev pub listings_of : MemoryTree → Listings
listings_of tree path = option_map (λ names. map string_bytes (vec_items names)) (get_by_text tree.listings path)
