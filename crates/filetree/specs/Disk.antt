-- A pair of maps that agrees with the cached answers of a disk, so that there always is one: each answer at its path,
-- and nothing elsewhere. For this crate's own contracts alone.
use Rattle.std.specs.Prelude.{◌≡◌, ℕ, Bool, List, map, Option, Some, String, bytes_eq, string_bytes, vec_items}
use Rattle.std.proofs.Common.{sym, subst}
use Rattle.std.specs.List.{list_any}
use Rattle.std.specs.declared.alloc.Global.{Global}
use Rattle.std.specs.declared.vec.Vec.{Vec}
use Rattle.filetree.specs.Agreement.{cached}
use Rattle.filetree.specs.Known.{Fits, fits, file_of, listing_of}
use Rattle.filetree.specs.declared.known.KnownPath.{KnownPath}

-- whether the device failed at a path, by the paths that were recorded
abbrev pub has_failed : Vec (String Global) Global → List ℕ → Bool
has_failed failed path = list_any (bytes_eq path) (map string_bytes (vec_items failed))

-- the file at a path: as is known, or else none
abbrev pub file_at : Option KnownPath → Option (List ℕ)
file_at = cached file_of

-- the names in the directory at a path: as is known, or else none
abbrev pub listing_at : Option KnownPath → Option (List (List ℕ))
listing_at = cached listing_of

-- what is at a path fits what is known of it
pub cached-fits : (had : Option KnownPath) (known : KnownPath) → had ≡ Some known
    → Fits known (file_at had) (listing_at had)
cached-fits had known e = subst (λ h. Fits known (file_at h) (listing_at h)) (sym e) (fits known)
