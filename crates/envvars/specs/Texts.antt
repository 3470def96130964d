-- Texts of the code as contracts see them: lists of bytes (own).
use Rattle.std.specs.Prelude.{ℕ, Bool, List, map, bytes_eq, string_bytes}
use Rattle.std.specs.List.{list_any}
use Rattle.std.specs.Borrow.{Bor}
use Rattle.std.specs.declared.vec.Vec.{Vec}
use Rattle.std.specs.declared.string.String.{String}
use Rattle.std.specs.declared.alloc.Global.{Global}

-- a text is its bytes
abbrev pub Text : Type 0
Text = List ℕ

-- whether the text is one of the list
abbrev pub has : Text → List Text → Bool
has x xs = list_any (bytes_eq x) xs

-- the texts of borrowed slices
abbrev pub slice_texts : List (Bor Text) → List Text
slice_texts xs = map (λ x. x.now) xs

-- the texts of a vector of strings
abbrev pub texts_in : Vec (String Global) Global → List Text
texts_in v = map string_bytes v.items
