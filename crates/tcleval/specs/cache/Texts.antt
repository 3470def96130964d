-- What the texts of the program stand for. Own.
use Rattle.std.specs.Prelude.{◌≡◌, List, map, string_bytes, String}
use Rattle.std.specs.declared.alloc.Global.{Global}
use Rattle.std.specs.declared.rc.Rc.{Rc}
use Rattle.tcleval.specs.cache.Trees.{Trees, bytes_of, AreLimited}
use Rattle.tcleval.specs.declared.cache.texts.Texts.TheInside.{Inside}

-- the entries of the map
abbrev pub entries_view : {T : Type 0} → List (String Global × Rc T Global) → Trees T
entries_view es = map (λ e. (string_bytes e.0, e.1.value)) es

abbrev pub texts_view : {T : Type 0} → Inside T → Trees T
texts_view t = entries_view t.made.entries

-- the texts are within the limits, and their bytes are counted
pub record IsCounted {T : Type 0} (t : Inside T) : Type 0 where
  pub limited : AreLimited (texts_view t)
  pub counted : t.bytes ≡ bytes_of (texts_view t)
