-- The tree of a script that owns its text.
use Rattle.std.specs.Prelude.{string_bytes}
use Rattle.tcltext.specs.script.Tree.{Commands}
use Rattle.tcltext.specs.script.Pieces.{between}
use Rattle.tcltext.specs.script.View.{script_view}
use Rattle.tcltext.specs.declared.script.owned.OwnedScript.{OwnedScript}

-- the tree, where a range shows its text
abbrev pub owned_view : OwnedScript → Commands
owned_view o = script_view (λ range. between (string_bytes o.text) range.start range.end) o.script
