-- The scripts that loops evaluate in each turn. Own.
use Rattle.std.specs.Prelude.{◌≡◌, Option, None, Some, Ok, string_bytes}
use Rattle.std.specs.declared.alloc.Global.{Global}
use Rattle.std.specs.declared.rc.Rc.{Rc}
use Rattle.tcltext.specs.chars.Runs.{Text}
use Rattle.tcltext.specs.script.Text.{script_of}
use Rattle.tcltext.specs.script.Owned.{owned_view}
use Rattle.tcltext.specs.declared.script.owned.OwnedScript.{OwnedScript}
use Rattle.tcleval.specs.declared.loop_body.LoopBody.{LoopBody}

-- a tree that was parsed already, if one was, is that of this text as a script, which it has
abbrev pub IsTreeOf : Text → Option (Rc OwnedScript Global) → Type 0
IsTreeOf text None = Unit {0}
IsTreeOf text (Some tree) = (script_of text ≡ Ok (owned_view tree.value)) × (string_bytes tree.value.text ≡ text)

-- the tree of a body, once it was parsed, is that of its text
abbrev pub HasItsTree : LoopBody → Type 0
HasItsTree body = IsTreeOf body.text.now body.parsed

-- the same body after a turn, where its tree may have come
abbrev pub IsSameBody : LoopBody → LoopBody → Type 0
IsSameBody old new = (new.text.now ≡ old.text.now) × HasItsTree new
