-- The tree or the fault of a whole text, within the limits, as a function that computes.
use Rattle.std.specs.Prelude.{◌≤◌, length, Result}
use Rattle.tcltext.specs.chars.Runs.{Text}
use Rattle.tcltext.specs.chars.Whole.{whole_of}
use Rattle.tcltext.specs.chars.Faults.{max_bytes, max_nesting}
use Rattle.tcltext.specs.declared.chars.fault.TextFault.{TextFault}
use Rattle.tcltext.specs.script.Tree.{Commands, nesting}
use Rattle.tcltext.specs.script.Grammar.{IsScript}
use Rattle.tcltext.specs.script.Reading.{whole_script}

-- the text is a script with this tree, within the limits of length and nesting
abbrev pub IsWithin : Text → Commands → Type 0
IsWithin bs s = IsScript bs s × (nesting s ≤ max_nesting) × (length bs ≤ max_bytes)

-- the tree of a script, or what is wrong with the text
abbrev pub script_of : Text → Result Commands TextFault
script_of bs = whole_of (whole_script max_nesting) bs
