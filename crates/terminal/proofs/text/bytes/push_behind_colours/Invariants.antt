use Rattle.std.proofs.Common.{◌≡◌, ◌++◌, flat_map, string_bytes, take}
use Rattle.terminal.specs.columns.Views.{texts}
use Rattle.terminal.specs.text.Bytes.{behind_colour}
use Rattle.terminal.proofs.text.bytes.push_behind_colours.Given as goal

abbrev pub invariant-loop-part : goal.invariant-loop-part
invariant-loop-part l =
    string_bytes l.plain ≡ string_bytes l.initial.plain ++ flat_map behind_colour (texts (take l.part-index l.parts))
