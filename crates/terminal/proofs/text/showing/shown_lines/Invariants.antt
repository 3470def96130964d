use Rattle.std.proofs.Common.{◌≡◌, ◌++◌, string_bytes}
use Rattle.std.specs.Prelude.{IsUtf8}
use Rattle.std.specs.Str.Iter.{chars_rest}
use Rattle.terminal.specs.text.Shown.{shown_lines}
use Rattle.terminal.proofs.text.showing.shown_lines.Given as goal

-- what is written, and then what is left as it will be shown, is the whole text
abbrev pub invariant-loop-c : goal.invariant-loop-c
invariant-loop-c l = record {
  utf8 : IsUtf8 (chars_rest l.c-iterator);
  written : string_bytes l.seen ++ shown_lines (chars_rest l.c-iterator) ≡ shown_lines l.text;
}
