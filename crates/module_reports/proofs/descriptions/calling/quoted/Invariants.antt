use Rattle.std.proofs.Common.{◌≡◌, ◌++◌, string_bytes}
use Rattle.std.specs.Prelude.{IsUtf8}
use Rattle.std.specs.Str.Iter.{chars_rest}
use Rattle.module_reports.specs.descriptions.Calls.{quoted}
use Rattle.module_reports.proofs.descriptions.calling.quoted.Given as goal

-- what is written, and then what is left as it will be quoted, is the whole text
abbrev pub invariant-loop-c : goal.invariant-loop-c
invariant-loop-c l = record {
  utf8 : IsUtf8 (chars_rest l.c-iterator);
  written : string_bytes l.quoted ++ quoted (chars_rest l.c-iterator) ≡ quoted l.text;
}
