use Rattle.std.proofs.Common.{◌≡◌, ◌++◌}
use Rattle.std.specs.Prelude.{IsUtf8}
use Rattle.std.specs.Str.Iter.{chars_rest}
use Rattle.audit_report.specs.Words.{spelled}
use Rattle.audit_report.proofs.fields.push_field.Given as goal

-- what is written, and then what is left as it will be spelled, is the whole text
abbrev pub invariant-loop-c : goal.invariant-loop-c
invariant-loop-c l = record {
  utf8 : IsUtf8 (chars_rest l.c-iterator);
  spelled : l.report.items ++ spelled (chars_rest l.c-iterator) ≡ l.fn.report.items ++ spelled l.fn.text;
}
