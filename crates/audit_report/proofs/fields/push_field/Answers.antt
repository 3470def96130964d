use Rattle.std.proofs.Common.{◌≡◌, ◌++◌, encode_utf8}
use Rattle.std.specs.Str.Iter.{chars_rest}
use Rattle.std.proofs.lemmas.Str.{IsUtf8-past_char}
use Rattle.audit_report.proofs.FieldLemmas.{field_turn, field_end}
use Rattle.audit_report.proofs.fields.push_field.Goals as goal

pub loop-c-preserved : goal.loop-c-preserved
loop-c-preserved c =
    let before = chars_rest c.loop-c.c-iterator in
    let after = chars_rest c.next.new.self in
    let next : before ≡ encode_utf8 c.in-Some.c ++ after = c.in-Some.ensures.steps.0 in
    record {
      utf8 = IsUtf8-past_char before after c.in-Some.c c.loop-c.invariant.utf8 next;
      spelled = field_turn c.loop-c.report.items c.push_char.new.report.items _ before after c.in-Some.c c.loop-c.invariant.utf8 next c.in_ok-push_char.ensures c.loop-c.invariant.spelled;
    }

pub returns : goal.returns
returns c =
    field_end c.loop-c.report.items _ (chars_rest c.loop-c.c-iterator) c.in-None.ensures.steps.0.0 c.loop-c.invariant.spelled
