use Rattle.std.proofs.Common.{◌≡◌, ◌++◌, encode_utf8, string_bytes}
use Rattle.std.specs.Str.Iter.{chars_rest}
use Rattle.std.proofs.lemmas.Str.{IsUtf8-past_char}
use Rattle.module_reports.proofs.descriptions.CallLemmas.{quoted_turn, quoted_end}
use Rattle.module_reports.proofs.descriptions.calling.quoted.Goals as goal

pub loop-c-preserved : goal.loop-c-preserved
loop-c-preserved c =
    let before = chars_rest c.loop-c.c-iterator in
    let after = chars_rest c.next.new.self in
    let next : before ≡ encode_utf8 c.in-Some.c ++ after = c.in-Some.ensures.steps.0 in
    record {
      utf8 = IsUtf8-past_char before after c.in-Some.c c.loop-c.invariant.utf8 next;
      written = quoted_turn (string_bytes c.loop-c.quoted) (string_bytes c.push_quoted.new.text) _ before after c.in-Some.c c.loop-c.invariant.utf8 next c.in_ok-push_quoted.ensures c.loop-c.invariant.written;
    }

pub returns : goal.returns
returns c =
    quoted_end (string_bytes c.loop-c.quoted) _ (chars_rest c.loop-c.c-iterator) c.in-None.ensures.steps.0.0 c.loop-c.invariant.written
