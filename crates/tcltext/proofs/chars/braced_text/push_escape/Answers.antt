use Rattle.std.proofs.Common.{ap, ◌∙◌, arith, string_bytes, ◌++◌, length}
use Rattle.tcltext.specs.chars.Backslash.{is_blank_or_tab}
use Rattle.std.proofs.lemmas.Str.{encode_ascii}
use Rattle.tcltext.proofs.chars.BracedTextLemmas.{escaped_newline, back_no_longer}
use Rattle.tcltext.proofs.chars.braced_text.push_escape.Goals as goal

pub returns-in-Some-clause-text : goal.returns-in-Some-clause-text
returns-in-Some-clause-text c = escaped_newline (string_bytes c.args.value.now) (string_bytes c.push.new.self)
    c.args.after.now c.in-Some.next.now c.split_run.result.1.now
    (c.in_ok-push.ensures.bytes ∙ ap (λ xs. string_bytes c.args.value.now ++ xs) (encode_ascii 32 (omega arith)))
    c.in-Some.ensures c.split_run.ensures.rest

pub returns-in-Some-clause-shorter : goal.returns-in-Some-clause-shorter
returns-in-Some-clause-shorter c =
    let less = back_no_longer is_blank_or_tab c.in-Some.next.now in
    omega (arith, ap length c.split_run.ensures.rest, ap length c.in-Some.ensures, less)
