use Rattle.std.proofs.Common.{sym, arith}
use Rattle.tcltext.proofs.chars.BackslashLemmas.{within_more, within_all, digit_below}
use Rattle.tcltext.proofs.chars.backslash.+hexadecimal.Goals as goal

pub overflow_mul-value : goal.overflow_mul-value
overflow_mul-value t c = let small = within_all c.args.digits c.args.value c.requires.1.1.0 c.requires.1.1.1 in omega arith

pub overflow_add-value : goal.overflow_add-value
overflow_add-value t c =
    let small = within_all c.args.digits c.args.value c.requires.1.1.0 c.requires.1.1.1 in
    let d = digit_below 16 c.args.text.now c.in-Some.d c.in-Some.rest.now (sym c.in-Some.ensures) in
    omega arith

pub hexadecimal-requires : goal.hexadecimal-requires
hexadecimal-requires t c =
    let d = digit_below 16 c.args.text.now c.in-Some.d c.in-Some.rest.now (sym c.in-Some.ensures) in
    (omega arith, (omega (arith, c.requires.1.1.0), within_more c.args.digits c.args.value c.in-Some.d c.requires.1.1.0 c.if-digits-eq0.false c.requires.1.1.1 d))

pub returns-in-None-clause-small : goal.returns-in-None-clause-small
returns-in-None-clause-small t c = within_all c.args.digits c.args.value c.requires.1.1.0 c.requires.1.1.1
