use Rattle.std.proofs.Common.{arith, string_bytes}
use Rattle.module_collections.proofs.files.FoundLemmas.{long_refused, short_kept}
use Rattle.module_collections.proofs.files.read.short.Goals as goal

pub returns-then-len-gt-MAX_LENGTH-clause-answer : goal.returns-then-len-gt-MAX_LENGTH-clause-answer
returns-then-len-gt-MAX_LENGTH-clause-answer c = λ all h.
    long_refused c.args.path.now (string_bytes c.in_ok-path.path) all c.args.bytes.items h
    (omega (arith, c.if-len-gt-MAX_LENGTH.true, c.len.ensures, c.args.bytes.ok.0)) c.in_ok-path.ensures.ok

pub returns-clause-answer : goal.returns-clause-answer
returns-clause-answer c = λ all h.
    short_kept c.args.path.now all c.args.bytes.items h
    (omega (arith, c.if-len-gt-MAX_LENGTH.false, c.len.ensures, c.args.bytes.ok.0))
