use Rattle.std.proofs.Common.{◌≡◌, length, arith, false, refl}
use Rattle.std.specs.Prelude.{nat_lt}
use Rattle.std.proofs.lemmas.Bool.Decides.{nat_tests}
use Rattle.tclforms.specs.substitution.Machine.{range_text}
use Rattle.tcleval.proofs.Running.{word_content}
use Rattle.tcleval.proofs.literals.literal_text.Goals as goal

pub returns : goal.returns
returns c = λ remaining s k.
    let within : nat_lt c.args.limits.value_bytes (length c.of-text.result.now) ≡ false = grind (arith, nat_tests, c.if-text-limits.false) in
    rw (word_content (range_text c.args.source.now) c.args.word.now, c.if-word.false, c.in_ok-literal.ensures c.args.source.now, ← c.of-text.ensures, within) refl
