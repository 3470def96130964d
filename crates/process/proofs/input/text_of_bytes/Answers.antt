use Rattle.std.proofs.Common.{inr, refl, arith}
use Rattle.process.proofs.InputLemmas.{no_utf8}
use Rattle.process.proofs.input.text_of_bytes.Goals as goal

pub returns : goal.returns
returns c = (refl, inr (omega arith, no_utf8 c.args.bytes.items (λ is. c.in-Err.ensures.succeeds is)))
