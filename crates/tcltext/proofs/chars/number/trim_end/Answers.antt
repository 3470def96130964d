use Rattle.std.proofs.Common.{sym, ◌∙◌, arith}
use Rattle.tcltext.proofs.chars.NumberLemmas.{trim-more, trim-stop}
use Rattle.tcltext.proofs.chars.number.trim_end.Goals as goal

pub returns-then-not-is_space : goal.returns-then-not-is_space
returns-then-not-is_space c = sym (c.loop-rest.invariant ∙ trim-stop c.loop-rest.rest.now (omega arith) (sym c.is_space.ensures ∙ c.if-not-is_space.true))

pub loop-rest-preserved : goal.loop-rest-preserved
loop-rest-preserved c = c.loop-rest.invariant ∙ trim-more c.loop-rest.rest.now (omega arith) (sym c.is_space.ensures ∙ c.if-not-is_space.false)
