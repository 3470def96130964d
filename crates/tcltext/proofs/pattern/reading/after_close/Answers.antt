use Rattle.std.proofs.Common.{◌∙◌, arith, rules}
use Rattle.std.specs.Str.{chars}
use Rattle.tcltext.proofs.pattern.SetLemmas.{after_close-more}
use Rattle.tcltext.proofs.pattern.reading.after_close.Goals as goal

pub loop-c-preserved : goal.loop-c-preserved
loop-c-preserved c = record {
  text = search rules;
  found = c.loop-c.invariant.found ∙ after_close-more (chars c.loop-c.rest.now) (chars c.in-Some.after.now) c.in-Some.c c.in-Some.ensures.characters c.if-c-eq93.false;
  no_longer = omega (arith, c.in-Some.ensures.shorter);
}
