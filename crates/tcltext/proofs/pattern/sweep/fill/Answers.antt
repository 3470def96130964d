use Rattle.std.proofs.Common.{◌+◌, ◌∙◌, refl, arith, rules}
use Rattle.std.specs.Str.{chars}
use Rattle.tcltext.proofs.pattern.RowLemmas.{filled-init, filled-more}
use Rattle.tcltext.proofs.pattern.sweep.fill.Goals as goal

pub loop-rest-init : goal.loop-rest-init
loop-rest-init c = record { utf8 = c.utf8.pattern; len = c.put.ensures.len; at = omega arith; filled = filled-init (chars c.args.pattern.now) c.put.new.states c.put.ensures.here }

pub loop-rest-preserved : goal.loop-rest-preserved
loop-rest-preserved c = record {
  utf8 = search rules;
  len = c.put-in-Some.ensures.len ∙ c.loop-rest.invariant.len;
  at = omega (arith, c.in-Some.ensures.shorter, c.loop-rest.invariant.at);
  filled = filled-more (chars c.args.pattern.now) (chars c.loop-rest.prefix.now) (chars c.in-Some.rest.now) c.loop-rest.states c.put-in-Some.new.states c.in-Some.p c.loop-rest.at (c.loop-rest.at + 1)
      c.loop-rest.stars c.are_stars-stars.result c.loop-rest.invariant.filled c.in-Some.ensures.characters refl c.are_stars-stars.ensures c.put-in-Some.ensures.here c.put-in-Some.ensures.elsewhere;
}
