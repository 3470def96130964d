use Rattle.std.proofs.Common.{◌+◌, ◌∙◌, refl, arith, rules}
use Rattle.std.specs.Str.{chars}
use Rattle.tcltext.proofs.pattern.RowLemmas.{ends-states, swept-init, swept-matches_without, swept-more, swept-whole}
use Rattle.tcltext.proofs.pattern.RowLemmas.{swept-states}
use Rattle.tcltext.proofs.pattern.sweep.sweep.Goals as goal

pub loop-rest-init : goal.loop-rest-init
loop-rest-init c = record {
  utf8 = c.utf8.pattern;
  len = c.put.ensures.len;
  at = omega arith;
  swept = λ cs r. swept-init (chars c.args.pattern.now) cs c.args.states.now c.put.new.states c.args.c c.at_end-window.result r
      (c.at_end-window.ensures c.args.c cs (ends-states (chars c.args.pattern.now) cs c.args.states.now c.has-ends.result c.has-ends.ensures r)) c.put.ensures.here c.put.ensures.elsewhere;
}

pub loop-rest-preserved : goal.loop-rest-preserved
loop-rest-preserved c = record {
  utf8 = search rules;
  len = c.put-in-Some.ensures.len ∙ c.loop-rest.invariant.len;
  at = omega (arith, c.in-Some.ensures.shorter, c.loop-rest.invariant.at);
  swept = λ cs r.
      (let s = c.loop-rest.invariant.swept cs r in
      let matches_without = swept-matches_without (chars c.args.pattern.now) (chars c.loop-rest.prefix.now)
      (chars c.in-Some.rest.now) c.loop-rest.states c.in-Some.p c.loop-rest.at (c.loop-rest.at + 1) c.args.c cs
      c.loop-rest.window c.has-matches_without.result
      s c.in-Some.ensures.characters refl c.has-matches_without.ensures in
      swept-more (chars c.args.pattern.now) (chars c.loop-rest.prefix.now) (chars c.in-Some.rest.now) c.loop-rest.states
      c.put-in-Some.new.states c.in-Some.p c.loop-rest.at (c.loop-rest.at + 1) c.args.c cs c.loop-rest.window
      c.before-window.result
      s c.in-Some.ensures.characters refl (c.before-window.ensures s.qs cs s.knows matches_without) c.put-in-Some.ensures.here c.put-in-Some.ensures.elsewhere);
}

pub returns-clause-states : goal.returns-clause-states
returns-clause-states c cs r =
    swept-states (chars c.args.pattern.now) (chars c.loop-rest.prefix.now) c.loop-rest.states c.loop-rest.at c.args.c cs
    c.loop-rest.window c.in_default.ensures.characters (c.loop-rest.invariant.swept cs r)

pub returns-clause-whole : goal.returns-clause-whole
returns-clause-whole c cs r =
    swept-whole (chars c.args.pattern.now) (chars c.loop-rest.prefix.now) c.loop-rest.states c.loop-rest.at c.args.c cs
    c.loop-rest.window c.in_default.ensures.characters (c.loop-rest.invariant.swept cs r)
