use Rattle.std.proofs.Common.{◌↔◌, Bool, IsTrue, subst, arith, rules}
use Rattle.std.specs.Str.{chars}
use Rattle.tcltext.specs.pattern.Patterns.{IsMatch}
use Rattle.tcltext.proofs.pattern.PlaceLemmas.{run-ends, run-more, run-none, steps_to_star-more, steps_to_star-star}
use Rattle.tcltext.proofs.pattern.position.read_to_star.Goals as goal

pub loop-first-preserved : goal.loop-first-preserved
loop-first-preserved c = record {
  text = search rules;
  same = run-more (chars c.loop-first.position.pattern.now) (chars c.loop-first.position.text.now) c.in-Some.first
      (chars c.in-Some.rest.now) c.in-Some-split_char.c (chars c.in-Some-split_char.text.now)
      (chars c.in-Some-after_char.pattern.now)
      (IsMatch (chars c.args.pattern.now) (chars c.args.text.now)) c.in-Some.ensures.characters
      c.in-Some-split_char.ensures.characters c.if-first-eq42.false c.in-Some-after_char.ensures.steps
      c.loop-first.invariant.same;
  steps_to_star = steps_to_star-more (chars c.loop-first.position.pattern.now) (chars c.loop-first.position.text.now)
      c.in-Some.first (chars c.in-Some.rest.now) c.in-Some-split_char.c (chars c.in-Some-split_char.text.now)
      (chars c.in-Some-after_char.pattern.now)
      (chars c.args.pattern.now) (chars c.args.text.now) c.in-Some.ensures.characters c.in-Some-split_char.ensures.characters c.in-Some-after_char.ensures.steps.0 c.loop-first.invariant.steps_to_star;
  no_longer = omega (arith, c.in-Some.ensures.shorter, c.in-Some-split_char.ensures.shorter, c.in-Some-after_char.ensures.no_longer);
}

pub returns-then-is_empty-clause-same : goal.returns-then-is_empty-clause-same
returns-then-is_empty-clause-same c =
    subst (λ (t : Bool). IsTrue t ↔ IsMatch (chars c.args.pattern.now) (chars c.args.text.now)) c.if-is_empty.true
    (run-ends c.loop-first.position.pattern.now c.loop-first.position.text.now (IsMatch (chars c.args.pattern.now) (chars c.args.text.now)) c.is_empty.result
    (search rules) c.loop-first.invariant.text.1 c.in_default.ensures.characters c.loop-first.invariant.same)

pub returns-else-is_empty-clause-same : goal.returns-else-is_empty-clause-same
returns-else-is_empty-clause-same c =
    subst (λ (t : Bool). IsTrue t ↔ IsMatch (chars c.args.pattern.now) (chars c.args.text.now)) c.if-is_empty.false
    (run-ends c.loop-first.position.pattern.now c.loop-first.position.text.now (IsMatch (chars c.args.pattern.now) (chars c.args.text.now)) c.is_empty.result
    (search rules) c.loop-first.invariant.text.1 c.in_default.ensures.characters c.loop-first.invariant.same)

pub returns-then-first-eq42-clause-steps_to_star : goal.returns-then-first-eq42-clause-steps_to_star
returns-then-first-eq42-clause-steps_to_star c =
    steps_to_star-star (chars c.loop-first.position.pattern.now) (chars c.loop-first.position.text.now) c.in-Some.first (chars c.in-Some.rest.now) (chars c.args.pattern.now) (chars c.args.text.now)
    c.in-Some.ensures.characters c.if-first-eq42.true c.loop-first.invariant.steps_to_star

pub returns-in_default-after_char-clause-same : goal.returns-in_default-after_char-clause-same
returns-in_default-after_char-clause-same c =
    run-none (chars c.loop-first.position.pattern.now) (chars c.loop-first.position.text.now) c.in-Some.first (chars c.in-Some.rest.now) c.in-Some-split_char.c (chars c.in-Some-split_char.text.now)
    (IsMatch (chars c.args.pattern.now) (chars c.args.text.now)) c.in-Some.ensures.characters
    c.in-Some-split_char.ensures.characters c.if-first-eq42.false c.in_default-after_char.ensures.steps
    c.loop-first.invariant.same
