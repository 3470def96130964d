use Rattle.std.proofs.Common.{false, refl, rules}
use Rattle.std.specs.Str.{chars}
use Rattle.tcltext.specs.pattern.Search.Positions.{StarMatches}
use Rattle.tcltext.proofs.pattern.TextLemmas.{no_way}
use Rattle.tcltext.proofs.pattern.PlaceLemmas.{chars_none}
use Rattle.tcltext.proofs.pattern.PlainLemmas.{lead_plain, uniform-next, uniform-found, uniform-later, uniform-all}
use Rattle.tcltext.proofs.pattern.star.matches_uniform.Goals as goal

pub returns-in-Matches : goal.returns-in-Matches
returns-in-Matches c = uniform-found (chars c.loop-star.star.pattern.now) (chars c.loop-star.star.text.now) (StarMatches c.args.first) (c.in-Matches.ensures.same.0 refl) c.loop-star.invariant.same

pub loop-star-preserved-in-Some : goal.loop-star-preserved-in-Some
loop-star-preserved-in-Some c = record {
  text = search rules;
  uniform = c.loop-star.invariant.uniform;
  same = uniform-later (chars c.loop-star.star.pattern.now) (chars c.loop-star.star.text.now) c.in-Some.field-0-0 (chars c.in-Some.text.now) (StarMatches c.args.first)
      c.in-Some.ensures.characters (no_way false refl c.in-Differs.ensures.same) c.loop-star.invariant.same;
}

pub loop-star-preserved : goal.loop-star-preserved
loop-star-preserved c = record {
  text = c.in-Star.ensures.text;
  uniform = lead_plain c.in-Star.ensures.steps_to_star c.loop-star.invariant.uniform;
  same = uniform-next (chars c.loop-star.star.pattern.now) (chars c.loop-star.star.text.now) (chars c.in-Star.next.pattern.now) (chars c.in-Star.next.text.now) (StarMatches c.args.first)
      c.loop-star.invariant.uniform c.in-Star.ensures.steps_to_star c.in-Star.ensures.same c.loop-star.invariant.same;
}

pub returns : goal.returns
returns c = uniform-all (chars c.loop-star.star.pattern.now) (chars c.loop-star.star.text.now)
    (StarMatches c.args.first) (chars_none c.loop-star.star.pattern.now c.is_empty.result c.loop-star-test.false
    c.is_empty.ensures) c.loop-star.invariant.same
