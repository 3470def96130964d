use Rattle.std.proofs.Common.{[], rules}
use Rattle.std.specs.Str.{chars}
use Rattle.tcltext.specs.pattern.Search.Steps.{Run}
use Rattle.tcltext.proofs.pattern.TextLemmas.{no_way}
use Rattle.tcltext.proofs.pattern.RunLemmas.{none-same, none-more}
use Rattle.tcltext.proofs.pattern.halves.runs_none.Goals as goal

pub loop-pattern-preserved : goal.loop-pattern-preserved
loop-pattern-preserved c = record {
  utf8 = search rules;
  same = none-more (chars c.loop-pattern.pattern.now) c.in-Some.first (chars c.in-Some.rest.now) (chars c.args.to.now) (Run (chars c.args.from.now) [] (chars c.args.to.now))
      c.in-Some.ensures.characters c.if-first-ne42.false (no_way c.is_same.result c.loop-pattern-test.true c.is_same.ensures) c.loop-pattern.invariant.same;
}

pub returns : goal.returns
returns c = none-same (chars c.loop-pattern.pattern.now) (chars c.args.to.now)
    (Run (chars c.args.from.now) [] (chars c.args.to.now)) (c.is_same.ensures.0 c.loop-pattern-test.false)
    c.loop-pattern.invariant.same
