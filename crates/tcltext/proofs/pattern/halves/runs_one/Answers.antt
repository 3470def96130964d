use Rattle.std.proofs.Common.{[], ◌∷◌, rules}
use Rattle.std.specs.Str.{chars}
use Rattle.tcltext.specs.pattern.Search.Steps.{Run}
use Rattle.tcltext.proofs.pattern.TextLemmas.{no_way}
use Rattle.tcltext.proofs.pattern.RunLemmas.{one-found, one-more}
use Rattle.tcltext.proofs.pattern.halves.runs_one.Goals as goal

pub returns-then-runs_none : goal.returns-then-runs_none
returns-then-runs_none c =
    one-found (chars c.loop-first.pattern.now) c.in-Some.first (chars c.in-Some.rest.now) c.args.c (chars c.args.to.now) (Run (chars c.args.from.now) (c.args.c ∷ []) (chars c.args.to.now))
    c.in-Some.ensures.characters c.if-first-ne42.false (c.runs_none.ensures.0 c.if-runs_none.true) c.loop-first.invariant.same

pub loop-first-preserved : goal.loop-first-preserved
loop-first-preserved c = record {
  utf8 = search rules;
  same = one-more (chars c.loop-first.pattern.now) c.in-Some.first (chars c.in-Some.rest.now) c.args.c (chars c.args.to.now) (Run (chars c.args.from.now) (c.args.c ∷ []) (chars c.args.to.now))
      c.in-Some.ensures.characters c.if-first-ne42.false (no_way c.runs_none.result c.if-runs_none.false c.runs_none.ensures) c.loop-first.invariant.same;
}
