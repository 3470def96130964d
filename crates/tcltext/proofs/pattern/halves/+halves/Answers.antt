use Rattle.std.proofs.Common.{rules}
use Rattle.std.specs.Str.{chars}
use Rattle.tcltext.specs.pattern.Search.Steps.{RunsBy}
use Rattle.tcltext.proofs.pattern.TextLemmas.{no_way, remaining-more}
use Rattle.tcltext.proofs.pattern.RunLemmas.{halves-found, halves-none}
use Rattle.tcltext.proofs.pattern.halves.+halves.Goals as goal

pub runs-returns-then-runs_by : goal.runs-returns-then-runs_by
runs-returns-then-runs_by t c =
    halves-found (chars c.args.from.now) (chars c.args.text.now) (chars c.loop-middle.middle.now) c.args.count (chars c.args.to.now) (c.runs_by.ensures.0 c.if-runs_by.true)

pub runs-returns-in-None : goal.runs-returns-in-None
runs-returns-in-None t c =
    halves-none (chars c.args.from.now) (chars c.args.text.now) (chars c.loop-middle.middle.now) c.args.count (chars c.args.to.now)
    c.in-None.ensures.characters (no_way c.runs_by.result c.if-runs_by.false c.runs_by.ensures) c.loop-middle.invariant.remaining

pub runs-loop-middle-preserved : goal.runs-loop-middle-preserved
runs-loop-middle-preserved t c = record {
  utf8 = search rules;
  remaining = remaining-more (λ ms. RunsBy (chars c.args.from.now) (chars c.args.text.now) ms c.args.count
      (chars c.args.to.now)) (chars c.args.from.now) (chars c.loop-middle.middle.now) c.in-Some.field-0-0
      (chars c.in-Some.rest.now)
      c.in-Some.ensures.characters (no_way c.runs_by.result c.if-runs_by.false c.runs_by.ensures) c.loop-middle.invariant.remaining;
}
