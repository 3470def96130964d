use Rattle.std.proofs.Common.{rules}
use Rattle.std.specs.Str.{chars}
use Rattle.std.proofs.lemmas.Str.{chars-nil}
use Rattle.tcltext.specs.pattern.Patterns.{IsMatch}
use Rattle.tcltext.proofs.pattern.SetLemmas.{tail-more, tail-cons}
use Rattle.tcltext.proofs.pattern.TextLemmas.{no_way, remaining-more}
use Rattle.tcltext.proofs.pattern.RunLemmas.{whole_run}
use Rattle.tcltext.proofs.pattern.PlainLemmas.{tails-found, tails-none}
use Rattle.tcltext.proofs.pattern.halves.matches.Goals as goal

pub returns-then-runs : goal.returns-then-runs
returns-then-runs c =
    let whole = whole_run (chars c.args.pattern.now) c.loop-rest.rest.now _ c.runs.result c.loop-rest.invariant.utf8 chars-nil c.runs.ensures in
    tails-found (chars c.args.pattern.now) (chars c.args.text.now) (chars c.loop-rest.rest.now) c.loop-rest.invariant.tail (whole.0 c.if-runs.true)

pub returns-in-None : goal.returns-in-None
returns-in-None c =
    let whole = whole_run (chars c.args.pattern.now) c.loop-rest.rest.now _ c.runs.result c.loop-rest.invariant.utf8 chars-nil c.runs.ensures in
    tails-none (chars c.args.pattern.now) (chars c.args.text.now) (chars c.loop-rest.rest.now) c.in-None.ensures.characters (no_way c.runs.result c.if-runs.false whole) c.loop-rest.invariant.remaining

pub loop-rest-preserved : goal.loop-rest-preserved
loop-rest-preserved c =
    let whole = whole_run (chars c.args.pattern.now) c.loop-rest.rest.now _ c.runs.result c.loop-rest.invariant.utf8 chars-nil c.runs.ensures in
    record {
      utf8 = search rules;
      tail = tail-more (chars c.args.text.now) (chars c.loop-rest.rest.now) (chars c.in-Some.after.now)
          c.loop-rest.invariant.tail (tail-cons (chars c.loop-rest.rest.now) (chars c.in-Some.after.now)
          c.in-Some.field-0-0 c.in-Some.ensures.characters);
      remaining = remaining-more (IsMatch (chars c.args.pattern.now)) (chars c.args.text.now) (chars c.loop-rest.rest.now) c.in-Some.field-0-0 (chars c.in-Some.after.now)
          c.in-Some.ensures.characters (no_way c.runs.result c.if-runs.false whole) c.loop-rest.invariant.remaining;
    }
