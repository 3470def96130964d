use Rattle.std.proofs.Common.{◌∙◌, sym, arith, rules}
use Rattle.std.specs.Str.{chars}
use Rattle.tcltext.specs.pattern.Search.View.{item_view}
use Rattle.tcltext.proofs.pattern.SetLemmas.{holds_as-here, holds_as-more}
use Rattle.tcltext.proofs.pattern.reading.after_set.Goals as goal

pub returns-then-is_between-clause-holds : goal.returns-then-is_between-clause-holds
returns-then-is_between-clause-holds c =
    holds_as-here c.args.c (chars c.args.set.now) (chars c.loop-item.rest.now) (chars c.after_close.result.now) (item_view c.in-Some.item)
    (sym c.in-Some.ensures.item) (sym c.is_between.ensures ∙ c.if-is_between.true) c.after_close.ensures.rest c.loop-item.invariant.holds

pub loop-item-preserved : goal.loop-item-preserved
loop-item-preserved c = record {
  text = search rules;
  holds = holds_as-more c.args.c (chars c.args.set.now) (chars c.loop-item.rest.now) (item_view c.in-Some.item)
      (sym c.in-Some.ensures.item) (sym c.is_between.ensures ∙ c.if-is_between.false) c.loop-item.invariant.holds;
  no_longer = omega (arith, c.in-Some.ensures.shorter);
}
