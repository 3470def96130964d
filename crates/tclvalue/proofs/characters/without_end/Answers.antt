use Rattle.std.proofs.Common.{sym, ap, ◌∙◌}
use Rattle.tclvalue.specs.Characters.{without_end}
use Rattle.tclvalue.proofs.CharacterLemmas.{end_among, end_other}
use Rattle.tclvalue.proofs.characters.without_end.Goals as goal

pub returns-then-not-is_among : goal.returns-then-not-is_among
returns-then-not-is_among c =
    c.in-Some.ensures.cases.0 ∙ sym (end_other c.args.set.now c.in-Some.before.now c.in-Some.last.now (sym c.is_among.ensures ∙ c.if-not-is_among.true))
    ∙ sym (ap (without_end c.args.set.now) c.in-Some.ensures.cases.0) ∙ c.loop-last.invariant

pub loop-last-preserved : goal.loop-last-preserved
loop-last-preserved c =
    sym (ap (without_end c.args.set.now) c.in-Some.ensures.cases.0 ∙ end_among c.args.set.now c.in-Some.before.now c.in-Some.last.now (sym c.is_among.ensures ∙ c.if-not-is_among.false))
    ∙ c.loop-last.invariant
