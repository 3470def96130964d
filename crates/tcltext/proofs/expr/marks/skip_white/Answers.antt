use Rattle.std.proofs.Common.{ap, sym, ◌∙◌}
use Rattle.tcltext.specs.expr.Marks.{after_white}
use Rattle.tcltext.proofs.expr.MarkLemmas.{white_more, white_end}
use Rattle.tcltext.proofs.expr.marks.skip_white.Goals as goal

pub loop-rest-preserved : goal.loop-rest-preserved
loop-rest-preserved c = (
  c.after_first-rest.utf8,
  c.loop-rest.invariant.1 ∙ white_more c.loop-rest.rest.now (sym c.begins_white.ensures ∙ c.loop-rest-test.true) ∙ ap after_white (sym c.after_first-rest.ensures),
)

pub returns : goal.returns
returns c = sym (c.loop-rest.invariant.1 ∙ white_end c.loop-rest.rest.now (sym c.begins_white.ensures ∙ c.loop-rest-test.false))
