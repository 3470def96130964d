use Rattle.std.proofs.Common.{◌++◌, ap, ◌∙◌, add-one, sym}
use Rattle.std.specs.List.{repeat}
use Rattle.tclvalue.proofs.IndexLemmas.{repeat_more}
use Rattle.tclvalue.proofs.texts.copies.Goals as goal

pub loop-preserved : goal.loop-preserved
loop-preserved c =
    c.in_ok-push_str.ensures.bytes ∙ ap (λ t. t ++ c.args.text.now) c.loop.invariant ∙ repeat_more c.loop.counter c.args.text.now
    ∙ ap (λ n. repeat n c.args.text.now) (sym (add-one c.loop.counter))
