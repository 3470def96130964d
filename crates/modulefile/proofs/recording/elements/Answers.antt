use Rattle.std.proofs.Common.{string_bytes, ap, ◌∙◌, ◌++◌, ◌+◌, drop}
use Rattle.envvars.specs.Texts.{slice_texts, texts_in}
use Rattle.envstate.specs.paths.PathTexts.{split_elements}
use Rattle.modulefile.proofs.CutLemmas.{split_next, cut_on}
use Rattle.modulefile.proofs.recording.elements.Goals as goal

pub loop-value-preserved : goal.loop-value-preserved
loop-value-preserved c =
    cut_on c.args.delim.character (texts_in c.loop-value.elements) (texts_in c.push_copies.new.elements) (slice_texts c.in_ok-parts.parts.items) (string_bytes c.value-item.result)
    (drop c.loop-value.value-index c.args.values.now) (drop (c.loop-value.value-index + 1) c.args.values.now) _
    (split_next c.args.values.now c.loop-value.value-index c.value-item.result c.loop-value-test.true c.value-item.is)
    (c.in_ok-push_copies.ensures ∙ ap (λ xs. texts_in c.loop-value.elements ++ slice_texts xs) c.as_slice.ensures.value)
    (c.in_ok-parts.ensures ∙ ap (split_elements c.args.delim.character) c.as_str.ensures.value)
    c.loop-value.invariant
