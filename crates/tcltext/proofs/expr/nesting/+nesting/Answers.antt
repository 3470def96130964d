use Rattle.std.proofs.Common.{◌≡◌, ◌≤◌, ◌++◌, ◌∷◌, [], ◌+◌, take, map, length, sym, ap, subst, ◌∙◌, arith}
use Rattle.std.proofs.Math.Seq.{take-length}
use Rattle.std.proofs.lemmas.List.{take_more}
use Rattle.tcltext.specs.script.Tree.{nesting, words_nesting, word_nesting, parts_nesting, part_nesting, commands_of}
use Rattle.tcltext.specs.script.View.{command_view, word_view, part_view, parts_view}
use Rattle.tcltext.specs.expr.View.{words_view}
use Rattle.tcltext.proofs.expr.Heights.{max_of, Tallest, tallest_more, parts_step, words_step, commands_step}
use Rattle.tcltext.proofs.expr.Heights.{words_of_command, word_height, script_height}
use Rattle.tcltext.proofs.expr.nesting.+nesting.Goals as goal

pub parts_nesting-loop-part-preserved : goal.parts_nesting-loop-part-preserved
parts_nesting-loop-part-preserved g t c = λ shown less.
    let items = c.deref-part-items.result.now in
    let i = c.loop-part.part-index in
    let e : take (i + 1) items ≡ take i items ++ c.part-item.result ∷ [] = take_more items i c.part-item.result (omega arith) ∙ ap (λ x. take i items ++ x ∷ []) (sym c.part-item.is) in
    let k = tallest_more 18446744073709551615 c.loop-part.height c.part_nesting.result (parts_nesting (parts_view shown (take i items))) (part_nesting (part_view shown c.part-item.result))
    (parts_nesting (parts_view shown (take (i + 1) items)))
    (parts_step shown (take i items) (take (i + 1) items) c.part-item.result e) (c.loop-part.invariant shown)
    (c.part_nesting.ensures shown) less in
    c.max-height.ensures ∙ max_of _ _ ∙ k

pub parts_nesting-returns : goal.parts_nesting-returns
parts_nesting-returns g t c = λ shown less.
    let items = c.deref-part-items.result.now in
    let same : c.loop-part.part-index ≡ length items = omega arith in
    let all : take c.loop-part.part-index items ≡ c.args.parts.now.items = ap (λ n. take n items) same ∙ take-length items ∙ c.deref-part-items.ensures.value in
    subst (λ xs. Tallest 18446744073709551615 c.loop-part.height (parts_nesting (parts_view shown xs))) all (c.loop-part.invariant shown) less

pub script_nesting-loop-command-preserved : goal.script_nesting-loop-command-preserved
script_nesting-loop-command-preserved g t c = λ shown less.
    let items = c.deref-command-items.result.now in
    let i = c.loop-command.command-index in
    let e : take (i + 1) items ≡ take i items ++ c.command-item.result ∷ [] = take_more items i c.command-item.result (omega arith) ∙ ap (λ x. take i items ++ x ∷ []) (sym c.command-item.is) in
    let k = tallest_more 18446744073709551615 c.loop-command.height c.words_nesting.result
    (nesting (commands_of (map (command_view shown) (take i items))))
    (words_nesting (command_view shown c.command-item.result).words)
    (nesting (commands_of (map (command_view shown) (take (i + 1) items))))
    (commands_step shown (take i items) (take (i + 1) items) c.command-item.result e)
    (c.loop-command.invariant shown) (subst (Tallest 18446744073709551615 c.words_nesting.result)
    (ap words_nesting (sym (words_of_command shown c.command-item.result))) (c.words_nesting.ensures shown)) less in
    c.max-height.ensures ∙ max_of _ _ ∙ k

pub script_nesting-returns : goal.script_nesting-returns
script_nesting-returns g t c = λ shown less.
    let items = c.deref-command-items.result.now in
    let same : c.loop-command.command-index ≡ length items = omega arith in
    let all : take c.loop-command.command-index items ≡ items = ap (λ n. take n items) same ∙ take-length items in
    let k = subst (λ xs. Tallest 18446744073709551615 c.loop-command.height
    (nesting (commands_of (map (command_view shown) xs)))) (all ∙ c.deref-command-items.ensures.value)
    (c.loop-command.invariant shown) in
    let e = script_height shown c.args.script.now in
    k (subst (λ n. n ≤ 18446744073709551615) e less) ∙ sym e

pub words_nesting-loop-word-preserved : goal.words_nesting-loop-word-preserved
words_nesting-loop-word-preserved g t c = λ shown less.
    let items = c.deref-word-items.result.now in
    let i = c.loop-word.word-index in
    let e : take (i + 1) items ≡ take i items ++ c.word-item.result ∷ [] = take_more items i c.word-item.result (omega arith) ∙ ap (λ x. take i items ++ x ∷ []) (sym c.word-item.is) in
    let k = tallest_more 18446744073709551615 c.loop-word.height c.content_nesting.result (words_nesting (words_view shown (take i items))) (word_nesting (word_view shown c.word-item.result))
    (words_nesting (words_view shown (take (i + 1) items)))
    (words_step shown (take i items) (take (i + 1) items) c.word-item.result e) (c.loop-word.invariant shown)
    (subst (Tallest 18446744073709551615 c.content_nesting.result) (sym (word_height shown c.word-item.result))
    (c.content_nesting.ensures shown)) less in
    c.max-height.ensures ∙ max_of _ _ ∙ k
