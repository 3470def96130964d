use Rattle.std.proofs.Common.{◌++◌, ◌∷◌, [], ap, ◌∙◌, lit<, rules, string_bytes}
use Rattle.tcltext.specs.list.Lists.{letter_of}
use Rattle.tcltext.proofs.list.WriteLemmas.{escapes-end, escapes-more, escapes-shorter, letter_ascii}
use Rattle.tcltext.proofs.list.write.push_escapes.Goals as goal

pub returns-in_default : goal.returns-in_default
returns-in_default c =
    escapes-end (string_bytes c.loop-b.text) _ c.split_run.result.0.now c.loop-b.rest.now c.split_run.result.1.now _
    c.split_run.ensures.run c.split_run.ensures.rest c.in_default.ensures c.in_ok-push_str.ensures.bytes
    c.loop-b.invariant.1

pub loop-b-smaller : goal.loop-b-smaller
loop-b-smaller c = escapes-shorter c.loop-b.rest.now c.split_run.result.1.now c.in-Some.after.now c.in-Some.b c.split_run.ensures.rest c.in-Some.ensures.0

pub loop-b-preserved : goal.loop-b-preserved
loop-b-preserved c = (
  search rules,
  escapes-more (string_bytes c.loop-b.text) _ c.split_run.result.0.now c.loop-b.rest.now c.split_run.result.1.now
      c.in-Some.after.now _ c.in-Some.b c.split_run.ensures.run c.split_run.ensures.rest c.in-Some.ensures.0
      c.in-Some.ensures.1
      (c.in_ok-push-2.ensures.bytes
      ∙ ap (λ ys. string_bytes c.push.new.self ++ ys) (c.in_ok-push-2.ensures.ascii (rw c.letter_of.ensures (letter_ascii c.in-Some.b c.in-Some.ensures.1)) ∙ ap (λ l. l ∷ []) c.letter_of.ensures)
      ∙ ap (λ ys. ys ++ letter_of c.in-Some.b ∷ []) (c.in_ok-push.ensures.bytes ∙ ap
      (λ ys. string_bytes c.push_str.new.self ++ ys) (c.in_ok-push.ensures.ascii (lit< tt))
      ∙ ap (λ ys. ys ++ 92 ∷ []) c.in_ok-push_str.ensures.bytes))
      c.loop-b.invariant.1,
)
