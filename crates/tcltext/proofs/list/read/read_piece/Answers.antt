use Rattle.std.proofs.Common.{◌++◌, ◌∷◌, [], length, ap, sym, subst, ◌∙◌, lit<, rules, string_bytes, encode_utf8}
use Rattle.tcltext.proofs.list.PieceTurns.{so_far-none, piece-ends, piece-last, piece-bad, piece-more, piece-shorter}
use Rattle.tcltext.proofs.list.PieceTurns.{PieceSoFar}
use Rattle.tcltext.proofs.list.read.read_piece.Goals as goal

pub loop-value-init : goal.loop-value-init
loop-value-init c = (
  c.utf8.text,
  subst (λ value. PieceSoFar c.args.end c.args.text.now value c.args.text.now) (sym c.new-value.ensures.bytes) (so_far-none c.args.end c.args.text.now),
)

pub returns-in_default : goal.returns-in_default
returns-in_default c =
    piece-ends c.args.end c.args.text.now (string_bytes c.loop-value.value) c.loop-value.rest.now c.split_literal.result.0.now c.split_literal.result.1.now (string_bytes c.push_str.new.self)
    c.split_literal.ensures.run c.split_literal.ensures.rest c.in_ok-push_str.ensures.bytes c.in_default.ensures c.loop-value.invariant.1

pub returns-then-is_empty : goal.returns-then-is_empty
returns-then-is_empty c =
    piece-last c.args.end c.args.text.now (string_bytes c.loop-value.value) c.loop-value.rest.now
    c.split_literal.result.0.now c.split_literal.result.1.now c.in-Some.following.now (string_bytes c.push.new.self)
    c.split_literal.ensures.run c.split_literal.ensures.rest c.in-Some.ensures (search rules)
    (c.in_ok-push.ensures.bytes ∙ ap (λ ys. string_bytes c.push_str.new.self ++ ys) (c.in_ok-push.ensures.ascii (lit< tt)) ∙ ap (λ ys. ys ++ 92 ∷ []) c.in_ok-push_str.ensures.bytes)
    c.loop-value.invariant.1

pub returns-in_default-read_backslash : goal.returns-in_default-read_backslash
returns-in_default-read_backslash c =
    piece-bad c.args.end c.args.text.now (string_bytes c.loop-value.value) c.loop-value.rest.now
    c.split_literal.result.0.now c.split_literal.result.1.now c.in-Some.following.now
    (length c.split_literal.result.1.now)
    c.split_literal.ensures.run c.split_literal.ensures.rest c.in-Some.ensures (search rules) (sym c.in_default-read_backslash.ensures) (search rules) c.loop-value.invariant.1

pub loop-value-smaller : goal.loop-value-smaller
loop-value-smaller c =
    piece-shorter c.args.end c.loop-value.rest.now c.split_literal.result.1.now c.in-Some.following.now (encode_utf8 c.in-Some-read_backslash.c) c.in-Some-read_backslash.after.now
    c.split_literal.ensures.rest c.in-Some.ensures (sym c.in-Some-read_backslash.ensures)

pub loop-value-preserved : goal.loop-value-preserved
loop-value-preserved c = (
  search rules,
  piece-more c.args.end c.args.text.now (string_bytes c.loop-value.value) c.loop-value.rest.now
      c.split_literal.result.0.now c.split_literal.result.1.now c.in-Some.following.now
      (encode_utf8 c.in-Some-read_backslash.c)
      c.in-Some-read_backslash.after.now (string_bytes c.push-in-loop-value.new.self) c.split_literal.ensures.run c.split_literal.ensures.rest c.in-Some.ensures (sym c.in-Some-read_backslash.ensures)
      (c.in_ok-push-2.ensures.bytes ∙ ap (λ ys. ys ++ encode_utf8 c.in-Some-read_backslash.c) c.in_ok-push_str.ensures.bytes) c.loop-value.invariant.1,
)
