use Rattle.std.proofs.Common.{◌≡◌, ◌+◌, ◌<◌, ℕ, length, get_or, drop, Bool, refl, sym, ap, subst, ◌∙◌, arith}
use Rattle.std.proofs.lemmas.Str.{IsCharBoundary-before_ascii}
use Rattle.tcltext.specs.chars.Runs.{Text}
use Rattle.tcltext.specs.script.ScanState.{Comment, scan, skip_gap}
use Rattle.tcltext.proofs.script.Skips.{Commented, ends_small, commented-more, commented-stop, commented-all}
use Rattle.tcltext.proofs.script.runs.skip_comment.Goals as goal

pub loop-n-init : goal.loop-n-init
loop-n-init c = refl

pub loop-n-preserved : goal.loop-n-preserved
loop-n-preserved c =
    subst (λ (t : Bool). Commented c.as_bytes-bytes.result.now t (c.loop-n.n + 1)) (sym c.escapes_next-escaped.ensures)
    (commented-more c.as_bytes-bytes.result.now c.loop-n.escaped c.loop-n.n (omega arith) (sym c.ends_comment.ensures ∙ c.if-ends_comment.false) c.loop-n.invariant)

pub split_at-requires : goal.split_at-requires
split_at-requires c =
    let e = c.as_bytes-bytes.ensures.value in
    let small : get_or c.as_bytes-bytes.result.now c.loop-n.n 0 < 128 = ends_small
    (get_or c.as_bytes-bytes.result.now c.loop-n.n 0) c.loop-n.escaped
    (sym c.ends_comment.ensures ∙ c.if-ends_comment.true) in
    IsCharBoundary-before_ascii c.args.text.now c.loop-n.n (rw (← e) c.loop-n-test.true) (subst (λ (bs : Text). get_or bs c.loop-n.n 0 < 128) e small)

pub returns-then-ends_comment-clause-same : goal.returns-then-ends_comment-clause-same
returns-then-ends_comment-clause-same c =
    let e = c.as_bytes-bytes.ensures.value in
    subst (λ (bs : Text). (scan Comment bs).1 ≡ skip_gap (drop c.loop-n.n bs)) e
    (commented-stop c.as_bytes-bytes.result.now c.loop-n.escaped c.loop-n.n (omega arith) (sym c.ends_comment.ensures ∙ c.if-ends_comment.true) c.loop-n.invariant)
    ∙ ap skip_gap (sym c.split_at.ensures.back)

pub returns-clause-same : goal.returns-clause-same
returns-clause-same c =
    let bs = c.as_bytes-bytes.result.now in
    let end : c.loop-n.n ≡ length bs = omega arith in
    let found : (scan Comment bs).1 ≡ skip_gap (drop (length bs) bs) =
    commented-all bs c.loop-n.escaped c.loop-n.n (omega arith) c.loop-n.invariant ∙ ap (λ (n : ℕ). skip_gap (drop n bs)) end
    in
    subst (λ (bs : Text). (scan Comment bs).1 ≡ skip_gap (drop (length bs) bs)) c.as_bytes-bytes.ensures.value found ∙ ap skip_gap (sym c.split_at-2.ensures.back)
