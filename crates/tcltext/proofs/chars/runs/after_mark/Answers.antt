use Rattle.std.proofs.Common.{◌≡◌, ◌<◌, get_or, sym, arith, ℕ, List, ap, ◌∙◌}
use Rattle.std.proofs.lemmas.Str.{IsCharBoundary-after_ascii}
use Rattle.tcltext.proofs.chars.runs.after_mark.Goals as goal

pub split_at-requires : goal.split_at-requires
split_at-requires c =
    let first : get_or c.args.text.now 0 0 ≡ c.args.mark = ap (λ (bs : List ℕ). get_or bs 0 0) (sym c.as_bytes.ensures.value) ∙ c.if-b-mark.true in
    let small : get_or c.args.text.now 0 0 < 128 = omega arith in
    IsCharBoundary-after_ascii c.args.text.now 0 c.utf8.text (rw (← c.as_bytes.ensures.value) (omega arith)) small
