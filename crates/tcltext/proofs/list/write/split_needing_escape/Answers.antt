use Rattle.std.proofs.Common.{◌≡◌, ◌<◌, get_or, sym, arith, ℕ, List, ap, ◌∙◌}
use Rattle.std.proofs.lemmas.Str.{IsCharBoundary-after_ascii}
use Rattle.tcltext.proofs.list.WriteLemmas.{marked_ascii}
use Rattle.tcltext.proofs.list.write.split_needing_escape.Goals as goal

pub split_at-requires : goal.split_at-requires
split_at-requires c =
    let same : get_or c.args.text.now 0 0 ≡ get_or c.as_bytes.result.now 0 0 = ap (λ (bs : List ℕ). get_or bs 0 0) (sym c.as_bytes.ensures.value) in
    let small : get_or c.args.text.now 0 0 < 128 = rw same (marked_ascii _ (sym c.needs_escape.ensures ∙ c.if-needs_escape.true)) in
    IsCharBoundary-after_ascii c.args.text.now 0 c.utf8.text (rw (← c.as_bytes.ensures.value) (omega arith)) small
