use Rattle.std.proofs.Common.{◌≡◌, ℕ, List, suc, drop, get_or, string_bytes, String, ap, ◌∙◌}
use Rattle.std.specs.List.{flat_map}
use Rattle.std.specs.declared.alloc.Global.{Global}
use Rattle.modulecmd.proofs.WriterLemmas.{part_more, piece_at, on_err}
use Rattle.modulecmd.proofs.writers.write_texts.Goals as goal

pub returns-in_err-write_bytes-clause-cut : goal.returns-in_err-write_bytes-clause-cut
returns-in_err-write_bytes-clause-cut g c =
    let bytes : String Global → List ℕ = λ text. string_bytes text in
    let same : c.as_bytes.result.now ≡ bytes (get_or c.args.texts.now c.loop-text.text-index c.text-item.result) = c.as_bytes.ensures.value ∙ (c.as_str.ensures.value ∙ ap bytes c.text-item.is) in
    let part = rw same at c.in_err-write_bytes.ensures.cut in
    let later = flat_map bytes (drop (suc c.loop-text.text-index) c.args.texts.now) in
    rw (piece_at bytes c.args.texts.now c.loop-text.text-index c.text-item.result c.loop-text-test.true)
    (on_err _ _ (part_more (g.W.Write.contents c.args.to.now) (g.W.Write.contents c.loop-text.to) (g.W.Write.contents c.write_bytes.new.to) _ _ later c.loop-text.invariant part))
