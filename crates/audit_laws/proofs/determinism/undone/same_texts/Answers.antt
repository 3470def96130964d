use Rattle.std.proofs.Common.{◌≡◌, length, map, sym, ◌∙◌, arith, string_bytes}
use Rattle.std.specs.Prelude.{bytes_eq}
use Rattle.std.proofs.lemmas.List.{length-map}
use Rattle.audit_laws.proofs.determinism.Seen.{unlike_lengths}
use Rattle.audit_laws.proofs.determinism.undone.same_texts.Goals as goal

pub returns-then-one-other : goal.returns-then-one-other
returns-then-one-other c =
    let one = c.args.one.now in
    let other = c.args.other.now in
    sym (unlike_lengths bytes_eq (map string_bytes one) (map string_bytes other)
    (λ e. let same : length one ≡ length other = sym (length-map one string_bytes) ∙ (e ∙ length-map other string_bytes) in omega (arith, c.if-one-other.true)))
