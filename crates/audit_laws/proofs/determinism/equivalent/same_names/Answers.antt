use Rattle.std.proofs.Common.{◌≡◌, length, sym, ◌∙◌, arith, Bor}
use Rattle.std.specs.Prelude.{bytes_eq}
use Rattle.std.proofs.lemmas.List.{length-map}
use Rattle.envvars.specs.Texts.{Text, slice_texts}
use Rattle.audit_laws.proofs.determinism.Seen.{unlike_lengths}
use Rattle.audit_laws.proofs.determinism.equivalent.same_names.Goals as goal

pub returns-then-one-other : goal.returns-then-one-other
returns-then-one-other c =
    let one = c.args.one.now in
    let other = c.args.other.now in
    sym (unlike_lengths bytes_eq (slice_texts one) (slice_texts other)
    (λ e. let same : length one ≡ length other = sym (length-map one (λ (t : Bor Text). t.now)) ∙ (e ∙ length-map other (λ (t : Bor Text). t.now)) in omega (arith, c.if-one-other.true)))
