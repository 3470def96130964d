use Rattle.std.proofs.Common.{◌≡◌, length, map, sym, ◌∙◌, arith}
use Rattle.std.proofs.lemmas.List.{length-map}
use Rattle.audit_laws.specs.determinism.Contexts.{same_record}
use Rattle.audit_laws.specs.determinism.ContextViews.{undone_view}
use Rattle.audit_laws.proofs.determinism.Seen.{unlike_lengths}
use Rattle.audit_laws.proofs.determinism.undone.are_same.Goals as goal

pub returns-then-one-other : goal.returns-then-one-other
returns-then-one-other c =
    let one = c.args.one.now in
    let other = c.args.other.now in
    sym (unlike_lengths same_record (map undone_view one) (map undone_view other)
    (λ e. let same : length one ≡ length other = sym (length-map one undone_view) ∙ (e ∙ length-map other undone_view) in omega (arith, c.if-one-other.true)))
