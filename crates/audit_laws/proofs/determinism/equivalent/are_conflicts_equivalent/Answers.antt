use Rattle.std.proofs.Common.{ap, ◌∙◌}
use Rattle.std.specs.Prelude.{bytes_eq}
use Rattle.envvars.specs.Texts.{slice_texts}
use Rattle.audit_laws.specs.determinism.Contexts.{same_by}
use Rattle.audit_laws.proofs.determinism.equivalent.are_conflicts_equivalent.Goals as goal

pub returns : goal.returns
returns c =
    let one = ap slice_texts c.as_slice.ensures.value ∙ c.in_ok-one.ensures in
    let other = ap slice_texts c.as_slice-2.ensures.value ∙ c.in_ok-other.ensures in
    c.same_names.ensures ∙ (λ i. same_by bytes_eq (one i) (other i))
