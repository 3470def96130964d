-- A default file has one result, since its evaluation has one outcome (own).
use Rattle.std.proofs.Common.{◌≡◌, Option, ◌∙◌, sym, subst}
use Rattle.modulename.specs.ModuleName.{Text}
use Rattle.tclrules.specs.Derivation.{World}
use Rattle.tclrules.specs.declared.limits.Limits.{Limits}
use Rattle.tclrules.proofs.Outcomes.{one_outcome}
use Rattle.search.specs.DefaultFiles.{DefaultFileResult}
use Rattle.lookup.specs.DefaultFileResults.{result_of, HasResult}

pub one_result : (limits : Limits) (path text : Text) (o p : Option DefaultFileResult) → HasResult limits path text o
    → HasResult limits path text p → o ≡ p
one_result limits path text o p (out, w, d, h) (out2, w2, d2, k) =
    let same = one_outcome d d2 in
    subst (λ x. o ≡ result_of x w2.trace) same.0 (subst (λ (v : World). o ≡ result_of out v.trace) same.1 h) ∙ sym k
