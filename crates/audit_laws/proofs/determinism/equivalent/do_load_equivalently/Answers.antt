use Rattle.std.proofs.Common.{◌≡◌, ◌&&◌, Bool, true, map, ap, sym, ◌∙◌}
use Rattle.std.specs.Prelude.{bytes_eq}
use Rattle.std.specs.List.{list_all}
use Rattle.std.proofs.lemmas.Result.{IfOk-weaker}
use Rattle.modulefile.specs.Records.{conflict_names}
use Rattle.modulefile.specs.RecordViews.{record_view}
use Rattle.reversal.specs.VariableUses.{can_return, absent_in}
use Rattle.audit_laws.specs.determinism.Contexts.{same_by}
use Rattle.audit_laws.proofs.determinism.Seen.{all_seen}
use Rattle.audit_laws.proofs.determinism.equivalent.do_load_equivalently.Goals as goal

pub returns-then-not-all_can_return : goal.returns-then-not-all_can_return
returns-then-not-all_can_return c =
    let rs = map record_view c.args.first.now in
    let qs = map record_view c.args.records.now in
    ap (λ (b : Bool). b && (same_by bytes_eq (absent_in rs) (absent_in qs) && same_by bytes_eq (conflict_names rs) (conflict_names qs)))
    (sym c.if-not-all_can_return.true ∙ (c.all_can_return.ensures ∙ all_seen can_return record_view c.args.records.now))

pub returns : goal.returns
returns c =
    let rs = map record_view c.args.first.now in
    let qs = map record_view c.args.records.now in
    let back : true ≡ list_all can_return qs = sym c.if-not-all_can_return.false ∙ (c.all_can_return.ensures ∙ all_seen can_return record_view c.args.records.now) in
    let absent : true ≡ same_by bytes_eq (absent_in rs) (absent_in qs) = sym c.if-not-branch.false ∙ c.in_ok-are_absent_equivalent.ensures in
    IfOk-weaker c.are_conflicts_equivalent.result _ _
    (λ alike e. e ∙ (λ i. back i && (absent i && same_by bytes_eq (conflict_names rs) (conflict_names qs)))) c.are_conflicts_equivalent.ensures
