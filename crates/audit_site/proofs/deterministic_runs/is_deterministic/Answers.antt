use Rattle.std.proofs.Common.{◌≡◌, true, false, ◌&&◌, Bool, Option, Some, None, refl, ap, sym, ◌∙◌, map}
use Rattle.std.specs.Prelude.{is_none}
use Rattle.std.specs.Option.{is_some}
use Rattle.std.specs.List.{list_all}
use Rattle.modulefile.specs.RecordViews.{record_view}
use Rattle.requests.proofs.ListLemmas.{all_seen}
use Rattle.reversal.specs.VariableUses.{can_return}
use Rattle.audit_site.proofs.deterministic_runs.is_deterministic.Goals as goal

none_is : {X : Type 0} (o : Option X) → is_some o ≡ false → is_none o ≡ true
none_is None h = refl
none_is (Some x) h = absurd (cc)

pub returns-then-is_none : goal.returns-then-is_none
returns-then-is_none c =
    let rs = c.args.file.now.records.items in
    c.all_can_return.ensures
    ∙ (ap (list_all (λ r. can_return (record_view r))) c.as_slice.ensures.value
    ∙ (all_seen can_return record_view rs
    ∙ ap (λ (b : Bool). b && list_all can_return (map record_view rs)) (sym (none_is c.args.file.now.unkept c.if-is_none.ensures))))
