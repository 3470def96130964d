use Rattle.std.proofs.Common.{◌≡◌, ◌∙◌, Some, None, cond, false, find, map, not, sym, ap, Bool}
use Rattle.std.proofs.lemmas.Result.{IfOk-weaker}
use Rattle.modulefile.specs.RecordViews.{record_view}
use Rattle.modulefile.specs.Records.{Record}
use Rattle.reversal.specs.VariableUses.{can_return}
use Rattle.audit_site.proofs.StandingLemmas.{found_fails}
use Rattle.audit_site.proofs.standing.one_way_in.Goals as goal

pub returns-in-Some : goal.returns-in-Some
returns-in-Some c =
    let rs = map record_view c.args.records.now in
    let r = record_view c.in-Some.recorded.now in
    let found : find (λ (x : Record). not (can_return x)) rs ≡ Some r = sym c.in-Some.ensures in
    let fails : can_return r ≡ false = (found_fails can_return rs r found).1 in
    IfOk-weaker c.copy_of_removal.result _ _ (λ copy e. e ∙ (ap (λ (b : Bool). cond b None (Some r)) fails ∙ sym found)) c.copy_of_removal.ensures
