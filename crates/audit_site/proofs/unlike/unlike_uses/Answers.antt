use Rattle.std.proofs.Common.{◌≡◌, ◌∷◌, true, map, List, sym, subst}
use Rattle.std.specs.List.{list_all}
use Rattle.reversal.specs.VariableUses.{UsedVariable}
use Rattle.audit_certificate.specs.RecordUses.{IsAmong, is_same_use}
use Rattle.audit_certificate.specs.UseViews.{used_view}
use Rattle.audit_site.proofs.AmongLemmas.{among_map}
use Rattle.audit_site.proofs.StandingLemmas.{found_fails, not_found, are_unlike, item_among, suits_more}
use Rattle.audit_site.proofs.unlike.unlike_uses.Goals as goal

pub returns-in-Some : goal.returns-in-Some
returns-in-Some c =
    let used = c.args.used.now in
    let one = c.one-item.result in
    let other = c.in-Some.other.now in
    let ps : List UsedVariable = map used_view used in
    let d = used_view c.in_ok-directories_use.field-0 in
    let f = found_fails (is_same_use (used_view one)) (d ∷ ps) (used_view other) (sym c.in-Some.ensures) in
    let e = c.in_ok-unlike_of.ensures in
    are_unlike ps (used_view one) (used_view other) c.in_ok-unlike_of.field-0 (among_map used_view one used (item_among used c.loop-one.one-index one c.loop-one-test.true c.one-item.is))
    (subst (λ (k : UsedVariable). IsAmong (used_view other) (k ∷ ps)) c.in_ok-directories_use.ensures f.0) f.1 e.variable e.one e.other

pub loop-one-preserved : goal.loop-one-preserved
loop-one-preserved c =
    let used = c.args.used.now in
    let one = c.one-item.result in
    let ps : List UsedVariable = map used_view used in
    let d = used_view c.in_ok-directories_use.field-0 in
    let alike : list_all (is_same_use (used_view one)) (d ∷ ps) ≡ true = not_found (is_same_use (used_view one)) (d ∷ ps) (sym c.in_default.ensures) in
    suits_more ps used c.loop-one.one-index one c.loop-one-test.true c.one-item.is c.loop-one.invariant
    (subst (λ (k : UsedVariable). list_all (is_same_use (used_view one)) (k ∷ ps) ≡ true) c.in_ok-directories_use.ensures alike)
