use Rattle.std.proofs.Common.{rules, tests, not}
use Rattle.std.proofs.lemmas.Iterator.Search.{find_from_yields_List}
use Rattle.std.proofs.lemmas.Iterator.{YieldsList-from_slice}
use Rattle.reversal.specs.VariableUses as variable_uses
use Rattle.audit_certificate.specs.RecordUses as uses
use Rattle.audit_certificate.specs.declared.uses.UsedVariable.{UsedVariable}
use Rattle.audit_certificate.specs.UseViews.{used_view}
use Rattle.audit_certificate.proofs.Seen.{find_seen}
use Rattle.audit_certificate.proofs.uses.first_unlike.Goals as goal

pub returns : goal.returns
returns c =
    find_seen (λ (x : variable_uses.UsedVariable). not (uses.is_same_use (used_view c.args.one.now) x)) used_view c.args.all_used.now c.find.result
    (find_from_yields_List (λ (x : UsedVariable). not (uses.is_same_use (used_view c.args.one.now) (used_view x))) _ _
    c.find.result c.find.ensures.ran (YieldsList-from_slice c.args.all_used.now cc)
    (λ x b q k. search (rules, tests)))
