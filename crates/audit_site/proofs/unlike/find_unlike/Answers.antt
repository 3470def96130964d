use Rattle.std.proofs.Common.{◌∙◌, sym, not, map}
use Rattle.reversal.specs.VariableUses.{UsedVariable}
use Rattle.audit_certificate.specs.RecordUses.{is_same_use}
use Rattle.audit_certificate.specs.UseViews.{used_view}
use Rattle.audit_site.proofs.StandingLemmas.{found_first, found_second}
use Rattle.audit_site.proofs.unlike.find_unlike.Goals as goal

pub returns-in-Some : goal.returns-in-Some
returns-in-Some c =
    sym (found_first (λ (other : UsedVariable). not (is_same_use (used_view c.args.one.now) other))
    (map used_view c.args.directories.now) (map used_view c.args.used.now) (used_view c.in-Some.other.now)
    (sym c.in-Some.ensures))

pub returns-in-None : goal.returns-in-None
returns-in-None c =
    c.first_unlike-in-None.ensures
    ∙ sym (found_second (λ (other : UsedVariable). not (is_same_use (used_view c.args.one.now) other)) (map used_view c.args.directories.now) (map used_view c.args.used.now) (sym c.in-None.ensures))
