-- Uses of variables and names of conflicts, record by record.
use Rattle.std.proofs.Common.{◌≡◌, Bool, ◌||◌, List, [], ◌∷◌, ◌++◌, refl, sym, ap, ◌∙◌}
use Rattle.std.specs.List.{list_any}
use Rattle.std.proofs.lemmas.List.Elements.{filter_map-append}
use Rattle.std.proofs.lemmas.List.Folds.{list_any-append}
use Rattle.envvars.specs.Texts.{Text}
use Rattle.modulefile.specs.Records.{Record, conflicts_of, conflict_names}
use Rattle.reversal.specs.VariableUses.{use_by}
use Rattle.audit_certificate.specs.RecordUses.{used_by}

-- what the records of two lists use
pub used-append : (xs ys : List Record) → used_by (xs ++ ys) ≡ used_by xs ++ used_by ys
used-append xs ys = filter_map-append use_by xs ys

-- a test over the names of conflicts, record by record
pub any_conflict : (test : Text → Bool) (rs : List Record)
    → list_any (λ r. list_any test (conflicts_of r)) rs ≡ list_any test (conflict_names rs)
any_conflict test [] = refl
any_conflict test (r ∷ rs) =
    ap (λ b. list_any test (conflicts_of r) || b) (any_conflict test rs)
    ∙ sym (list_any-append test (conflicts_of r) (conflict_names rs))
