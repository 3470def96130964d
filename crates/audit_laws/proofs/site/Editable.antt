-- Deterministic modules use variables alone that modulefiles may edit.
use Rattle.std.proofs.Common.{◌≡◌, true, List, [], ◌∷◌, refl, sym, subst, Option, Some, None}
use Rattle.std.specs.Prelude.{is_none}
use Rattle.std.specs.List.{list_all}
use Rattle.std.proofs.lemmas.Bool.{and_parts}
use Rattle.envvars.specs.Texts.{Text}
use Rattle.envstate.specs.Roles.{is_editable}
use Rattle.envstate.proofs.RoleLemmas.{no_reason_against}
use Rattle.modulefile.specs.Judgments.{RecordReason, record_reason, is_allowed}
use Rattle.modulefile.specs.Laws.{RecordsAreAllowed}
use Rattle.modulefile.specs.Moves.{Module}
use Rattle.modulefile.specs.Records.{Record}
use Rattle.reversal.specs.VariableUses.{VariableUse, UsedVariable, use_by}
use Rattle.reversal.proofs.RecordKinds.{used_name}
use Rattle.audit_laws.specs.determinism.Contexts.{first_context}
use Rattle.audit_certificate.specs.RecordUses.{used_by, Uses}
use Rattle.audit_certificate.proofs.UsedLemmas.{by_cases, cons_either}
use Rattle.audit_laws.specs.site.Sites.{Site, file_of, HasDeterministicRecords}
use Rattle.audit_laws.proofs.site.Evaluations.{evaluated}

none_of : (o : Option RecordReason) → is_none o ≡ true → o ≡ None
none_of None h = refl
none_of (Some x) h = absurd cc

use_editable : (r : Record) (q : UsedVariable) → is_allowed r ≡ true → use_by r ≡ Some q → is_editable q.0 ≡ true
use_editable r q a u = (no_reason_against q.0).1 (used_name r q (none_of (record_reason r) a) u)

used_editable : (rs : List Record) (v : Text) (x : VariableUse) → list_all is_allowed rs ≡ true → Uses rs v x → is_editable v ≡ true
used_editable [] v x a u = absurd u
used_editable (r ∷ rs) v x a u =
    let p = and_parts (is_allowed r) (list_all is_allowed rs) a in
    by_cases (cons_either (v, x) (use_by r) (used_by rs) u) (λ k. use_editable r (v, x) p.0 k) (λ k. used_editable rs v x p.1 k)

pub deterministic_editable : RecordsAreAllowed → (site : Site) (m : Module) → HasDeterministicRecords site (file_of m) m.records → (v : Text) (x : VariableUse) → Uses m.records v x → is_editable v ≡ true
deterministic_editable allowed site m p v x u =
    let h = evaluated site first_context (file_of m) p.runs.first p.evaluated.0 in
    used_editable m.records v x
    (subst (λ (rs : List Record). list_all is_allowed rs ≡ true) (sym p.records) (allowed site.limits h.context h.text p.runs.first h.runs)) u
