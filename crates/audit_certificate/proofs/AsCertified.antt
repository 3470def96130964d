-- What a module that is loaded as a certified one has from it: its uses, its conflicts, and that it is consistent.
use Rattle.std.proofs.Common.{◌≡◌, ◌⊎◌, inl, inr, not, ◌&&◌, ◌||◌, List, [], ◌∷◌, map, refl, sym, ap, ◌∙◌, subst}
use Rattle.std.proofs.Common.{Option, Some, None}
use Rattle.std.specs.Prelude.{bytes_eq}
use Rattle.std.specs.List.{list_any, cons_option}
use Rattle.std.specs.Option.{option_map}
use Rattle.modulename.specs.ModuleName.{means}
use Rattle.envvars.specs.Texts.{Text}
use Rattle.modulefile.specs.Records.{Record, conflict_names}
use Rattle.modulefile.specs.Moves.{Module}
use Rattle.reversal.specs.VariableUses.{VariableUse, UsedVariable, use_by, absent_by, absent_in}
use Rattle.reversal.specs.Undone.{undone_as, undo_of, UndoEquivalently}
use Rattle.reversal.proofs.RecordKinds.{kept_absent, LeavesOf, leaves}
use Rattle.audit_certificate.specs.RecordUses.{used_by, IsAmong, Uses}
use Rattle.audit_certificate.specs.Candidates.{Candidate, as_module, read_of, HasUse}
use Rattle.audit_certificate.specs.Clashes.{is_other, names_in_conflict, exclude}
use Rattle.audit_certificate.specs.Certificates.{IsCertified}
use Rattle.audit_certificate.specs.Laws.{IsAsCertified}
use Rattle.audit_certificate.proofs.UsedLemmas.{by_cases, among_left, cons_either, used_first, used_later}

-- what records use is what is left of them for an unload, and what they keep absent

abbrev UsesLeft : UsedVariable → List Record → List Text → Type 0
UsesLeft p us vs = IsAmong p (used_by us) ⊎ IsAmong p (map kept_absent vs)

mapped_some : (p : UsedVariable) (o : Option Text) → option_map kept_absent o ≡ Some p → (v : Text) × (o ≡ Some v) × (kept_absent v ≡ p)
mapped_some p None h = cc
mapped_some p (Some v) h = (v, refl, cc)

absent_first : (p : UsedVariable) (o : Option Text) (vs : List Text) → option_map kept_absent o ≡ Some p → IsAmong p (map kept_absent (cons_option o vs))
absent_first p o vs h = let (v, is, same) = mapped_some p o h in subst (λ (x : Option Text). IsAmong p (map kept_absent (cons_option x vs))) (sym is) (inl (sym same))

absent_later : (p : UsedVariable) (o : Option Text) (vs : List Text) → IsAmong p (map kept_absent vs) → IsAmong p (map kept_absent (cons_option o vs))
absent_later p None vs h = h
absent_later p (Some v) vs h = inr h

absent_either : (p : UsedVariable) (o : Option Text) (vs : List Text) → IsAmong p (map kept_absent (cons_option o vs)) → (option_map kept_absent o ≡ Some p) ⊎ IsAmong p (map kept_absent vs)
absent_either p None vs h = inr h
absent_either p (Some v) vs (inl e) = inl (ap Some (sym e))
absent_either p (Some v) vs (inr h) = inr h

later_left : (p : UsedVariable) (o : Option Record) (a : Option Text) (us : List Record) (vs : List Text) → UsesLeft p us vs → UsesLeft p (cons_option o us) (cons_option a vs)
later_left p None a us vs (inl h) = inl h
later_left p (Some u) a us vs (inl h) = inl (used_later p u us h)
later_left p o a us vs (inr h) = inr (absent_later p a vs h)

first_left : (p : UsedVariable) (r : Record) (o : Option Record) (us : List Record) (vs : List Text) → LeavesOf r o → use_by r ≡ Some p → UsesLeft p (cons_option o us) (cons_option (absent_by r) vs)
first_left p r None us vs l h = inr (absent_first p (absent_by r) vs (sym l.uses ∙ h))
first_left p r (Some u) us vs l h = inl (used_first p u us (l.uses ∙ h))

uses_left : (p : UsedVariable) (rs : List Record) → IsAmong p (used_by rs) → UsesLeft p (undo_of rs) (absent_in rs)
uses_left p [] h = inl h
uses_left p (r ∷ rs) h = by_cases (cons_either p (use_by r) (used_by rs) h)
    (λ e. first_left p r (undone_as r) (undo_of rs) (absent_in rs) (leaves r) e)
    (λ k. later_left p (undone_as r) (absent_by r) (undo_of rs) (absent_in rs) (uses_left p rs k))

-- and the other way round

left_used : (p : UsedVariable) (r : Record) (o : Option Record) (us : List Record) → LeavesOf r o → IsAmong p (used_by (cons_option o us)) → (use_by r ≡ Some p) ⊎ IsAmong p (used_by us)
left_used p r None us l h = inr h
left_used p r (Some u) us l h = by_cases (cons_either p (use_by u) (used_by us) h) (λ e. inl (sym l.uses ∙ e)) (λ k. inr k)

none_absent : {P : Type 0} (p : UsedVariable) (o : Option Text) → o ≡ None → option_map kept_absent o ≡ Some p → P
none_absent p None e h = absurd cc
none_absent p (Some v) e h = absurd cc

absent_used : (p : UsedVariable) (r : Record) (o : Option Record) → LeavesOf r o → option_map kept_absent (absent_by r) ≡ Some p → use_by r ≡ Some p
absent_used p r None l h = l.uses ∙ h
absent_used p r (Some u) l h = none_absent p (absent_by r) l.absent h

left_uses : (p : UsedVariable) (rs : List Record) → UsesLeft p (undo_of rs) (absent_in rs) → IsAmong p (used_by rs)
left_uses p [] (inl h) = h
left_uses p [] (inr h) = h
left_uses p (r ∷ rs) (inl h) = by_cases (left_used p r (undone_as r) (undo_of rs) (leaves r) h)
    (λ e. used_first p r rs e)
    (λ k. used_later p r rs (left_uses p rs (inl k)))
left_uses p (r ∷ rs) (inr h) = by_cases (absent_either p (absent_by r) (absent_in rs) h)
    (λ e. used_first p r rs (absent_used p r (undone_as r) (leaves r) e))
    (λ k. used_later p r rs (left_uses p rs (inr k)))

-- records that undo equivalently and keep the same variables absent have the same uses
pub used_alike : (rs qs : List Record) → UndoEquivalently rs qs → absent_in rs ≡ absent_in qs → (p : UsedVariable) → IsAmong p (used_by rs) → IsAmong p (used_by qs)
used_alike rs qs h k p u = left_uses p qs (by_cases (uses_left p rs u)
    (λ a. inl (subst (λ (us : List Record). IsAmong p (used_by us)) h a))
    (λ a. inr (subst (λ (vs : List Text). IsAmong p (map kept_absent vs)) k a)))

-- the uses of the module are those of the certified one
pub certain_use : (ms : List Candidate) (m : Module) (c : IsAsCertified ms m) (v : Text) (x : VariableUse) → Uses m.records v x → HasUse c.certain v x
certain_use ms m c v x u = among_left (v, x) (used_by c.certain.records) (map read_of c.certain.reads) (used_alike m.records c.certain.records c.alike c.absent (v, x) u)

pub one_use_of : (ms : List Candidate) (m : Module) → IsAsCertified ms m → (v : Text) (x y : VariableUse) → Uses m.records v x → Uses m.records v y → x ≡ y
one_use_of ms m c v x y a b = c.certified.consistent.consistent.one_use v x y (certain_use ms m c v x a) (certain_use ms m c v y b)

-- two of them are other modules, and exclude each other, where the certified ones do

named_alike : (m n : Module) (k l : Candidate) → conflict_names m.records ≡ conflict_names k.records → l.name ≡ n.name → names_in_conflict m n ≡ names_in_conflict (as_module k) (as_module l)
named_alike m n k l names name = λ i. list_any (λ (x : Text). means x (sym name i)) (names i)

pub exclude_alike : (ms : List Candidate) (m n : Module) (c : IsAsCertified ms m) (d : IsAsCertified ms n) → exclude m n ≡ exclude (as_module c.certain) (as_module d.certain)
exclude_alike ms m n c d = λ i.
    bytes_eq (sym c.name i) (sym d.name i)
    || (named_alike m n c.certain d.certain c.conflicts d.name i || named_alike n m d.certain c.certain d.conflicts c.name i)

pub other_alike : (ms : List Candidate) (m n : Module) (c : IsAsCertified ms m) (d : IsAsCertified ms n) → not (bytes_eq m.name n.name && bytes_eq m.path n.path) ≡ is_other c.certain d.certain
other_alike ms m n c d = λ i. not (bytes_eq (sym c.name i) (sym d.name i) && bytes_eq (sym c.path i) (sym d.path i))

-- a certified module is one by its own records
pub as_itself : (ms : List Candidate) (m : Candidate) → IsCertified ms m → IsAsCertified ms (as_module m)
as_itself ms m c = record {
  certain = m;
  certified = c;
  name = refl;
  path = refl;
  alike = refl;
  returns = c.consistent.returns;
  absent = refl;
  conflicts = refl;
}
