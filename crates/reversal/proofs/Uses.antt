-- What a record does to the variable that it names, by the use of the variable.
use Rattle.std.proofs.Common.{◌≡◌, ℕ, Bool, true, false, cond, List, refl, sym, ap, ◌∙◌, subst, Option, Some, None}
use Rattle.std.specs.Prelude.{bytes_eq, count_by, is_some}
use Rattle.std.proofs.lemmas.Bool.{false≢true}
use Rattle.envvars.specs.Texts.{Text}
use Rattle.envvars.specs.Environment.{Environment, with_value}
use Rattle.envvars.proofs.TextLemmas.{same_text}
use Rattle.envstate.specs.paths.PathVariables.{added_path, dropped_path}
use Rattle.envstate.specs.declared.paths.adding.End.{End}
use Rattle.envstate.specs.stacks.StackVariables.{pushed_value, popped_value}
use Rattle.modulefile.specs.Records.{Record, variable_of}
use Rattle.modulefile.specs.Effects.{loaded_by, unloaded_by}
use Rattle.reversal.specs.VariableUses.{VariableUse, Untouched, Fixed, Absent, Pathed, Stacked, can_return}
use Rattle.reversal.specs.VariableUses.{UsedVariable, use_by, IsUsedSo, Suits}
use Rattle.reversal.specs.Live.{set_by, adds_by, push_by}
use Rattle.reversal.proofs.RecordKinds.{accepted, DoesBy, does, named_used}
use Rattle.reversal.proofs.Frames.{is_named}

wrong : {P : Type 0} (uses : Text → VariableUse) (w v : Text) (a k : VariableUse) → uses w ≡ k → uses v ≡ a → bytes_eq w v ≡ true → (a ≡ k → ⊥) → P
wrong uses w v a k h s e no_ = absurd (no_ (sym s ∙ ap uses (sym (same_text w v e)) ∙ h))

meets : (uses : Text → VariableUse) (w v : Text) (a k : VariableUse) → uses w ≡ k → uses v ≡ a → bytes_eq w v ≡ true → a ≡ k
meets uses w v a k h s e = sym s ∙ ap uses (sym (same_text w v e)) ∙ h

-- a record that names a variable uses it

pub record UsesVariable (w : Text) (r : Record) : Type 0 where
  pub used : UsedVariable
  pub does : DoesBy r (Some used)
  pub by : use_by r ≡ Some used
  pub named : bytes_eq w used.0 ≡ true

named_by : (w : Text) (r : Record) (o : Option UsedVariable) → DoesBy r o → use_by r ≡ o → can_return r ≡ true → is_named w (variable_of r) ≡ true → UsesVariable w r
named_by w r None d u s e = absurd (false≢true (ap (is_named w) (sym (d.nothing s).named) ∙ e))
named_by w r (Some p) d u s e = record { used = p; does = d; by = u; named = ap (is_named w) (sym (named_used r p d)) ∙ e }

uses_named : (w : Text) (r : Record) → can_return r ≡ true → is_named w (variable_of r) ≡ true → UsesVariable w r
uses_named w r s e = named_by w r (use_by r) (does r) refl s e

-- an untouched variable is named by none

untouched_by : (uses : Text → VariableUse) (w : Text) (r : Record) (p : UsedVariable) → DoesBy r (Some p) → uses w ≡ Untouched → uses p.0 ≡ p.1 → bytes_eq w p.0 ≡ true → ⊥
untouched_by uses w r (v, Untouched) d h s e = absurd d
untouched_by uses w r (v, Fixed k) d h s e = wrong uses w v (Fixed k) Untouched h s e (λ z. cc)
untouched_by uses w r (v, Absent) d h s e = wrong uses w v Absent Untouched h s e (λ z. cc)
untouched_by uses w r (v, Pathed d) c h s e = wrong uses w v (Pathed d) Untouched h s e (λ z. cc)
untouched_by uses w r (v, Stacked) d h s e = wrong uses w v Stacked Untouched h s e (λ z. cc)

pub unnamed : (uses : Text → VariableUse) (w : Text) (r : Record) → uses w ≡ Untouched → Suits uses r → is_named w (variable_of r) ≡ true → ⊥
unnamed uses w r h s e = let u = uses_named w r s.0 e in untouched_by uses w r u.used u.does h (subst (IsUsedSo uses) u.by s.1) u.named

pub record UsesFixed (w : Text) (k : Option Text) (r : Record) : Type 0 where
  pub value : Option Text
  pub loads : (owner : Text) (e : Environment) → loaded_by owner r e ≡ accepted (with_value e w value)
  pub unloads : (owner : Text) (e : Environment) → unloaded_by owner r e ≡ accepted (with_value e w k)
  pub by : set_by w r ≡ Some value

same_fixed : (a k : Option Text) → Fixed a ≡ Fixed k → a ≡ k
same_fixed a k h = cc

moved_value : (v w : Text) (a b : Option Text) (e : Environment) → v ≡ w → a ≡ b → accepted (with_value e v a) ≡ accepted (with_value e w b)
moved_value v w a b e h k = ap (λ (t : Text). accepted (with_value e t a)) h ∙ ap (λ (t : Option Text). accepted (with_value e w t)) k

fixed_by : (uses : Text → VariableUse) (w : Text) (k : Option Text) (r : Record) (p : UsedVariable) → DoesBy r (Some p) → uses w ≡ Fixed k → uses p.0 ≡ p.1 → bytes_eq w p.0 ≡ true → UsesFixed w k r
fixed_by uses w k r (v, Untouched) d h s e = absurd d
fixed_by uses w k r (v, Fixed a) d h s e =
    let p : v ≡ w = sym (same_text w v e) in
    let q : a ≡ k = same_fixed a k (meets uses w v (Fixed a) (Fixed k) h s e) in
    record {
      value = d.value;
      loads = λ owner c. d.loads owner c ∙ moved_value v w d.value d.value c p refl;
      unloads = λ owner c. d.unloads owner c ∙ moved_value v w a k c p q;
      by = d.sets w ∙ ap (λ (b : Bool). cond b (Some d.value) None) e;
    }
fixed_by uses w k r (v, Absent) d h s e = wrong uses w v Absent (Fixed k) h s e (λ z. cc)
fixed_by uses w k r (v, Pathed a) d h s e = wrong uses w v (Pathed a) (Fixed k) h s e (λ z. cc)
fixed_by uses w k r (v, Stacked) d h s e = wrong uses w v Stacked (Fixed k) h s e (λ z. cc)

pub uses_fixed : (uses : Text → VariableUse) (w : Text) (k : Option Text) (r : Record) → uses w ≡ Fixed k → Suits uses r → is_named w (variable_of r) ≡ true → UsesFixed w k r
uses_fixed uses w k r h s e = let u = uses_named w r s.0 e in fixed_by uses w k r u.used u.does h (subst (IsUsedSo uses) u.by s.1) u.named

-- a record that names an absent variable unsets it, and its unload does nothing
pub record UsesAbsent (w : Text) (r : Record) : Type 0 where
  pub loads : (owner : Text) (e : Environment) → loaded_by owner r e ≡ accepted (with_value e w None)
  pub unloads : (owner : Text) (e : Environment) → unloaded_by owner r e ≡ accepted e

absent_by : (uses : Text → VariableUse) (w : Text) (r : Record) (p : UsedVariable) → DoesBy r (Some p) → uses w ≡ Absent → uses p.0 ≡ p.1 → bytes_eq w p.0 ≡ true → UsesAbsent w r
absent_by uses w r (v, Untouched) d h s e = absurd d
absent_by uses w r (v, Fixed k) d h s e = wrong uses w v (Fixed k) Absent h s e (λ z. cc)
absent_by uses w r (v, Absent) d h s e = record {
  loads = λ owner c. d.loads owner c ∙ ap (λ (t : Text). accepted (with_value c t None)) (sym (same_text w v e));
  unloads = d.unloads;
}
absent_by uses w r (v, Pathed a) d h s e = wrong uses w v (Pathed a) Absent h s e (λ z. cc)
absent_by uses w r (v, Stacked) d h s e = wrong uses w v Stacked Absent h s e (λ z. cc)

pub uses_absent : (uses : Text → VariableUse) (w : Text) (r : Record) → uses w ≡ Absent → Suits uses r → is_named w (variable_of r) ≡ true → UsesAbsent w r
uses_absent uses w r h s e = let u = uses_named w r s.0 e in absent_by uses w r u.used u.does h (subst (IsUsedSo uses) u.by s.1) u.named

pub record UsesPath (w : Text) (d : ℕ) (r : Record) : Type 0 where
  pub elements : List Text
  pub end : End
  pub loads : (owner : Text) (e : Environment) → loaded_by owner r e ≡ added_path e w d elements end
  pub unloads : (owner : Text) (e : Environment) → unloaded_by owner r e ≡ dropped_path e w d elements
  pub by : (x : Text) → adds_by w x r ≡ count_by (bytes_eq x) elements

same_delim : (a d : ℕ) → Pathed a ≡ Pathed d → a ≡ d
same_delim a d h = cc

moved_add : (v w : Text) (a d : ℕ) (xs : List Text) (end : End) (e : Environment) → v ≡ w → a ≡ d → added_path e v a xs end ≡ added_path e w d xs end
moved_add v w a d xs end e h k = ap (λ (t : Text). added_path e t a xs end) h ∙ ap (λ (t : ℕ). added_path e w t xs end) k

moved_drop : (v w : Text) (a d : ℕ) (xs : List Text) (e : Environment) → v ≡ w → a ≡ d → dropped_path e v a xs ≡ dropped_path e w d xs
moved_drop v w a d xs e h k = ap (λ (t : Text). dropped_path e t a xs) h ∙ ap (λ (t : ℕ). dropped_path e w t xs) k

path_by : (uses : Text → VariableUse) (w : Text) (d : ℕ) (r : Record) (p : UsedVariable) → DoesBy r (Some p) → uses w ≡ Pathed d → uses p.0 ≡ p.1 → bytes_eq w p.0 ≡ true → UsesPath w d r
path_by uses w d r (v, Untouched) c h s e = absurd c
path_by uses w d r (v, Fixed k) c h s e = wrong uses w v (Fixed k) (Pathed d) h s e (λ z. cc)
path_by uses w d r (v, Absent) c h s e = wrong uses w v Absent (Pathed d) h s e (λ z. cc)
path_by uses w d r (v, Pathed a) c h s e =
    let p : v ≡ w = sym (same_text w v e) in
    let q : a ≡ d = same_delim a d (meets uses w v (Pathed a) (Pathed d) h s e) in
    record {
      elements = c.elements;
      end = c.end;
      loads = λ owner b. c.loads owner b ∙ moved_add v w a d c.elements c.end b p q;
      unloads = λ owner b. c.unloads owner b ∙ moved_drop v w a d c.elements b p q;
      by = λ x. c.adds w x ∙ ap (λ (b : Bool). cond b (count_by (bytes_eq x) c.elements) 0) e;
    }
path_by uses w d r (v, Stacked) c h s e = wrong uses w v Stacked (Pathed d) h s e (λ z. cc)

pub uses_path : (uses : Text → VariableUse) (w : Text) (d : ℕ) (r : Record) → uses w ≡ Pathed d → Suits uses r → is_named w (variable_of r) ≡ true → UsesPath w d r
uses_path uses w d r h s e = let u = uses_named w r s.0 e in path_by uses w d r u.used u.does h (subst (IsUsedSo uses) u.by s.1) u.named

pub record UsesStack (w : Text) (r : Record) : Type 0 where
  pub value : Text
  pub loads : (owner : Text) (e : Environment) → loaded_by owner r e ≡ pushed_value e w owner value
  pub unloads : (owner : Text) (e : Environment) → unloaded_by owner r e ≡ popped_value e w owner
  pub by : push_by w r ≡ Some value

stack_by : (uses : Text → VariableUse) (w : Text) (r : Record) (p : UsedVariable) → DoesBy r (Some p) → uses w ≡ Stacked → uses p.0 ≡ p.1 → bytes_eq w p.0 ≡ true → UsesStack w r
stack_by uses w r (v, Untouched) d h s e = absurd d
stack_by uses w r (v, Fixed k) d h s e = wrong uses w v (Fixed k) Stacked h s e (λ z. cc)
stack_by uses w r (v, Absent) d h s e = wrong uses w v Absent Stacked h s e (λ z. cc)
stack_by uses w r (v, Pathed a) d h s e = wrong uses w v (Pathed a) Stacked h s e (λ z. cc)
stack_by uses w r (v, Stacked) d h s e =
    let p : v ≡ w = sym (same_text w v e) in
    record {
      value = d.value;
      loads = λ owner c. d.loads owner c ∙ ap (λ (t : Text). pushed_value c t owner d.value) p;
      unloads = λ owner c. d.unloads owner c ∙ ap (λ (t : Text). popped_value c t owner) p;
      by = d.pushes w ∙ ap (λ (b : Bool). cond b (Some d.value) None) e;
    }

pub uses_stack : (uses : Text → VariableUse) (w : Text) (r : Record) → uses w ≡ Stacked → Suits uses r → is_named w (variable_of r) ≡ true → UsesStack w r
uses_stack uses w r h s e = let u = uses_named w r s.0 e in stack_by uses w r u.used u.does h (subst (IsUsedSo uses) u.by s.1) u.named

-- a record that doesn't use a variable does nothing to it

abbrev pub IsOther : Text → Option UsedVariable → Type 0
IsOther w None = Unit {0}
IsOther w (Some p) = bytes_eq w p.0 ≡ false

set_by_other : (w : Text) (r : Record) (o : Option UsedVariable) → DoesBy r o → can_return r ≡ true → IsOther w o → set_by w r ≡ None
set_by_other w r None d s e = (d.nothing s).sets w
set_by_other w r (Some (v, Untouched)) d s e = absurd d
set_by_other w r (Some (v, Fixed k)) d s e = d.sets w ∙ ap (λ (b : Bool). cond b (Some d.value) None) e
set_by_other w r (Some (v, Absent)) d s e = d.sets w
set_by_other w r (Some (v, Pathed a)) d s e = d.sets w
set_by_other w r (Some (v, Stacked)) d s e = d.sets w

adds_by_other : (w x : Text) (r : Record) (o : Option UsedVariable) → DoesBy r o → IsOther w o → adds_by w x r ≡ 0
adds_by_other w x r None d e = d.adds w x
adds_by_other w x r (Some (v, Untouched)) d e = absurd d
adds_by_other w x r (Some (v, Fixed k)) d e = d.adds w x
adds_by_other w x r (Some (v, Absent)) d e = d.adds w x
adds_by_other w x r (Some (v, Pathed a)) d e = d.adds w x ∙ ap (λ (b : Bool). cond b (count_by (bytes_eq x) d.elements) 0) e
adds_by_other w x r (Some (v, Stacked)) d e = d.adds w x

push_by_other : (w : Text) (r : Record) (o : Option UsedVariable) → DoesBy r o → IsOther w o → push_by w r ≡ None
push_by_other w r None d e = d.pushes w
push_by_other w r (Some (v, Untouched)) d e = absurd d
push_by_other w r (Some (v, Fixed k)) d e = d.pushes w
push_by_other w r (Some (v, Absent)) d e = d.pushes w
push_by_other w r (Some (v, Pathed a)) d e = d.pushes w
push_by_other w r (Some (v, Stacked)) d e = d.pushes w ∙ ap (λ (b : Bool). cond b (Some d.value) None) e

pub set_by_none : (w : Text) (r : Record) → can_return r ≡ true → IsOther w (use_by r) → set_by w r ≡ None
set_by_none w r s e = set_by_other w r (use_by r) (does r) s e

pub adds_by_none : (w x : Text) (r : Record) → IsOther w (use_by r) → adds_by w x r ≡ 0
adds_by_none w x r e = adds_by_other w x r (use_by r) (does r) e

pub push_by_none : (w : Text) (r : Record) → IsOther w (use_by r) → push_by w r ≡ None
push_by_none w r e = push_by_other w r (use_by r) (does r) e

other_by : (w : Text) (r : Record) (o : Option UsedVariable) → DoesBy r o → is_named w (variable_of r) ≡ false → IsOther w o
other_by w r None d e = tt
other_by w r (Some p) d e = ap (is_named w) (sym (named_used r p d)) ∙ e

-- a record that names another variable, or none, uses none but that one
pub other_used : (w : Text) (r : Record) → is_named w (variable_of r) ≡ false → IsOther w (use_by r)
other_used w r e = other_by w r (use_by r) (does r) e

-- what a record sets or unsets it uses so

abbrev pub SetsUsed : Text → Record → Type 0
SetsUsed w r = (k : Option Text) × (use_by r ≡ Some (w, Fixed k))

given_so : (b : Bool) (x : Option Text) → is_some (cond b (Some x) None) ≡ true → b ≡ true
given_so true x h = refl
given_so false x h = h

set_used_by : (w : Text) (r : Record) (o : Option UsedVariable) → DoesBy r o → use_by r ≡ o → can_return r ≡ true → is_some (set_by w r) ≡ true → SetsUsed w r
set_used_by w r None d u s e = absurd (false≢true (ap is_some (sym ((d.nothing s).sets w)) ∙ e))
set_used_by w r (Some (v, Untouched)) d u s e = absurd d
set_used_by w r (Some (v, Fixed k)) d u s e = (k, u ∙ ap (λ (t : Text). Some (t, Fixed k)) (sym (same_text w v (given_so (bytes_eq w v) d.value (ap is_some (sym (d.sets w)) ∙ e)))))
set_used_by w r (Some (v, Absent)) d u s e = absurd (false≢true (ap is_some (sym (d.sets w)) ∙ e))
set_used_by w r (Some (v, Pathed a)) d u s e = absurd (false≢true (ap is_some (sym (d.sets w)) ∙ e))
set_used_by w r (Some (v, Stacked)) d u s e = absurd (false≢true (ap is_some (sym (d.sets w)) ∙ e))

pub set_used : (w : Text) (r : Record) → can_return r ≡ true → is_some (set_by w r) ≡ true → SetsUsed w r
set_used w r s e = set_used_by w r (use_by r) (does r) refl s e
