-- What names stand for.
use Rattle.std.proofs.Common.{◌≡◌, ◌≢◌, ℕ, Bool, true, false, cond, not, ◌&&◌, [], ◌∷◌, ◌++◌, refl, sym, ap, ◌∙◌}
use Rattle.std.proofs.Common.{Option, Some, None, nat_eq}
use Rattle.std.specs.Prelude.{bytes_eq, codes, if◌then◌else◌}
use Rattle.std.proofs.lemmas.Bool.{false≢true, eqb-true}
use Rattle.std.proofs.lemmas.Option.{same_Some, none-some}
use Rattle.envvars.specs.Texts.{Text}
use Rattle.envvars.specs.Names.{is_variable_name, is_protected, share_name, stack_name, name_reason}
use Rattle.envvars.specs.Reasons.{EnvReason, bad_variable, protected}
use Rattle.envvars.proofs.TextLemmas.{same_text}
use Rattle.envstate.specs.loaded_list.LoadedTexts.{names_variable, files_variable, conflicts_variable, prereqs_variable}
use Rattle.envstate.specs.Roles.{VariableRole, is_editable, after_prefix, protected_role, role_of, IsNameOf}
use Rattle.envstate.specs.Roles.VariableRole.{Variable, Counters, Stack, LoadedNames, LoadedFiles, LoadedConflicts}
use Rattle.envstate.specs.Roles.VariableRole.{LoadedPrereqs, Other}
use Rattle.envstate.specs.EnvLaws.{HasRoles, LoadedHaveRoles}

behind_at : (c k : ℕ) (prefix n v : Text) (b : Bool) → nat_eq c k ≡ b → (after_prefix prefix n ≡ Some v → n ≡ prefix ++ v) → cond b (after_prefix prefix n) None ≡ Some v → k ∷ n ≡ c ∷ (prefix ++ v)
behind_at c k prefix n v true e f g = let q : n ≡ prefix ++ v = f g in let y : c ≡ k = eqb-true c k e in cc
behind_at c k prefix n v false e f g = elim (none-some v g) [ ]

behind_is : (prefix n v : Text) → after_prefix prefix n ≡ Some v → n ≡ prefix ++ v
behind_is [] n v h = same_Some _ _ h
behind_is (c ∷ prefix) [] v h = elim (none-some v h) [ ]
behind_is (c ∷ prefix) (k ∷ n) v h = behind_at c k prefix n v (nat_eq c k) refl (behind_is prefix n v) h

of_editable_is : (n v : Text) (p : VariableRole) (b : Bool) → is_editable v ≡ b → (is_editable v ≡ true → IsNameOf n p) → IsNameOf n (if b then p else Other)
of_editable_is n v p true e h = h e
of_editable_is n v p false e h = tt

one_of : (n x : Text) (p q : VariableRole) (b : Bool) → bytes_eq n x ≡ b → (n ≡ x → IsNameOf n p) → IsNameOf n q → IsNameOf n (if b then p else q)
one_of n x p q true e h k = h (same_text n x e)
one_of n x p q false e h k = k

loaded_is : (n : Text) → IsNameOf n (protected_role n None None)
loaded_is n =
    one_of n names_variable LoadedNames _ (bytes_eq n names_variable) refl (λ e. e)
    (one_of n files_variable LoadedFiles _ (bytes_eq n files_variable) refl (λ e. e)
    (one_of n conflicts_variable LoadedConflicts _ (bytes_eq n conflicts_variable) refl (λ e. e)
    (one_of n prereqs_variable LoadedPrereqs Other (bytes_eq n prereqs_variable) refl (λ e. e) tt)))

kept_is : (n : Text) (o q : Option Text) → after_prefix (codes "__MODULES_SHARE_") n ≡ o → after_prefix (codes "__MODULES_PUSHENV_") n ≡ q → IsNameOf n (protected_role n o q)
kept_is n (Some v) q h k = of_editable_is n v (Counters v) (is_editable v) refl (λ e. (e, behind_is (codes "__MODULES_SHARE_") n v h))
kept_is n None (Some v) h k = of_editable_is n v (Stack v) (is_editable v) refl (λ e. (e, behind_is (codes "__MODULES_PUSHENV_") n v k))
kept_is n None None h k = loaded_is n

variable_at : (n : Text) (b : Bool) (p : VariableRole) → is_editable n ≡ b → IsNameOf n p → IsNameOf n (if b then Variable n else p)
variable_at n true p e h = (e, refl)
variable_at n false p e h = h

pub name_of_role : (n : Text) → IsNameOf n (role_of n)
name_of_role n = variable_at n (is_editable n) _ refl (kept_is n (after_prefix (codes "__MODULES_SHARE_") n) (after_prefix (codes "__MODULES_PUSHENV_") n) refl refl)

pub variable_place : (v : Text) → is_editable v ≡ true → role_of v ≡ Variable v
variable_place v h = rw h refl

pub counters_place : (v : Text) → is_editable v ≡ true → role_of (share_name v) ≡ Counters v
counters_place v h = rw h refl

pub stack_place : (v : Text) → is_editable v ≡ true → role_of (stack_name v) ≡ Stack v
stack_place v h = rw h refl

pub have_places : (v : Text) → is_editable v ≡ true → HasRoles v
have_places v h = record { variable = variable_place v h; counters = counters_place v h; stack = stack_place v h }

pub loaded_places : LoadedHaveRoles
loaded_places = record { names = refl; files = refl; conflicts = refl; prereqs = refl }

not_true : (b : Bool) → (b ≡ true → ⊥) → b ≡ false
not_true true h = absurd (h refl)
not_true false h = refl

pub parted : (m n : Text) → role_of m ≢ role_of n → bytes_eq m n ≡ false
parted m n h = not_true (bytes_eq m n) (λ e. h (ap role_of (same_text m n e)))

-- names whose places are known to be two
pub different : (m n : Text) (p q : VariableRole) → role_of m ≡ p → role_of n ≡ q → (p ≡ q → ⊥) → bytes_eq m n ≡ false
different m n p q e f h = parted m n (λ s. h (sym e ∙ s ∙ f))

reason_at : (name : Text) (p v : Bool) → (if not p && v then true else false) ≡ true → (if v then (if p then Some (protected name) else None) else Some (bad_variable name)) ≡ None
reason_at name true v h = absurd (false≢true h)
reason_at name false true h = refl
reason_at name false false h = absurd (false≢true h)

same_if : (b : Bool) → b ≡ (if b then true else false)
same_if true = refl
same_if false = refl

no_some : {P : Type 0} (r : EnvReason) (o : Option EnvReason) → o ≡ Some r → o ≡ None → P
no_some r o e h = cc

editable_at : (name : Text) (p v : Bool) → (if v then (if p then Some (protected name) else None) else Some (bad_variable name)) ≡ None → (not p && v) ≡ true
editable_at name true true h = no_some (protected name) _ refl h
editable_at name false true h = refl
editable_at name p false h = no_some (bad_variable name) _ refl h

pub no_reason_against : (name : Text) → (is_editable name ≡ true → name_reason name ≡ None) × (name_reason name ≡ None → is_editable name ≡ true)
no_reason_against name = (
  λ h. reason_at name (is_protected name) (is_variable_name name) (sym (same_if (not (is_protected name) && is_variable_name name)) ∙ h),
  editable_at name (is_protected name) (is_variable_name name),
)
