-- What records do to a variable, by the uses that they make of it.
use Rattle.std.proofs.Common.{◌≡◌, true, false, List, [], ◌∷◌, refl, sym, ap, ◌∙◌, arith, Option, Some, None, inl, inr}
use Rattle.std.specs.Prelude.{bytes_eq, is_some}
use Rattle.std.specs.List.{list_all}
use Rattle.std.specs.Option.{option_or}
use Rattle.std.proofs.lemmas.Bool.{false≢true}
use Rattle.envvars.specs.Texts.{Text}
use Rattle.envvars.proofs.TextLemmas.{same_text}
use Rattle.envvars.proofs.EditLemmas.{both_true}
use Rattle.modulefile.specs.Records.{Record}
use Rattle.modulefile.specs.Moves.{Module}
use Rattle.reversal.specs.VariableUses.{VariableUse, Fixed, can_return, IsUsedSo, AllFollowUses, UsedVariable, use_by}
use Rattle.reversal.specs.Live.{set_by, last_set, live_set, adds_by, adds, live_adds, push_by, last_push, with_push}
use Rattle.reversal.specs.Live.{live_pushes}
use Rattle.reversal.proofs.Uses.{IsOther, set_by_none, adds_by_none, push_by_none, set_used}
use Rattle.audit_certificate.specs.RecordUses.{used_by, used_by_modules, IsAmong, Uses}
use Rattle.audit_certificate.proofs.UsedLemmas.{by_test, among_left, among_right, used_first, used_later}

-- A record follows uses that are those that it makes.

used_so : (u : Text → VariableUse) (o : Option UsedVariable) → ((v : Text) (x : VariableUse) → o ≡ Some (v, x) → u v ≡ x) → IsUsedSo u o
used_so u None h = tt
used_so u (Some p) h = h p.0 p.1 refl

pub all_follow : (u : Text → VariableUse) (rs : List Record) → ((v : Text) (x : VariableUse) → Uses rs v x → u v ≡ x) → AllFollowUses u rs
all_follow u [] h = tt
all_follow u (r ∷ rs) h = (used_so u (use_by r) (λ v x e. h v x (used_first (v, x) r rs e)), all_follow u rs (λ v x k. h v x (used_later (v, x) r rs k)))

-- A record that doesn't use a variable does nothing to it.

other_use : (v : Text) (o : Option UsedVariable) → ((x : VariableUse) → o ≡ Some (v, x) → ⊥) → IsOther v o
other_use v None h = tt
other_use v (Some p) h = by_test (bytes_eq v p.0) _
    (λ t. absurd (h p.1 (ap (λ (w : Text). Some (w, p.1)) (sym (same_text v p.0 t)))))
    (λ t. t)

no_set : (v : Text) (r : Record) → can_return r ≡ true → ((x : VariableUse) → use_by r ≡ Some (v, x) → ⊥) → set_by v r ≡ None
no_set v r k h = set_by_none v r k (other_use v (use_by r) h)

no_add : (v y : Text) (r : Record) → ((x : VariableUse) → use_by r ≡ Some (v, x) → ⊥) → adds_by v y r ≡ 0
no_add v y r h = adds_by_none v y r (other_use v (use_by r) h)

no_push : (v : Text) (r : Record) → ((x : VariableUse) → use_by r ≡ Some (v, x) → ⊥) → push_by v r ≡ None
no_push v r h = push_by_none v r (other_use v (use_by r) h)

-- the same of several records

pub no_sets : (v : Text) (rs : List Record) → list_all can_return rs ≡ true → ((x : VariableUse) → Uses rs v x → ⊥) → last_set v rs ≡ None
no_sets v [] k h = refl
no_sets v (r ∷ rs) k h =
    let b = both_true (can_return r) (list_all can_return rs) k in
    ap (λ (o : Option (Option Text)). option_or o (set_by v r)) (no_sets v rs b.1 (λ x u. h x (used_later (v, x) r rs u)))
    ∙ no_set v r b.0 (λ x e. h x (used_first (v, x) r rs e))

no_adds : (v y : Text) (rs : List Record) → ((x : VariableUse) → Uses rs v x → ⊥) → adds v y rs ≡ 0
no_adds v y [] h = refl
no_adds v y (r ∷ rs) h =
    let a = no_add v y r (λ x e. h x (used_first (v, x) r rs e)) in
    let i = no_adds v y rs (λ x u. h x (used_later (v, x) r rs u)) in
    omega (arith, a, i)

no_pushes : (v : Text) (rs : List Record) → ((x : VariableUse) → Uses rs v x → ⊥) → last_push v rs ≡ None
no_pushes v [] h = refl
no_pushes v (r ∷ rs) h =
    ap (λ (o : Option Text). option_or o (push_by v r)) (no_pushes v rs (λ x u. h x (used_later (v, x) r rs u)))
    ∙ no_push v r (λ x e. h x (used_first (v, x) r rs e))

-- and of modules

abbrev pub AreOfKind : List Module → Type 0
AreOfKind ms = (m : Module) → IsAmong m ms → list_all can_return m.records ≡ true

first_unused : (v : Text) (m : Module) (ms : List Module) → ((x : VariableUse) → IsAmong (v, x) (used_by_modules (m ∷ ms)) → ⊥) → (x : VariableUse) → Uses m.records v x → ⊥
first_unused v m ms h x u = h x (among_left (v, x) (used_by m.records) (used_by_modules ms) u)

rest_unused : (v : Text) (m : Module) (ms : List Module) → ((x : VariableUse) → IsAmong (v, x) (used_by_modules (m ∷ ms)) → ⊥) → (x : VariableUse) → IsAmong (v, x) (used_by_modules ms) → ⊥
rest_unused v m ms h x u = h x (among_right (v, x) (used_by m.records) (used_by_modules ms) u)

pub none_sets : (v : Text) (ms : List Module) → AreOfKind ms → ((x : VariableUse) → IsAmong (v, x) (used_by_modules ms) → ⊥) → live_set v ms ≡ None
none_sets v [] k h = refl
none_sets v (m ∷ ms) k h =
    ap (λ (o : Option (Option Text)). option_or o (live_set v ms)) (no_sets v m.records (k m (inl refl)) (first_unused v m ms h))
    ∙ none_sets v ms (λ n a. k n (inr a)) (rest_unused v m ms h)

pub none_adds : (v : Text) (ms : List Module) → ((x : VariableUse) → IsAmong (v, x) (used_by_modules ms) → ⊥) → (y : Text) → live_adds v ms y ≡ 0
none_adds v [] h y = refl
none_adds v (m ∷ ms) h y =
    let a = no_adds v y m.records (first_unused v m ms h) in
    let i = none_adds v ms (rest_unused v m ms h) y in
    omega (arith, a, i)

pub none_pushes : (v : Text) (ms : List Module) → ((x : VariableUse) → IsAmong (v, x) (used_by_modules ms) → ⊥) → live_pushes v ms ≡ []
none_pushes v [] h = refl
none_pushes v (m ∷ ms) h =
    ap (λ (o : Option Text). with_push m.name o (live_pushes v ms)) (no_pushes v m.records (first_unused v m ms h))
    ∙ none_pushes v ms (rest_unused v m ms h)

-- What records set or unset they use so.

later_none : (o p : Option (Option Text)) → is_some o ≡ false → is_some (option_or o p) ≡ true → is_some p ≡ true
later_none None p h k = k
later_none (Some x) p h k = absurd (false≢true (sym h))

pub sets_used : (v : Text) (rs : List Record) → list_all can_return rs ≡ true → is_some (last_set v rs) ≡ true → (k : Option Text) × Uses rs v (Fixed k)
sets_used v [] k h = absurd (false≢true h)
sets_used v (r ∷ rs) k h =
    let b = both_true (can_return r) (list_all can_return rs) k in
    by_test (is_some (last_set v rs)) _
    (λ t. let p = sets_used v rs b.1 t in (p.0, used_later (v, Fixed p.0) r rs p.1))
    (λ t. let p = set_used v r b.0 (later_none (last_set v rs) (set_by v r) t h) in (p.0, used_first (v, Fixed p.0) r rs p.1))
