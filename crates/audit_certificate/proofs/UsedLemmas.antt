-- Members of lists, and what modules use.
use Rattle.std.proofs.Common.{◌≡◌, ◌⊎◌, inl, inr, Bool, true, false, cond, ◌||◌, List, [], ◌∷◌, ◌++◌, refl, sym, ap}
use Rattle.std.proofs.Common.{◌∙◌, subst, Option, Some, None}
use Rattle.std.specs.Prelude.{bytes_eq}
use Rattle.std.specs.List.{cons_option}
use Rattle.std.proofs.lemmas.Bool.{false≢true}
use Rattle.envvars.specs.Texts.{Text}
use Rattle.envvars.proofs.TextLemmas.{same_text, bytes_eq-same}
use Rattle.modulefile.specs.Records.{Record}
use Rattle.modulefile.specs.Moves.{Module}
use Rattle.reversal.specs.VariableUses.{VariableUse, Untouched, UsedVariable, use_by}
use Rattle.audit_certificate.specs.RecordUses.{used_by, used_by_modules, IsAmong, Uses, first_use}

pub by_test : (t : Bool) (P : Type 0) → (t ≡ true → P) → (t ≡ false → P) → P
by_test true P f g = f refl
by_test false P f g = g refl

pub by_cases : {A B P : Type 0} → A ⊎ B → (A → P) → (B → P) → P
by_cases (inl a) f g = f a
by_cases (inr b) f g = g b

pub neither : (a b : Bool) → a ≡ false → b ≡ false → (a || b) ≡ false
neither a b h k = rw (h, k) refl

-- members

pub among_left : {X : Type 0} (x : X) (xs ys : List X) → IsAmong x xs → IsAmong x (xs ++ ys)
among_left x [] ys h = absurd h
among_left x (y ∷ xs) ys (inl e) = inl e
among_left x (y ∷ xs) ys (inr h) = inr (among_left x xs ys h)

pub among_right : {X : Type 0} (x : X) (xs ys : List X) → IsAmong x ys → IsAmong x (xs ++ ys)
among_right x [] ys h = h
among_right x (y ∷ xs) ys h = inr (among_right x xs ys h)

pub among_either : {X : Type 0} (x : X) (xs ys : List X) → IsAmong x (xs ++ ys) → IsAmong x xs ⊎ IsAmong x ys
among_either x [] ys h = inr h
among_either x (y ∷ xs) ys (inl e) = inl (inl e)
among_either x (y ∷ xs) ys (inr h) = by_cases (among_either x xs ys h) (λ k. inl (inr k)) (λ k. inr k)

-- of records

pub cons_first : {X : Type 0} (x : X) (o : Option X) (xs : List X) → o ≡ Some x → IsAmong x (cons_option o xs)
cons_first {X} x o xs h = subst (λ (p : Option X). IsAmong x (cons_option p xs)) (sym h) (inl refl)

pub cons_later : {X : Type 0} (x : X) (o : Option X) (xs : List X) → IsAmong x xs → IsAmong x (cons_option o xs)
cons_later x None xs h = h
cons_later x (Some y) xs h = inr h

pub cons_either : {X : Type 0} (x : X) (o : Option X) (xs : List X) → IsAmong x (cons_option o xs) → (o ≡ Some x) ⊎ IsAmong x xs
cons_either x None xs h = inr h
cons_either x (Some y) xs (inl e) = inl (ap Some (sym e))
cons_either x (Some y) xs (inr h) = inr h

pub used_first : (p : UsedVariable) (r : Record) (rs : List Record) → use_by r ≡ Some p → IsAmong p (used_by (r ∷ rs))
used_first p r rs h = cons_first p (use_by r) (used_by rs) h

pub used_later : (p : UsedVariable) (r : Record) (rs : List Record) → IsAmong p (used_by rs) → IsAmong p (used_by (r ∷ rs))
used_later p r rs h = cons_later p (use_by r) (used_by rs) h

-- of modules

pub used_among : (v : Text) (x : VariableUse) (m : Module) (ms : List Module) → IsAmong m ms → Uses m.records v x → IsAmong (v, x) (used_by_modules ms)
used_among v x m [] h u = absurd h
used_among v x m (n ∷ ms) (inl e) u = among_left (v, x) (used_by n.records) (used_by_modules ms) (subst (λ (k : Module). Uses k.records v x) e u)
used_among v x m (n ∷ ms) (inr h) u = among_right (v, x) (used_by n.records) (used_by_modules ms) (used_among v x m ms h u)

pub record UsedBy (v : Text) (x : VariableUse) (ms : List Module) : Type 0 where
  pub user : Module
  pub there : IsAmong user ms
  pub uses : Uses user.records v x

pub user_of : (v : Text) (x : VariableUse) (ms : List Module) → IsAmong (v, x) (used_by_modules ms) → UsedBy v x ms
user_of v x [] h = absurd h
user_of v x (n ∷ ms) h = by_cases (among_either (v, x) (used_by n.records) (used_by_modules ms) h)
    (λ u. record { user = n; there = inl refl; uses = u })
    (λ k. let p = user_of v x ms k in record { user = p.user; there = inr p.there; uses = p.uses })

-- the first use of a variable

pub record Unused (v : Text) (ps : List UsedVariable) : Type 0 where
  pub untouched : first_use v ps ≡ Untouched
  pub none : (x : VariableUse) → IsAmong (v, x) ps → ⊥

first_hit : (v : Text) (p : UsedVariable) (ps : List UsedVariable) → bytes_eq v p.0 ≡ true → (v, first_use v (p ∷ ps)) ≡ p
first_hit v p ps t = let use_is : first_use v (p ∷ ps) ≡ p.1 = ap (λ (b : Bool). cond b p.1 (first_use v ps)) t in let same : v ≡ p.0 = same_text v p.0 t in λ i. (same i, use_is i)

first_miss : (v : Text) (p : UsedVariable) (ps : List UsedVariable) → bytes_eq v p.0 ≡ false → first_use v (p ∷ ps) ≡ first_use v ps
first_miss v p ps t = ap (λ (b : Bool). cond b p.1 (first_use v ps)) t

other_variable : (v : Text) (x : VariableUse) (p : UsedVariable) → bytes_eq v p.0 ≡ false → (v, x) ≡ p → ⊥
other_variable v x p t e = false≢true (sym t ∙ ap (λ (w : Text). bytes_eq w p.0) (ap (λ (q : UsedVariable). q.0) e) ∙ bytes_eq-same p.0)

pub first_or_none : (v : Text) (ps : List UsedVariable) → IsAmong (v, first_use v ps) ps ⊎ Unused v ps
first_or_none v [] = inr (record { untouched = refl; none = λ x h. h })
first_or_none v (p ∷ ps) = by_test (bytes_eq v p.0) _
    (λ t. inl (inl (first_hit v p ps t)))
    (λ t. by_cases (first_or_none v ps)
    (λ a. inl (subst (λ (y : VariableUse). IsAmong (v, y) (p ∷ ps)) (sym (first_miss v p ps t)) (inr a)))
    (λ a. inr (record { untouched = first_miss v p ps t ∙ a.untouched; none = λ x h. by_cases h (λ e. other_variable v x p t e) (λ k. a.none x k) })))
