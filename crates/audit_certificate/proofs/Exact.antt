-- The tests are those of the definitions.
use Rattle.std.proofs.Common.{◌≡◌, Bool, true, false, cond, not, ◌&&◌, ◌||◌, List, [], ◌∷◌, filter, refl, sym, ap, ◌∙◌}
use Rattle.std.proofs.Common.{subst, Option, Some, None, inl, inr}
use Rattle.std.specs.Prelude.{bytes_eq}
use Rattle.std.specs.List.{list_all, list_any}
use Rattle.std.specs.Option.{option_eq}
use Rattle.std.proofs.lemmas.Bool.{false≢true, eqb-true, eq-eqb, and_parts, and_from, or_cases}
use Rattle.envvars.specs.Texts.{Text}
use Rattle.envvars.specs.Fields.{colon}
use Rattle.envvars.proofs.TextLemmas.{same_text, bytes_eq-same}
use Rattle.audit_certificate.specs.Candidates.{Candidate, uses_of, HasUse}
use Rattle.reversal.specs.VariableUses.{VariableUse, Untouched, Fixed, Absent, Pathed, Stacked, can_return}
use Rattle.reversal.specs.VariableUses.{UsedVariable}
use Rattle.audit_certificate.specs.RecordUses.{IsAmong, modulepath, is_read, same_use, is_same_use}
use Rattle.audit_certificate.specs.Steps.{AreConsistent, IsConsistent, are_consistent, is_consistent}
use Rattle.audit_certificate.specs.Clashes.{are_mutually_exclusive, uses_clash, Clash, do_clash_by, do_clash}
use Rattle.audit_certificate.proofs.UsedLemmas.{by_test, by_cases}

-- tests of lists

pub all_each : {X : Type 0} (p : X → Bool) (xs : List X) → list_all p xs ≡ true → (x : X) → IsAmong x xs → p x ≡ true
all_each p [] h x a = absurd a
all_each p (y ∷ xs) h x (inl e) = ap p e ∙ (and_parts (p y) (list_all p xs) h).0
all_each p (y ∷ xs) h x (inr a) = all_each p xs (and_parts (p y) (list_all p xs) h).1 x a

each_all : {X : Type 0} (p : X → Bool) (xs : List X) → ((x : X) → IsAmong x xs → p x ≡ true) → list_all p xs ≡ true
each_all p [] h = refl
each_all p (y ∷ xs) h = and_from (p y) (list_all p xs) (h y (inl refl)) (each_all p xs (λ x a. h x (inr a)))

pub any_some : {X : Type 0} (p : X → Bool) (xs : List X) → list_any p xs ≡ true → (x : X) × IsAmong x xs × (p x ≡ true)
any_some p [] h = absurd (false≢true h)
any_some p (y ∷ xs) h = by_cases (or_cases (p y) (list_any p xs) h)
    (λ t. (y, inl refl, t))
    (λ t. let i = any_some p xs t in (i.0, inr i.1, i.2))

pub some_any : {X : Type 0} (p : X → Bool) (xs : List X) (x : X) → IsAmong x xs → p x ≡ true → list_any p xs ≡ true
some_any p [] x a h = absurd a
some_any p (y ∷ xs) x (inl e) h = let t : p y ≡ true = ap p (sym e) ∙ h in rw t refl
some_any p (y ∷ xs) x (inr a) h = or_true (p y) (list_any p xs) (some_any p xs x a h)
  where
    or_true : (c d : Bool) → d ≡ true → (c || d) ≡ true
    or_true true d k = refl
    or_true false d k = k

pub filtered : {X : Type 0} (p : X → Bool) (xs : List X) (x : X) → IsAmong x (filter p xs) → IsAmong x xs × (p x ≡ true)
filtered p [] x a = absurd a
filtered p (y ∷ xs) x a = by_test (p y) _
    (λ t. by_cases (subst (λ (b : Bool). IsAmong x (cond b (y ∷ filter p xs) (filter p xs))) t a)
    (λ e. (inl e, ap p e ∙ t))
    (λ k. let i = filtered p xs x k in (inr i.0, i.1)))
    (λ t. let i = filtered p xs x (subst (λ (b : Bool). IsAmong x (cond b (y ∷ filter p xs) (filter p xs))) t a) in (inr i.0, i.1))

pub in_filter : {X : Type 0} (p : X → Bool) (xs : List X) (x : X) → IsAmong x xs → p x ≡ true → IsAmong x (filter p xs)
in_filter p [] x a h = absurd a
in_filter p (y ∷ xs) x (inl e) h = subst (λ (b : Bool). IsAmong x (cond b (y ∷ filter p xs) (filter p xs))) (sym (ap p (sym e) ∙ h)) (inl e)
in_filter p (y ∷ xs) x (inr a) h = more (p y) (in_filter p xs x a h)
  where
    more : (b : Bool) → IsAmong x (filter p xs) → IsAmong x (cond b (y ∷ filter p xs) (filter p xs))
    more true k = inr k
    more false k = k

-- uses

option_same : (x y : Option Text) → option_eq bytes_eq x y ≡ true → x ≡ y
option_same None None h = refl
option_same None (Some y) h = absurd (false≢true h)
option_same (Some x) None h = absurd (false≢true h)
option_same (Some x) (Some y) h = ap (λ (t : Text). Some t) (same_text x y h)

option_itself : (x : Option Text) → option_eq bytes_eq x x ≡ true
option_itself None = refl
option_itself (Some x) = bytes_eq-same x

pub use_same : (x y : VariableUse) → same_use x y ≡ true → x ≡ y
use_same Untouched Untouched h = refl
use_same Untouched (Fixed a) h = absurd (false≢true h)
use_same Untouched Absent h = absurd (false≢true h)
use_same Untouched (Pathed a) h = absurd (false≢true h)
use_same Untouched Stacked h = absurd (false≢true h)
use_same (Fixed a) Untouched h = absurd (false≢true h)
use_same (Fixed a) (Fixed b) h = ap Fixed (option_same a b h)
use_same (Fixed a) Absent h = absurd (false≢true h)
use_same (Fixed a) (Pathed b) h = absurd (false≢true h)
use_same (Fixed a) Stacked h = absurd (false≢true h)
use_same Absent Untouched h = absurd (false≢true h)
use_same Absent (Fixed b) h = absurd (false≢true h)
use_same Absent Absent h = refl
use_same Absent (Pathed b) h = absurd (false≢true h)
use_same Absent Stacked h = absurd (false≢true h)
use_same (Pathed a) Untouched h = absurd (false≢true h)
use_same (Pathed a) (Fixed b) h = absurd (false≢true h)
use_same (Pathed a) Absent h = absurd (false≢true h)
use_same (Pathed a) (Pathed b) h = ap Pathed (eqb-true a b h)
use_same (Pathed a) Stacked h = absurd (false≢true h)
use_same Stacked Untouched h = absurd (false≢true h)
use_same Stacked (Fixed b) h = absurd (false≢true h)
use_same Stacked Absent h = absurd (false≢true h)
use_same Stacked (Pathed b) h = absurd (false≢true h)
use_same Stacked Stacked h = refl

pub use_itself : (x : VariableUse) → same_use x x ≡ true
use_itself Untouched = refl
use_itself (Fixed a) = option_itself a
use_itself Absent = refl
use_itself (Pathed a) = eq-eqb a a refl
use_itself Stacked = refl

same_bytes : (v w : Text) → v ≡ w → bytes_eq v w ≡ true
same_bytes v w e = ap (λ (t : Text). bytes_eq t w) e ∙ bytes_eq-same w

alike_at : (b s : Bool) → (not b || s) ≡ true → b ≡ true → s ≡ true
alike_at true s h t = h
alike_at false s h t = absurd (false≢true t)

used_at : (r o : Bool) → (r || o) ≡ true → r ≡ false → o ≡ true
used_at true o h f = absurd (false≢true (sym f))
used_at false o h f = h

-- one that isn't read
alike : (p q : UsedVariable) → is_same_use p q ≡ true → is_read p.1 ≡ false → p.0 ≡ q.0 → p.1 ≡ q.1
alike p q h r e = use_same p.1 q.1 (alike_at (bytes_eq p.0 q.0) (same_use p.1 q.1) (used_at (is_read p.1) (not (bytes_eq p.0 q.0) || same_use p.1 q.1) h r) (same_bytes p.0 q.0 e))

pub is_untouched : (x : VariableUse) → is_read x ≡ true → x ≡ Untouched
is_untouched Untouched h = refl
is_untouched (Fixed a) h = absurd (false≢true h)
is_untouched Absent h = absurd (false≢true h)
is_untouched (Pathed d) h = absurd (false≢true h)
is_untouched Stacked h = absurd (false≢true h)

-- each as the other
both_alike : (p q : UsedVariable) → is_same_use p q ≡ true → is_same_use q p ≡ true → p.0 ≡ q.0 → p.1 ≡ q.1
both_alike p q h k e = by_test (is_read p.1) _
    (λ t. by_test (is_read q.1) _
    (λ u. is_untouched p.1 t ∙ sym (is_untouched q.1 u))
    (λ f. sym (alike q p k f (sym e))))
    (λ f. alike p q h f e)

alike_or : (r b s : Bool) → (b ≡ true → s ≡ true) → (r || (not b || s)) ≡ true
alike_or true b s h = refl
alike_or false true s h = h refl
alike_or false false s h = refl

to_alike : (p q : UsedVariable) → (p.0 ≡ q.0 → p.1 ≡ q.1) → is_same_use p q ≡ true
to_alike p q h = alike_or (is_read p.1) (bytes_eq p.0 q.0) (same_use p.1 q.1)
    (λ t. ap (same_use p.1) (sym (h (same_text p.0 q.0 t))) ∙ use_itself p.1)

read_alike : (p q : UsedVariable) → (is_read p.1 ≡ false → p.0 ≡ q.0 → p.1 ≡ q.1) → is_same_use p q ≡ true
read_alike p q h = by_test (is_read p.1) _ (λ t. rw t refl) (λ f. to_alike p q (h f))

-- consistent modules

abbrev modulepath_colons : UsedVariable
modulepath_colons = (modulepath, Pathed colon)

abbrev suits_all : List UsedVariable → UsedVariable → Bool
suits_all ps p = is_same_use p modulepath_colons && list_all (is_same_use p) ps

suits_at : (ps : List UsedVariable) → are_consistent ps ≡ true → (p : UsedVariable) → IsAmong p ps → (is_same_use p modulepath_colons ≡ true) × (list_all (is_same_use p) ps ≡ true)
suits_at ps h p a = and_parts (is_same_use p modulepath_colons) (list_all (is_same_use p) ps) (all_each (suits_all ps) ps h p a)

steps : (ps : List UsedVariable) → are_consistent ps ≡ true → AreConsistent ps
steps ps h = record {
  one_use = λ v x y a b. both_alike (v, x) (v, y)
      (all_each (is_same_use (v, x)) ps (suits_at ps h (v, x) a).1 (v, y) b) (all_each (is_same_use (v, y)) ps (suits_at ps h (v, y) b).1 (v, x) a) refl;
  modulepath = λ x a r. alike (modulepath, x) modulepath_colons (suits_at ps h (modulepath, x) a).0 r refl;
}

to_steps : (ps : List UsedVariable) → AreConsistent ps → are_consistent ps ≡ true
to_steps ps s = each_all (suits_all ps) ps (λ p a. and_from (is_same_use p modulepath_colons) (list_all (is_same_use p) ps)
    (read_alike p modulepath_colons (λ r e. s.modulepath p.1 (subst (λ (w : Text). IsAmong (w, p.1) ps) e a) r))
    (each_all (is_same_use p) ps (λ q b. to_alike p q (λ e. s.one_use p.0 p.1 q.1 a (subst (λ (w : Text). IsAmong (w, q.1) ps) (sym e) b)))))

pub consistent : (m : Candidate) → is_consistent m ≡ true → IsConsistent m
consistent m h = let p = and_parts (list_all can_return m.records) (are_consistent (uses_of m)) h in record { returns = p.0; consistent = steps (uses_of m) p.1 }

pub to_consistent : (m : Candidate) → IsConsistent m → is_consistent m ≡ true
to_consistent m s = and_from (list_all can_return m.records) (are_consistent (uses_of m)) s.returns (to_steps (uses_of m) s.consistent)

-- modules that clash

pub record SomeClash (m n : Candidate) : Type 0 where
  pub variable : Text
  pub one : VariableUse
  pub other : VariableUse
  pub clash : Clash m n variable one other

pub clashes : (m n : Candidate) → do_clash m n ≡ true → SomeClash m n
clashes m n h =
    let p = any_some (λ p. list_any (do_clash_by m n p) (uses_of n)) (uses_of m) h in
    let q = any_some (do_clash_by m n p.0) (uses_of n) p.2 in
    let t = and_parts (bytes_eq p.0.0 q.0.0) (uses_clash (are_mutually_exclusive m n p.0.1 q.0.1) p.0.1 q.0.1) q.2 in
    record {
      variable = p.0.0;
      one = p.0.1;
      other = q.0.1;
      clash = record {
        first = p.1;
        second = subst (λ (w : Text). HasUse n w q.0.1) (sym (same_text p.0.0 q.0.0 t.0)) q.1;
        clash = t.1;
      };
    }

pub to_clashes : (m n : Candidate) (v : Text) (x y : VariableUse) → Clash m n v x y → do_clash m n ≡ true
to_clashes m n v x y c =
    some_any (λ p. list_any (do_clash_by m n p) (uses_of n)) (uses_of m) (v, x) c.first
    (some_any (do_clash_by m n (v, x)) (uses_of n) (v, y) c.second (and_from (bytes_eq v v) (uses_clash (are_mutually_exclusive m n x y) x y) (bytes_eq-same v) c.clash))
