-- The brace that closes is the first one behind a text whose braces match.
use Rattle.std.proofs.Common.{◌≡◌, ◌≢◌, ℕ, zero, suc, List, [], ◌∷◌, ◌++◌, Bool, true, false, ◌==◌, Option, Some, None}
use Rattle.std.proofs.Common.{refl, sym, ap, ap₂, subst, ◌∙◌, arith, append_assoc, append-nil}
use Rattle.std.proofs.lemmas.Bool.Decides.{nat_tests}
use Rattle.tcltext.specs.chars.Braces.{Balanced, nothing, other, escaped, inner, brace_step, after_step, with_first}
use Rattle.tcltext.specs.chars.Braces.{braced_at}
use Rattle.tcltext.proofs.chars.BraceLemmas.{Found, behind_all, behind_all-nil, braced_at-nil, braced_at-cons}

-- Braces: what closes behind so many more
abbrev pub Closes : ℕ → List ℕ → Type 0
Closes zero bs = Balanced bs
Closes (suc d) bs = (a : List ℕ) × (b : List ℕ) × (bs ≡ a ++ (125 ∷ b)) × Balanced a × Closes d b

-- behind a backslash one byte is passed over
abbrev pub ClosesAfter : Bool → ℕ → List ℕ → Type 0
ClosesAfter true d bs = (b : ℕ) × (more : List ℕ) × (bs ≡ b ∷ more) × Closes d more
ClosesAfter false d bs = Closes d bs

closes_other : (d b : ℕ) (bs : List ℕ) → b ≢ 92 → b ≢ 123 → b ≢ 125 → Closes d bs → Closes d (b ∷ bs)
closes_other zero b bs x y z h = other x y z h
closes_other (suc d) b bs x y z h = (b ∷ h.0, h.1, ap (λ xs. b ∷ xs) h.2, other x y z h.3, h.4)

closes_escaped : (d b : ℕ) (bs : List ℕ) → Closes d bs → Closes d (92 ∷ (b ∷ bs))
closes_escaped zero b bs h = escaped h
closes_escaped (suc d) b bs h = (92 ∷ (b ∷ h.0), h.1, ap (λ xs. 92 ∷ (b ∷ xs)) h.2, escaped h.3, h.4)

closes_inner : (d : ℕ) (inside bs : List ℕ) → Balanced inside → Closes d bs → Closes d (123 ∷ (inside ++ 125 ∷ bs))
closes_inner zero inside bs i h = inner i h
closes_inner (suc d) inside bs i h =
    (123 ∷ (inside ++ 125 ∷ h.0), h.1, ap (λ xs. 123 ∷ (inside ++ 125 ∷ xs)) h.2 ∙ ap (λ xs. 123 ∷ xs) (sym (append_assoc inside (125 ∷ h.0) (125 ∷ h.1))), inner i h.3, h.4)

closes_open : (d : ℕ) (bs : List ℕ) → Closes (suc d) bs → Closes d (123 ∷ bs)
closes_open d bs h = rw (h.2) (closes_inner d h.0 h.1 h.3 h.4)

behind_some : (b : ℕ) (found : Option (List ℕ × List ℕ)) (f r : List ℕ) → with_first b found ≡ Some (f, r) → (g : List ℕ) × (found ≡ Some (g, r)) × (f ≡ b ∷ g)
behind_some b None f r h = cc
behind_some b (Some p) f r h =
    let e : (b ∷ p.0, p.1) ≡ (f, r) = cc in
    (p.0, ap (λ s. Some (p.0, s)) (ap (λ (x : List ℕ × List ℕ). x.1) e), sym (ap (λ (x : List ℕ × List ℕ). x.0) e))

abbrev Closed : Bool → ℕ → List ℕ → List ℕ → List ℕ → Type 0
Closed e d bs f r = (bs ≡ f ++ 125 ∷ r) × ClosesAfter e d f

abbrev AllClose : List ℕ → Type 0
AllClose bs = (e : Bool) (d : ℕ) (f r : List ℕ) → braced_at e d bs ≡ Some (f, r) → Closed e d bs f r

pub is_byte : (b c : ℕ) → (b == c) ≡ true → b ≡ c
is_byte b c h = grind (arith, nat_tests)

pub is_no_byte : (b c : ℕ) → (b == c) ≡ false → b ≢ c
is_no_byte b c h = grind (arith, nat_tests)

pub brace_step-escape : (d b : ℕ) → (b == 92) ≡ true → brace_step false d b ≡ Some (true, d)
brace_step-escape zero b h = rw h refl
brace_step-escape (suc d) b h = rw h refl

pub brace_step-open : (d b : ℕ) → (b == 92) ≡ false → (b == 123) ≡ true → brace_step false d b ≡ Some (false, suc d)
brace_step-open zero b h k = rw (h, k) refl
brace_step-open (suc d) b h k = rw (h, k) refl

pub brace_step-other : (d b : ℕ) → (b == 92) ≡ false → (b == 123) ≡ false → (b == 125) ≡ false → brace_step false d b ≡ Some (false, d)
brace_step-other zero b h k l = rw (h, k, l) refl
brace_step-other (suc d) b h k l = rw (h, k, l) refl

pub brace_step-close : (b : ℕ) → (b == 92) ≡ false → (b == 123) ≡ false → (b == 125) ≡ true → brace_step false zero b ≡ None
brace_step-close b h k l = rw (h, k, l) refl

pub brace_step-less : (d b : ℕ) → (b == 92) ≡ false → (b == 123) ≡ false → (b == 125) ≡ true → brace_step false (suc d) b ≡ Some (false, d)
brace_step-less d b h k l = rw (h, k, l) refl

-- one byte that doesn't close
close_more : (b : ℕ) (bs : List ℕ) (e : Bool) (d : ℕ) (f r : List ℕ) → AllClose bs
    → with_first b (braced_at e d bs) ≡ Some (f, r) → (g : List ℕ) × (f ≡ b ∷ g) × (b ∷ bs ≡ f ++ 125 ∷ r)
    × ClosesAfter e d g
close_more b bs e d f r all h =
    let found = behind_some b (braced_at e d bs) f r h in
    let so = all e d found.0 r found.1 in
    (found.0, found.2, ap (λ xs. b ∷ xs) so.0 ∙ ap (λ xs. xs ++ 125 ∷ r) (sym found.2), so.1)

after_some : (b : ℕ) (bs : List ℕ) (e : Bool) (d : ℕ) (step : Option (Bool × ℕ)) (f r : List ℕ) → step ≡ Some (e, d)
    → after_step b bs (λ e d. braced_at e d bs) step ≡ Some (f, r) → with_first b (braced_at e d bs) ≡ Some (f, r)
after_some b bs e d step f r is h = sym (ap (after_step b bs (λ e d. braced_at e d bs)) is) ∙ h

close_cases : (b : ℕ) (bs : List ℕ) (d : ℕ) (f r : List ℕ) (t u v : Bool) → (b == 92) ≡ t → (b == 123) ≡ u → (b == 125) ≡ v → AllClose bs
    → after_step b bs (λ e d. braced_at e d bs) (brace_step false d b) ≡ Some (f, r) → Closed false d (b ∷ bs) f r
close_cases b bs d f r true u v t' u' v' all h =
    let m = close_more b bs true d f r all (after_some b bs true d _ f r (brace_step-escape d b t') h) in
    (m.2, subst (Closes d) (sym (m.1 ∙ ap₂ (λ (x : ℕ) (xs : List ℕ). x ∷ xs) (is_byte b 92 t') m.3.2)) (closes_escaped d m.3.0 m.3.1 m.3.3))
close_cases b bs d f r false true v t' u' v' all h =
    let m = close_more b bs false (suc d) f r all (after_some b bs false (suc d) _ f r (brace_step-open d b t' u') h) in
    (m.2, subst (Closes d) (sym (m.1 ∙ ap (λ (x : ℕ). x ∷ m.0) (is_byte b 123 u'))) (closes_open d m.0 m.3))
close_cases b bs d f r false false false t' u' v' all h =
    let m = close_more b bs false d f r all (after_some b bs false d _ f r (brace_step-other d b t' u' v') h) in
    (m.2, subst (Closes d) (sym m.1) (closes_other d b m.0 (is_no_byte b 92 t') (is_no_byte b 123 u') (is_no_byte b 125 v') m.3))
close_cases b bs zero f r false false true t' u' v' all h =
    let e : Some ([], bs) ≡ Some (f, r) = sym (ap (after_step b bs (λ e d. braced_at e d bs)) (brace_step-close b t' u' v')) ∙ h in
    let p : (let p : List ℕ × List ℕ = ([], bs) in p) ≡ (f, r) = cc in
    let none : [] ≡ f = ap (λ (x : List ℕ × List ℕ). x.0) p in
    let rest : bs ≡ r = ap (λ (x : List ℕ × List ℕ). x.1) p in
    (ap₂ (λ (x : ℕ) (xs : List ℕ). x ∷ xs) (is_byte b 125 v') rest ∙ ap (λ xs. xs ++ 125 ∷ r) none, subst Balanced none nothing)
close_cases b bs (suc d) f r false false true t' u' v' all h =
    let m = close_more b bs false d f r all (after_some b bs false d _ f r (brace_step-less d b t' u' v') h) in
    (m.2, ([], m.0, m.1 ∙ ap (λ (x : ℕ). x ∷ m.0) (is_byte b 125 v'), nothing, m.3))

close_step : (b : ℕ) (bs : List ℕ) (e : Bool) (d : ℕ) (f r : List ℕ) → AllClose bs → after_step b bs (λ e d. braced_at e d bs) (brace_step e d b) ≡ Some (f, r) → Closed e d (b ∷ bs) f r
close_step b bs true d f r all h =
    let m = close_more b bs false d f r all h in
    (m.2, (b, m.0, m.1, m.3))
close_step b bs false d f r all h = close_cases b bs d f r (b == 92) (b == 123) (b == 125) refl refl refl all h

none_some : {A : Type 0} (x : A) → None ≡ Some x → ⊥
none_some x h = cc

pub close_sound : (bs : List ℕ) (e : Bool) (d : ℕ) (f r : List ℕ) → braced_at e d bs ≡ Some (f, r) → Closed e d bs f r
close_sound [] e d f r h = absurd (none_some (f, r) (sym (braced_at-nil e d) ∙ h))
close_sound (b ∷ bs) e d f r h = close_step b bs e d f r (close_sound bs) (sym (braced_at-cons e d b bs) ∙ h)

-- Braces
behind_all-cons : (b : ℕ) (bs : List ℕ) (found : Found) → with_first b (behind_all bs found) ≡ behind_all (b ∷ bs) found
behind_all-cons b bs None = refl
behind_all-cons b bs (Some p) = refl

behind_all-append : (xs ys : List ℕ) (found : Found) → behind_all xs (behind_all ys found) ≡ behind_all (xs ++ ys) found
behind_all-append xs ys None = refl
behind_all-append xs ys (Some p) = ap (λ zs. Some (zs, p.1)) (sym (append_assoc xs ys p.0))

no_test : (b c : ℕ) → b ≢ c → (b == c) ≡ false
no_test b c h = grind (arith, nat_tests)

step_on : (e e' : Bool) (d d' b : ℕ) (bs : List ℕ) → brace_step e d b ≡ Some (e', d') → braced_at e d (b ∷ bs) ≡ with_first b (braced_at e' d' bs)
step_on e e' d d' b bs h = braced_at-cons e d b bs ∙ ap (after_step b bs (λ e d. braced_at e d bs)) h

pub balanced_read : {bs : List ℕ} → Balanced bs → (d : ℕ) (rest : List ℕ) → braced_at false d (bs ++ rest) ≡ behind_all bs (braced_at false d rest)
balanced_read nothing d rest = behind_all-nil _
balanced_read (other {b} {bs} x y z h) d rest =
    step_on false false d d b (bs ++ rest) (brace_step-other d b (no_test b 92 x) (no_test b 123 y) (no_test b 125 z))
    ∙ ap (with_first b) (balanced_read h d rest) ∙ behind_all-cons b bs _
balanced_read (escaped {b} {bs} h) d rest =
    step_on false true d d 92 (b ∷ (bs ++ rest)) (brace_step-escape d 92 refl)
    ∙ ap (with_first 92) (step_on true false d d b (bs ++ rest) refl ∙ ap (with_first b) (balanced_read h d rest) ∙ behind_all-cons b bs _) ∙ behind_all-cons 92 (b ∷ bs) _
balanced_read (inner {inside} {bs} h k) d rest =
    ap (λ xs. braced_at false d (123 ∷ xs)) (append_assoc inside (125 ∷ bs) rest)
    ∙ step_on false false d (suc d) 123 (inside ++ 125 ∷ (bs ++ rest)) (brace_step-open d 123 refl refl)
    ∙ ap (with_first 123) (balanced_read h (suc d) (125 ∷ (bs ++ rest))
    ∙ ap (behind_all inside) (step_on false false (suc d) d 125 (bs ++ rest) (brace_step-less d 125 refl refl refl)
    ∙ ap (with_first 125) (balanced_read k d rest) ∙ behind_all-cons 125 bs _)
    ∙ behind_all-append inside (125 ∷ bs) _)
    ∙ behind_all-cons 123 (inside ++ 125 ∷ bs) _

pub found_close : (inside rest : List ℕ) → Balanced inside → braced_at false 0 (inside ++ 125 ∷ rest) ≡ Some (inside, rest)
found_close inside rest h =
    balanced_read h 0 (125 ∷ rest)
    ∙ ap (λ x. behind_all inside x) (braced_at-cons false 0 125 rest ∙ ap (after_step 125 rest (λ e d. braced_at e d rest)) (brace_step-close 125 refl refl refl))
    ∙ ap (λ xs. Some (xs, rest)) (append-nil inside)
