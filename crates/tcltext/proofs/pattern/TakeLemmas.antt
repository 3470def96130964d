-- A tail of a pattern with one more character in front, at a character of the text.
use Rattle.std.proofs.Common.{◌≡◌, ◌≢◌, ◌↔◌, ℕ, List, [], ◌∷◌, ◌++◌, true, false, Some, None, IsTrue, refl, sym, ap}
use Rattle.std.proofs.Common.{subst, arith, ◌⊎◌, inl, inr}
use Rattle.tcltext.specs.pattern.Patterns as pattern
use Rattle.tcltext.specs.pattern.Patterns.{star, question, open_bracket, backslash, IsMatch}
use Rattle.tcltext.specs.pattern.Search.Tails.{SetMatches}
use Rattle.tcltext.specs.pattern.Search.Windows.{first_of, without_first}
use Rattle.tcltext.proofs.pattern.PatternLemmas as parts
use Rattle.tcltext.proofs.pattern.PatternLemmas.{Parts, IfOneParts, match_parts}
use Rattle.tcltext.proofs.pattern.StepLemmas.{step_parts, set_step, escape_step, itself_step, itself_steps, any_steps}
use Rattle.tcltext.proofs.pattern.StepLemmas.{ordinary_star, match_steps, steps_go}

pub not_so : {P : Type 0} → (P → ⊥) → IsTrue false ↔ P
not_so n = (λ h. absurd (never h), λ p. absurd (n p)) where
  never : false ≡ true → ⊥
  never h = cc

pub then_iff : {A B C : Type 0} → (A ↔ B) → (B ↔ C) → (A ↔ C)
then_iff p q = (λ a. q.0 (p.0 a), λ c. p.1 (q.1 c))

pub flip_iff : {A B : Type 0} → (A ↔ B) → (B ↔ A)
flip_iff p = (p.1, p.0)

-- a star
never_one : (ps cs : List ℕ) → IfOneParts star ps cs → ⊥
never_one ps [] h = h
never_one ps (c ∷ cs) (parts.any k m) = omega (arith, k)
never_one ps (c ∷ cs) (parts.set rest k h m) = omega (arith, k)
never_one ps (c ∷ cs) (parts.after_backslash rest k h m) = omega (arith, k)
never_one ps (c ∷ cs) (parts.same h k m) = ordinary_star star h refl

split_star : (c : ℕ) (ps cs taken rest : List ℕ) → c ∷ cs ≡ taken ++ rest → IsMatch ps rest → IsMatch ps (c ∷ cs) ⊎ IsMatch (star ∷ ps) cs
split_star c ps cs [] rest e m = inl (subst (IsMatch ps) (sym e) m)
split_star c ps cs (x ∷ taken) rest e m = inr (subst (IsMatch (star ∷ ps)) (sym (same e)) (pattern.IsMatch.any_text taken m)) where
  same : c ∷ cs ≡ x ∷ (taken ++ rest) → cs ≡ taken ++ rest
  same e = cc

pub star_parts : (c : ℕ) (ps cs : List ℕ) → IsMatch (star ∷ ps) (c ∷ cs) → IsMatch ps (c ∷ cs) ⊎ IsMatch (star ∷ ps) cs
star_parts c ps cs m = cases (match_parts m) where
  cases : Parts (star ∷ ps) (c ∷ cs) → IsMatch ps (c ∷ cs) ⊎ IsMatch (star ∷ ps) cs
  cases (inl h) = split_star c ps cs h.1.0 h.1.1 h.1.2 h.1.3
  cases (inr h) = absurd (never_one ps (c ∷ cs) h)

pub star_takes : (c : ℕ) (ps cs : List ℕ) → IsMatch (star ∷ ps) cs → IsMatch (star ∷ ps) (c ∷ cs)
star_takes c ps cs m = cases (match_parts m) where
  cases : Parts (star ∷ ps) cs → IsMatch (star ∷ ps) (c ∷ cs)
  cases (inl h) = subst (λ xs. IsMatch (star ∷ ps) (c ∷ xs)) (sym h.1.2) (pattern.IsMatch.any_text (c ∷ h.1.0) h.1.3)
  cases (inr h) = absurd (never_one ps cs h)

-- a star takes no text at its end
pub star_ends : (ps : List ℕ) → IsMatch (star ∷ ps) [] → IsMatch ps []
star_ends ps m = cases (match_parts m) where
  nothing : (taken rest : List ℕ) → [] ≡ taken ++ rest → IsMatch ps rest → IsMatch ps []
  nothing [] rest e m = subst (IsMatch ps) (sym e) m
  nothing (x ∷ taken) rest e m = cc

  cases : Parts (star ∷ ps) [] → IsMatch ps []
  cases (inl h) = nothing h.1.0 h.1.1 h.1.2 h.1.3
  cases (inr h) = absurd h

pub star-now : (p c : ℕ) (xs cs : List ℕ) → p ≡ star → IsMatch xs (c ∷ cs) → IsMatch (p ∷ xs) (c ∷ cs)
star-now p c xs cs e m = subst (λ x. IsMatch (x ∷ xs) (c ∷ cs)) (sym e) (pattern.IsMatch.any_text [] m)

pub star-later : (p c : ℕ) (xs cs : List ℕ) → p ≡ star → (IsMatch xs (c ∷ cs) → ⊥) → IsMatch (p ∷ xs) cs ↔ IsMatch (p ∷ xs) (c ∷ cs)
star-later p c xs cs e n = subst (λ x. IsMatch (x ∷ xs) cs ↔ IsMatch (x ∷ xs) (c ∷ cs)) (sym e) (λ m. star_takes c xs cs m, λ m. cases (star_parts c xs cs m)) where
  cases : IsMatch xs (c ∷ cs) ⊎ IsMatch (star ∷ xs) cs → IsMatch (star ∷ xs) cs
  cases (inl m) = absurd (n m)
  cases (inr m) = m

-- any character
pub any_takes : (p c : ℕ) (xs cs : List ℕ) → p ≡ question → IsMatch xs cs ↔ IsMatch (p ∷ xs) (c ∷ cs)
any_takes p c xs cs e = flip_iff (steps_go p c xs xs (λ k. omega arith) (any_steps p c xs e) cs)

-- a set
pub set_takes : (p c : ℕ) (xs cs : List ℕ) → p ≡ open_bracket → SetMatches c xs cs ↔ IsMatch (p ∷ xs) (c ∷ cs)
set_takes p c xs cs e = (
  λ h. subst (λ x. IsMatch (x ∷ xs) (c ∷ cs)) (sym e) (pattern.IsMatch.in_set h.1 h.2),
  λ m. (let s = match_steps p c xs cs (λ k. omega arith) m in (s.0, set_step p c xs s.0 e (step_parts s.1.0), s.1.1)),
)

-- behind a backslash
first_split : (xs : List ℕ) (c : ℕ) → first_of xs ≡ Some c → xs ≡ c ∷ without_first xs
first_split [] c e = absurd (nothing e) where
  nothing : None ≡ Some c → ⊥
  nothing e = cc
first_split (x ∷ xs) c e = ap (λ y. y ∷ xs) (same e) where
  same : Some x ≡ Some c → x ≡ c
  same e = cc

pub escape_takes : (p c : ℕ) (xs cs : List ℕ) → p ≡ backslash → first_of xs ≡ Some c → IsMatch (without_first xs) cs ↔ IsMatch (p ∷ xs) (c ∷ cs)
escape_takes p c xs cs e f = (
  λ m. subst (λ x. IsMatch (x ∷ xs) (c ∷ cs)) (sym e) (subst (λ ys. IsMatch (backslash ∷ ys) (c ∷ cs)) (sym (first_split xs c f)) (pattern.IsMatch.escaped m)),
  λ m. (let s = match_steps p c xs cs (λ k. omega arith) m in
      subst (λ ys. IsMatch ys cs) (sym (ap without_first (escape_step p c xs s.0 e (step_parts s.1.0)))) s.1.1),
)

pub escape_none : (p c : ℕ) (xs cs : List ℕ) → p ≡ backslash → (first_of xs ≡ Some c → ⊥) → IsTrue false ↔ IsMatch (p ∷ xs) (c ∷ cs)
escape_none p c xs cs e n = not_so (λ m.
    (let s = match_steps p c xs cs (λ k. omega arith) m in n (ap first_of (escape_step p c xs s.0 e (step_parts s.1.0)))))

-- itself
pub itself_takes : (p c : ℕ) (xs cs : List ℕ) → p ≢ star → p ≢ question → p ≢ open_bracket → p ≢ backslash → p ≡ c → IsMatch xs cs ↔ IsMatch (p ∷ xs) (c ∷ cs)
itself_takes p c xs cs s x y z e = flip_iff (steps_go p c xs xs s (itself_steps p c xs s x y z e) cs)

pub itself_none : (p c : ℕ) (xs cs : List ℕ) → p ≢ star → p ≢ question → p ≢ open_bracket → p ≢ backslash → p ≢ c → IsMatch (p ∷ xs) (c ∷ cs) → ⊥
itself_none p c xs cs s x y z n m = let t = match_steps p c xs cs s m in n (itself_step p c xs t.0 x y z (step_parts t.1.0)).0
