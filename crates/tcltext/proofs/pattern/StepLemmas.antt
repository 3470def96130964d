-- A character of the pattern and one of the text.
use Rattle.std.proofs.Common.{◌≡◌, ◌≢◌, ◌↔◌, ℕ, List, ◌∷◌, true, Option, Some, None, refl, sym, subst, arith, inl, inr}
use Rattle.std.specs.Prelude.{MatchOption}
use Rattle.std.specs.Str.{chars}
use denote.Ref.{Bor}
use Rattle.std.proofs.lemmas.Bool.Decides.{nat_tests}
use Rattle.tcltext.specs.pattern.Patterns as pattern
use Rattle.tcltext.specs.pattern.Patterns.{star, question, open_bracket, backslash, is_ordinary, HoldsIn, IsMatch}
use Rattle.tcltext.specs.pattern.Search.Tails.{HoldsNowhere, HoldsOnly}
use Rattle.tcltext.specs.pattern.Search.Steps as steps
use Rattle.tcltext.specs.pattern.Search.Steps.{OneStep, StepsNowhere, StepsOnly}
use Rattle.tcltext.proofs.pattern.PatternLemmas as parts
use Rattle.tcltext.proofs.pattern.PatternLemmas.{Parts, OneParts, match_parts, ordinary}

-- Steps
pub data StepParts : ℕ → List ℕ → ℕ → List ℕ → Type 0 where
  any : {p c : ℕ} {ps rest : List ℕ} → p ≡ question → rest ≡ ps → StepParts p ps c rest
  set : {p c : ℕ} {ps rest : List ℕ} → p ≡ open_bracket → HoldsIn c ps rest → StepParts p ps c rest
  escaped : {p c : ℕ} {ps rest : List ℕ} → p ≡ backslash → ps ≡ c ∷ rest → StepParts p ps c rest
  itself : {p c : ℕ} {ps rest : List ℕ} → is_ordinary p ≡ true → p ≡ c → rest ≡ ps → StepParts p ps c rest

pub step_parts : {p c : ℕ} {ps rest : List ℕ} → OneStep p ps c rest → StepParts p ps c rest
step_parts steps.OneStep.any = any refl refl
step_parts (steps.OneStep.set h) = set refl h
step_parts steps.OneStep.escaped = escaped refl refl
step_parts (steps.OneStep.itself h) = itself h refl refl

ordinary_question : (p : ℕ) → is_ordinary p ≡ true → p ≡ question → ⊥
ordinary_question p h e = grind (arith, nat_tests)

ordinary_open : (p : ℕ) → is_ordinary p ≡ true → p ≡ open_bracket → ⊥
ordinary_open p h e = grind (arith, nat_tests)

ordinary_backslash : (p : ℕ) → is_ordinary p ≡ true → p ≡ backslash → ⊥
ordinary_backslash p h e = grind (arith, nat_tests)

pub ordinary_star : (p : ℕ) → is_ordinary p ≡ true → p ≡ star → ⊥
ordinary_star p h e = grind (arith, nat_tests)

pub any_steps : (p c : ℕ) (ps : List ℕ) → p ≡ question → StepsOnly p ps c ps
any_steps p c ps e = (subst (λ x. OneStep x ps c ps) (sym e) steps.OneStep.any, λ other s. only other (step_parts s)) where
  only : (other : List ℕ) → StepParts p ps c other → other ≡ ps
  only other (any k r) = r
  only other (set k h) = absurd (omega arith)
  only other (escaped k h) = absurd (omega arith)
  only other (itself k h r) = r

pub set_step : (p c : ℕ) (ps other : List ℕ) → p ≡ open_bracket → StepParts p ps c other → HoldsIn c ps other
set_step p c ps other e (any k r) = absurd (omega arith)
set_step p c ps other e (set k h) = h
set_step p c ps other e (escaped k h) = absurd (omega arith)
set_step p c ps other e (itself k h r) = absurd (ordinary_open p k e)

set_steps : (p c : ℕ) (ps rest : List ℕ) → p ≡ open_bracket → HoldsOnly c ps rest → StepsOnly p ps c rest
set_steps p c ps rest e h = (subst (λ x. OneStep x ps c rest) (sym e) (steps.OneStep.set h.0), λ other s. h.1 other (set_step p c ps other e (step_parts s)))

pub set_step_answer : (p c : ℕ) (ps : List ℕ) (found : Option (Bor (List ℕ))) → p ≡ open_bracket
    → MatchOption found (HoldsNowhere c ps) (λ rest. HoldsOnly c ps (chars rest.now))
    → MatchOption found (StepsNowhere p ps c) (λ rest. StepsOnly p ps c (chars rest.now))
set_step_answer p c ps None e h = λ rest s. h rest (set_step p c ps rest e (step_parts s))
set_step_answer p c ps (Some rest) e h = set_steps p c ps (chars rest.now) e h

pub escape_step : (p c : ℕ) (ps other : List ℕ) → p ≡ backslash → StepParts p ps c other → ps ≡ c ∷ other
escape_step p c ps other e (any k r) = absurd (omega arith)
escape_step p c ps other e (set k h) = absurd (omega arith)
escape_step p c ps other e (escaped k h) = h
escape_step p c ps other e (itself k h r) = absurd (ordinary_backslash p k e)

same_rest : (c : ℕ) (xs ys ps : List ℕ) → ps ≡ c ∷ xs → ps ≡ c ∷ ys → xs ≡ ys
same_rest c xs ys ps h k = cc

pub escape_step_answer : (p c : ℕ) (ps : List ℕ) (found : Option (Bor (List ℕ))) → p ≡ backslash
    → MatchOption found ((rest : List ℕ) → ps ≢ c ∷ rest) (λ rest. ps ≡ c ∷ chars rest.now)
    → MatchOption found (StepsNowhere p ps c) (λ rest. StepsOnly p ps c (chars rest.now))
escape_step_answer p c ps None e h = λ rest s. h rest (escape_step p c ps rest e (step_parts s))
escape_step_answer p c ps (Some rest) e h = (
  subst (λ x. OneStep x ps c (chars rest.now)) (sym e) (subst (λ xs. OneStep backslash xs c (chars rest.now)) (sym h) steps.OneStep.escaped),
  λ other s. same_rest c other (chars rest.now) ps (escape_step p c ps other e (step_parts s)) h,
)

pub itself_step : (p c : ℕ) (ps other : List ℕ) → p ≢ question → p ≢ open_bracket → p ≢ backslash → StepParts p ps c other → (p ≡ c) × (other ≡ ps)
itself_step p c ps other x y z (any k r) = absurd (x k)
itself_step p c ps other x y z (set k h) = absurd (y k)
itself_step p c ps other x y z (escaped k h) = absurd (z k)
itself_step p c ps other x y z (itself k h r) = (h, r)

pub itself_steps : (p c : ℕ) (ps : List ℕ) → p ≢ star → p ≢ question → p ≢ open_bracket → p ≢ backslash → p ≡ c → StepsOnly p ps c ps
itself_steps p c ps s x y z e = (
  subst (λ k. OneStep p ps k ps) e (steps.OneStep.itself (ordinary p s x y z)),
  λ other t. (itself_step p c ps other x y z (step_parts t)).1,
)

step_star : (p c : ℕ) (ps rest : List ℕ) → p ≡ star → StepParts p ps c rest → ⊥
step_star p c ps rest e (any k r) = omega arith
step_star p c ps rest e (set k h) = omega arith
step_star p c ps rest e (escaped k h) = omega arith
step_star p c ps rest e (itself k h r) = ordinary_star p k e

-- Matching and steps
pub match_steps : (p c : ℕ) (ps cs : List ℕ) → p ≢ star → IsMatch (p ∷ ps) (c ∷ cs) → (rest : List ℕ) × (OneStep p ps c rest × IsMatch rest cs)
match_steps p c ps cs n m = cases (match_parts m) where
  one : OneParts p ps c cs → (rest : List ℕ) × (OneStep p ps c rest × IsMatch rest cs)
  one (parts.any e m) = (ps, (subst (λ x. OneStep x ps c ps) (sym e) steps.OneStep.any, m))
  one (parts.set rest e h m) = (rest, (subst (λ x. OneStep x ps c rest) (sym e) (steps.OneStep.set h), m))
  one (parts.after_backslash rest e h m) = (rest, (subst (λ x. OneStep x ps c rest) (sym e) (subst (λ xs. OneStep backslash xs c rest) (sym h) steps.OneStep.escaped), m))
  one (parts.same h e m) = (ps, (subst (λ k. OneStep p ps k ps) e (steps.OneStep.itself h), m))

  cases : Parts (p ∷ ps) (c ∷ cs) → (rest : List ℕ) × (OneStep p ps c rest × IsMatch rest cs)
  cases (inl h) = absurd (n h.0)
  cases (inr h) = one h

pub step_matches : {p c : ℕ} {ps rest cs : List ℕ} → OneStep p ps c rest → IsMatch rest cs → IsMatch (p ∷ ps) (c ∷ cs)
step_matches steps.OneStep.any m = pattern.IsMatch.any_character m
step_matches (steps.OneStep.set h) m = pattern.IsMatch.in_set h m
step_matches steps.OneStep.escaped m = pattern.IsMatch.escaped m
step_matches (steps.OneStep.itself h) m = pattern.IsMatch.itself h m

-- A step goes on in one way
pub ordinary_no : (p : ℕ) → is_ordinary p ≡ true → (p ≢ question) × ((p ≢ open_bracket) × (p ≢ backslash))
ordinary_no p h = (λ e. ordinary_question p h e, (λ e. ordinary_open p h e, λ e. ordinary_backslash p h e))

pub step_no_star : {p c : ℕ} {ps rest : List ℕ} → OneStep p ps c rest → p ≢ star
step_no_star {p} {c} {ps} {rest} s = λ e. step_star p c ps rest e (step_parts s)

pub steps_go : (p c : ℕ) (ps rest : List ℕ) → p ≢ star → StepsOnly p ps c rest → (cs : List ℕ) → IsMatch (p ∷ ps) (c ∷ cs) ↔ IsMatch rest cs
steps_go p c ps rest n only cs = (
  λ m. (let s = match_steps p c ps cs n m in subst (λ xs. IsMatch xs cs) (only.1 s.0 s.1.0) s.1.1),
  λ m. step_matches only.0 m,
)
