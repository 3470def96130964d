-- Patterns in which what follows a set is the same for every character.
use Rattle.std.proofs.Common.{◌≡◌, ◌↔◌, ℕ, List, [], ◌∷◌, ◌++◌, Bool, true, false, not, ◌==◌, IsTrue, refl, sym, subst}
use Rattle.std.proofs.Common.{◌∙◌, ◌⊎◌, inl, inr, append-nil, arith}
use Rattle.std.proofs.lemmas.Bool.Decides.{nat_tests}
use Rattle.tcltext.specs.pattern.Patterns as pattern
use Rattle.tcltext.specs.pattern.Patterns.{star, question, open_bracket, close_bracket, backslash, dash, after_close}
use Rattle.tcltext.specs.pattern.Patterns.{no_dash, is_ordinary, HoldsIn, IsMatch}
use Rattle.tcltext.specs.pattern.Search.Tails.{IsTail}
use Rattle.tcltext.specs.pattern.Search.Steps as steps
use Rattle.tcltext.specs.pattern.Search.Steps.{OneStep, StepsToStar}
use Rattle.tcltext.specs.pattern.Search.Uniform.{reading_of, is_closed, is_uniform}
use Rattle.tcltext.specs.declared.pattern.star.ReadingState.{ReadingState}
use Rattle.tcltext.specs.declared.pattern.star.ReadingState.TheVariants.{Outside, AtItem, AfterLow, AfterDash, RangeToClose}
use Rattle.tcltext.proofs.pattern.SetLemmas.{tail-more}
use Rattle.tcltext.proofs.pattern.PatternLemmas.{text_ends}
use Rattle.tcltext.proofs.pattern.StepLemmas.{step_parts, set_step, escape_step, itself_step, any_steps, ordinary_no}
use Rattle.tcltext.proofs.pattern.StepLemmas.{step_no_star, match_steps}
use Rattle.tcltext.proofs.pattern.TextLemmas.{AreLeft, remaining-end, tail_or_itself}
use Rattle.tcltext.proofs.pattern.TakeLemmas.{not_so, star_takes, star_parts, star_ends}

not_true : (t : Bool) → not t ≡ true → t ≡ false
not_true true h = cc
not_true false h = refl

-- Reading a plain pattern
abbrev PlainFrom : ReadingState → List ℕ → Type 0
PlainFrom r ps = is_closed (reading_of r ps) ≡ true

open_never : (ps : List ℕ) → PlainFrom RangeToClose ps → ⊥
open_never [] h = cc
open_never (c ∷ ps) h = open_never ps h

close-past : (c : ℕ) (ps : List ℕ) → (c == close_bracket) ≡ false → after_close (c ∷ ps) ≡ after_close ps
close-past c ps h = rw h refl

close-range : (low high : ℕ) (ps : List ℕ) → (low == close_bracket) ≡ false → (high == close_bracket) ≡ false → after_close (low ∷ (dash ∷ (high ∷ ps))) ≡ after_close ps
close-range low high ps h k = close-past low (dash ∷ (high ∷ ps)) h ∙ close-past high ps k

abbrev Closes : List ℕ → Type 0
Closes ps = (PlainFrom AtItem ps → PlainFrom Outside (after_close ps)) × (PlainFrom AfterLow ps → PlainFrom Outside (after_close ps)) × (PlainFrom AfterDash ps → PlainFrom Outside (after_close ps))

closes-more : (c : ℕ) (ps : List ℕ) (t d : Bool) → (c == close_bracket) ≡ t → (c == dash) ≡ d → Closes ps → Closes (c ∷ ps)
closes-more c ps true d e f ih = rw e (λ h. h, λ h. h, λ h. absurd (open_never ps h))
closes-more c ps false true e f ih = rw (e, f) (ih.1, ih.2, ih.0)
closes-more c ps false false e f ih = rw (e, f) (ih.1, ih.1, ih.0)

closes : (ps : List ℕ) → Closes ps
closes [] = (λ h. refl, λ h. refl, λ h. refl)
closes (c ∷ ps) = closes-more c ps (c == close_bracket) (c == dash) refl refl (closes ps)

item_starts : (c : ℕ) (ps : List ℕ) → (c == close_bracket) ≡ false → PlainFrom AtItem (c ∷ ps) → PlainFrom AfterLow ps
item_starts c ps e h = rw e at h

item_alone : (ps : List ℕ) → no_dash ps ≡ true → PlainFrom AfterLow ps → PlainFrom AtItem ps
item_alone [] k h = refl
item_alone (d ∷ ps) k h = cases (d == close_bracket) refl (not_true (d == dash) k) h where
  cases : (t : Bool) → (d == close_bracket) ≡ t → (d == dash) ≡ false → PlainFrom AfterLow (d ∷ ps) → PlainFrom AtItem (d ∷ ps)
  cases true e f h = rw e (rw e at h)
  cases false e f h = rw e (rw (e, f) at h)

range_parts : (low high : ℕ) (ps : List ℕ) → (low == close_bracket) ≡ false → PlainFrom AtItem (low ∷ (dash ∷ (high ∷ ps))) → ((high == close_bracket) ≡ false) × PlainFrom AtItem ps
range_parts low high ps e h = cases (high == close_bracket) refl (item_starts low (dash ∷ (high ∷ ps)) e h) where
  cases : (t : Bool) → (high == close_bracket) ≡ t → PlainFrom AfterDash (high ∷ ps) → ((high == close_bracket) ≡ false) × PlainFrom AtItem ps
  cases true e h = absurd (open_never ps (rw e at h))
  cases false e h = (e, rw e at h)

pub plain_holds : {c : ℕ} {ps rest : List ℕ} → HoldsIn c ps rest → PlainFrom AtItem ps → rest ≡ after_close ps
plain_holds {c} (pattern.HoldsIn.as_item {ps} h k) uniform = sym (close-past c ps h)
plain_holds (pattern.HoldsIn.in_range {low} {high} {ps} h k) uniform = sym (close-range low high ps h (range_parts low high ps h uniform).0)
plain_holds (pattern.HoldsIn.past_item {b} {ps} {rest} h k l m) uniform = plain_holds m (item_alone ps l (item_starts b ps h uniform)) ∙ sym (close-past b ps h)
plain_holds (pattern.HoldsIn.past_range {low} {high} {ps} {rest} h k m) uniform =
    let parts = range_parts low high ps h uniform in plain_holds m parts.1 ∙ sym (close-range low high ps h parts.0)

ordinary_tests : (c : ℕ) → is_ordinary c ≡ true → ((c == backslash) ≡ false) × ((c == open_bracket) ≡ false)
ordinary_tests c h = (grind (arith, nat_tests), grind (arith, nat_tests))

step_plain : {p c : ℕ} {ps rest : List ℕ} → OneStep p ps c rest → is_uniform (p ∷ ps) ≡ true → is_uniform rest ≡ true
step_plain (steps.OneStep.any {c} {ps}) h = h
step_plain (steps.OneStep.set {c} {ps} {rest} s) h = subst (λ xs. is_uniform xs ≡ true) (sym (plain_holds s h)) ((closes ps).0 h)
step_plain (steps.OneStep.escaped {c} {ps}) h = h
step_plain (steps.OneStep.itself {c} {ps} o) h = let n = ordinary_tests c o in rw (n.0, n.1) at h

pub lead_plain : {ps cs qs ds : List ℕ} → StepsToStar ps cs qs ds → is_uniform ps ≡ true → is_uniform qs ≡ true
lead_plain (steps.StepsToStar.at_star {ps} {cs}) h = h
lead_plain (steps.StepsToStar.step rest s l) h = lead_plain l (step_plain s h)

-- A plain pattern goes on with each character in the same way
plain_same : {p c : ℕ} {ps rest : List ℕ} → OneStep p ps c rest → is_uniform (p ∷ ps) ≡ true → (d : ℕ) (other : List ℕ) → OneStep p ps d other → other ≡ rest
plain_same (steps.OneStep.any {c} {ps}) h d other s = (any_steps question d ps refl).1 other s
plain_same (steps.OneStep.set {c} {ps} {rest} k) h d other s =
    plain_holds (set_step open_bracket d ps other refl (step_parts s)) h ∙ sym (plain_holds k h)
plain_same (steps.OneStep.escaped {c} {ps}) h d other s = same (escape_step backslash d (c ∷ ps) other refl (step_parts s)) where
  same : c ∷ ps ≡ d ∷ other → other ≡ ps
  same e = cc
plain_same (steps.OneStep.itself {c} {ps} o) h d other s = let n = ordinary_no c o in (itself_step c d ps other n.0 n.1.0 n.1.1 (step_parts s)).1

star_under : (ps prefix cs : List ℕ) → IsMatch (star ∷ ps) cs → IsMatch (star ∷ ps) (prefix ++ cs)
star_under ps [] cs m = m
star_under ps (c ∷ prefix) cs m = star_takes c ps (prefix ++ cs) (star_under ps prefix cs m)

shorter_tail : (c d : ℕ) (cs ts : List ℕ) → IsTail (c ∷ cs) (d ∷ ts) → IsTail cs ts
shorter_tail c d cs ts h = cases (tail_or_itself c cs (d ∷ ts) h) where
  same : d ∷ ts ≡ c ∷ cs → cs ≡ ts
  same e = cc

  cases : (d ∷ ts ≡ c ∷ cs) ⊎ IsTail cs (d ∷ ts) → IsTail cs ts
  cases (inl e) = ([], same e)
  cases (inr t) = tail-more cs (d ∷ ts) ts t (d ∷ [], refl)

-- the first way to the next star is as good as a later one
pub later_way : {ps cs qs ds : List ℕ} → StepsToStar ps cs qs ds → is_uniform ps ≡ true → (ts : List ℕ) → IsTail cs ts → IsMatch ps ts → IsMatch (star ∷ qs) ds
later_way (steps.StepsToStar.at_star {ps} {cs}) h ts tail m = subst (IsMatch (star ∷ ps)) (sym tail.1) (star_under ps tail.0 ts m)
later_way (steps.StepsToStar.step {p} {c} {ps} {cs} {qs} {ds} rest s l) h [] tail m = absurd (text_ends p ps (step_no_star s) m)
later_way (steps.StepsToStar.step {p} {c} {ps} {cs} {qs} {ds} rest s l) h (d ∷ ts) tail m =
    let t = match_steps p d ps ts (step_no_star s) m in
    later_way l (step_plain s h) ts (shorter_tail c d cs ts tail) (subst (λ xs. IsMatch xs ts) (plain_same s h d t.0 t.1.0) t.1.1)

-- a star's text has an end that the pattern behind it matches
pub star_tail : (ps cs : List ℕ) → IsMatch (star ∷ ps) cs → (ts : List ℕ) × (IsTail cs ts × IsMatch ps ts)
star_tail ps [] m = ([], (([], refl), star_ends ps m))
star_tail ps (c ∷ cs) m = cases (star_parts c ps cs m) (λ k. star_tail ps cs k) where
  further : (ts : List ℕ) × (IsTail cs ts × IsMatch ps ts) → (ts : List ℕ) × (IsTail (c ∷ cs) ts × IsMatch ps ts)
  further h = (h.0, (tail-more (c ∷ cs) cs h.0 (c ∷ [], refl) h.1.0, h.1.1))

  cases : IsMatch ps (c ∷ cs) ⊎ IsMatch (star ∷ ps) cs → (IsMatch (star ∷ ps) cs → (ts : List ℕ) × (IsTail cs ts × IsMatch ps ts)) → (ts : List ℕ) × (IsTail (c ∷ cs) ts × IsMatch ps ts)
  cases (inl k) more = (c ∷ cs, (([], refl), k))
  cases (inr k) more = further (more k)

-- The turns of the search from star to star
pub uniform-next : (ps cs qs ds : List ℕ) (goal : Type 0) → is_uniform ps ≡ true → StepsToStar ps cs qs ds
    → IsMatch (star ∷ qs) ds ↔ IsMatch ps cs → IsMatch (star ∷ ps) cs ↔ goal → IsMatch (star ∷ qs) ds ↔ goal
uniform-next ps cs qs ds goal h l same whole = (
  λ m. whole.0 (pattern.IsMatch.any_text [] (same.0 m)),
  λ g. (let t = star_tail ps cs (whole.1 g) in later_way l h t.0 t.1.0 t.1.1),
)

pub uniform-found : (ps cs : List ℕ) (goal : Type 0) → IsMatch ps cs → IsMatch (star ∷ ps) cs ↔ goal → IsTrue true ↔ goal
uniform-found ps cs goal m whole = (λ h. whole.0 (pattern.IsMatch.any_text [] m), λ g. refl)

pub uniform-later : (ps cs : List ℕ) (c : ℕ) (rest : List ℕ) (goal : Type 0) → cs ≡ c ∷ rest → (IsMatch ps cs → ⊥) → IsMatch (star ∷ ps) cs ↔ goal → IsMatch (star ∷ ps) rest ↔ goal
uniform-later ps cs c rest goal e n whole =
    let here : IsMatch (star ∷ ps) (c ∷ rest) ↔ goal = subst (λ xs. IsMatch (star ∷ ps) xs ↔ goal) e whole in
    (λ m. here.0 (star_takes c ps rest m), λ g. elim (star_parts c ps rest (here.1 g)) [ inl k ↦ absurd (n (subst (IsMatch ps) (sym e) k)) | inr k ↦ k ])

pub uniform-all : (ps cs : List ℕ) (goal : Type 0) → ps ≡ [] → IsMatch (star ∷ ps) cs ↔ goal → IsTrue true ↔ goal
uniform-all ps cs goal e whole =
    (λ h. whole.0 (subst (λ xs. IsMatch (star ∷ xs) cs) (sym e) (subst (IsMatch (star ∷ [])) (append-nil cs) (pattern.IsMatch.any_text cs pattern.IsMatch.both_end))), λ g. refl)

-- The search through the ends of the text
pub tails-found : (ps cs ts : List ℕ) → IsTail cs ts → IsMatch ps ts → IsTrue true ↔ IsMatch (star ∷ ps) cs
tails-found ps cs ts tail m = (λ h. subst (IsMatch (star ∷ ps)) (sym tail.1) (pattern.IsMatch.any_text tail.0 m), λ k. refl)

pub tails-none : (ps cs remaining : List ℕ) → remaining ≡ [] → (IsMatch ps remaining → ⊥) → AreLeft (IsMatch ps) cs remaining → IsTrue false ↔ IsMatch (star ∷ ps) cs
tails-none ps cs remaining e none all = not_so (λ m. (let t = star_tail ps cs m in remaining-end (IsMatch ps) cs remaining e none all t.0 t.1.0 t.1.1))
