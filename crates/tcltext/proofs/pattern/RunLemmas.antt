-- Runs of a pattern over a text.
use Rattle.std.proofs.Common.{◌≡◌, ◌≢◌, ◌↔◌, ℕ, zero, suc, ◌+◌, ◌-◌, ◌/◌, ◌≤◌, List, [], ◌∷◌, ◌++◌, length, take, drop}
use Rattle.std.proofs.Common.{Bool, true, false, IsTrue, refl, sym, ap, subst, ◌∙◌, arith, ◌⊎◌, inl, inr, take-add}
use Rattle.std.specs.Str.{chars, IsUtf8}
use Rattle.tcltext.specs.pattern.Patterns as pattern
use Rattle.tcltext.specs.pattern.Patterns.{star, question, backslash, IsMatch}
use Rattle.tcltext.specs.pattern.Search.Tails.{IsTail}
use Rattle.tcltext.specs.pattern.Search.Steps as steps
use Rattle.tcltext.specs.pattern.Search.Steps.{OneStep, StepsOnly, Run, RunsBy}
use Rattle.tcltext.proofs.pattern.SetLemmas.{tail-itself, tail-more, tail-under, holds_tail}
use Rattle.tcltext.proofs.pattern.StepLemmas.{step_matches, step_no_star}
use Rattle.tcltext.proofs.pattern.TextLemmas.{AreLeft, remaining-end, chars_length}
use Rattle.tcltext.proofs.pattern.TakeLemmas.{not_so, star_takes}

-- Runs and matches
pub run_matches : {ps cs qs : List ℕ} → Run ps cs qs → qs ≡ [] → IsMatch ps cs
run_matches (steps.Run.stay {ps}) e = subst (λ xs. IsMatch xs []) (sym e) pattern.IsMatch.both_end
run_matches (steps.Run.after_star r) e = pattern.IsMatch.any_text [] (run_matches r e)
run_matches (steps.Run.in_star {c} {ps} {cs} r) e = star_takes c ps cs (run_matches r e)
run_matches (steps.Run.step rest s r) e = step_matches s (run_matches r e)

run_under : (ps taken cs qs : List ℕ) → Run (star ∷ ps) cs qs → Run (star ∷ ps) (taken ++ cs) qs
run_under ps [] cs qs r = r
run_under ps (c ∷ taken) cs qs r = steps.Run.in_star (run_under ps taken cs qs r)

pub matches_run : {ps cs : List ℕ} → IsMatch ps cs → Run ps cs []
matches_run pattern.IsMatch.both_end = steps.Run.stay
matches_run (pattern.IsMatch.any_text {ps} {rest} taken m) = run_under ps taken rest [] (steps.Run.after_star (matches_run m))
matches_run (pattern.IsMatch.any_character {c} {ps} {cs} m) = steps.Run.step ps steps.OneStep.any (matches_run m)
matches_run (pattern.IsMatch.in_set {c} {ps} {rest} {cs} h m) = steps.Run.step rest (steps.OneStep.set h) (matches_run m)
matches_run (pattern.IsMatch.escaped {c} {ps} {cs} m) = steps.Run.step ps steps.OneStep.escaped (matches_run m)
matches_run (pattern.IsMatch.itself {c} {ps} {cs} h m) = steps.Run.step ps (steps.OneStep.itself h) (matches_run m)

step_tail : {p c : ℕ} {ps rest : List ℕ} → OneStep p ps c rest → IsTail (p ∷ ps) rest
step_tail (steps.OneStep.any {c} {ps}) = (question ∷ [], refl)
step_tail (steps.OneStep.set {c} {ps} {rest} h) = tail-under _ ps rest (holds_tail h)
step_tail (steps.OneStep.escaped {c} {ps}) = (backslash ∷ (c ∷ []), refl)
step_tail (steps.OneStep.itself {c} {ps} h) = (c ∷ [], refl)

pub run_tail : {ps cs qs : List ℕ} → Run ps cs qs → IsTail ps qs
run_tail (steps.Run.stay {ps}) = tail-itself ps
run_tail (steps.Run.after_star {ps} {cs} {qs} r) = tail-under star ps qs (run_tail r)
run_tail (steps.Run.in_star r) = run_tail r
run_tail (steps.Run.step {p} {c} {ps} {cs} {qs} rest s r) = tail-more (p ∷ ps) rest qs (step_tail s) (run_tail r)

-- Joining and splitting
pub run_join : {ps cs ms : List ℕ} → Run ps cs ms → (ds qs : List ℕ) → Run ms ds qs → Run ps (cs ++ ds) qs
run_join steps.Run.stay ds qs k = k
run_join (steps.Run.after_star r) ds qs k = steps.Run.after_star (run_join r ds qs k)
run_join (steps.Run.in_star r) ds qs k = steps.Run.in_star (run_join r ds qs k)
run_join (steps.Run.step rest s r) ds qs k = steps.Run.step rest s (run_join r ds qs k)

first_same : (x c : ℕ) (xs ys : List ℕ) → x ∷ xs ≡ c ∷ ys → (x ≡ c) × (xs ≡ ys)
first_same x c xs ys e = (cc, cc)

split_stay : (ps cs ds : List ℕ) → [] ≡ cs ++ ds → (ms : List ℕ) × (Run ps cs ms × Run ms ds ps)
split_stay ps [] ds e = (ps, (steps.Run.stay, subst (λ ys. Run ps ys ps) e steps.Run.stay))
split_stay ps (c ∷ cs) ds e = absurd (nothing e) where
  nothing : [] ≡ c ∷ (cs ++ ds) → ⊥
  nothing e = cc

pub run_split : {ps xs qs : List ℕ} → Run ps xs qs → (cs ds : List ℕ) → xs ≡ cs ++ ds → (ms : List ℕ) × (Run ps cs ms × Run ms ds qs)
run_split (steps.Run.stay {ps}) cs ds e = split_stay ps cs ds e
run_split (steps.Run.after_star r) cs ds e = let s = run_split r cs ds e in (s.0, (steps.Run.after_star s.1.0, s.1.1))
run_split (steps.Run.in_star {c = x} {ps = ps} {cs = xs} {qs = qs} r) [] ds e = (star ∷ ps, (steps.Run.stay, subst (λ ys. Run (star ∷ ps) ys qs) e (steps.Run.in_star r)))
run_split (steps.Run.in_star {c = x} {ps = ps} {cs = xs} r) (c ∷ cs) ds e =
    let same = first_same x c xs (cs ++ ds) e in
    let s = run_split r cs ds same.1 in
    (s.0, (subst (λ y. Run (star ∷ ps) (y ∷ cs) s.0) same.0 (steps.Run.in_star s.1.0), s.1.1))
run_split (steps.Run.step {p = p} {ps = ps} {qs = qs} rest o r) [] ds e = (p ∷ ps, (steps.Run.stay, subst (λ ys. Run (p ∷ ps) ys qs) e (steps.Run.step rest o r)))
run_split (steps.Run.step {p = p} {c = x} {ps = ps} {cs = xs} rest o r) (c ∷ cs) ds e =
    let same = first_same x c xs (cs ++ ds) e in
    let s = run_split r cs ds same.1 in
    (s.0, (subst (λ y. Run (p ∷ ps) (y ∷ cs) s.0) same.0 (steps.Run.step rest o s.1.0), s.1.1))

take_halves : (count : ℕ) (cs : List ℕ) → take count cs ≡ take (count / 2) cs ++ take (count - count / 2) (drop (count / 2) cs)
take_halves count cs = let e : count ≡ count / 2 + (count - count / 2) = omega arith in ap (λ n. take n cs) e ∙ take-add (count / 2) (count - count / 2) cs

pub halves-found : (ps cs ms : List ℕ) (count : ℕ) (qs : List ℕ) → RunsBy ps cs ms count qs → IsTrue true ↔ Run ps (take count cs) qs
halves-found ps cs ms count qs h =
    (λ t. subst (λ xs. Run ps xs qs) (sym (take_halves count cs)) (run_join h.0 (take (count - count / 2) (drop (count / 2) cs)) qs h.1), λ r. refl)

pub halves-none : (ps cs remaining : List ℕ) (count : ℕ) (qs : List ℕ) → remaining ≡ []
    → (RunsBy ps cs remaining count qs → ⊥) → AreLeft (λ ms. RunsBy ps cs ms count qs) ps remaining
    → IsTrue false ↔ Run ps (take count cs) qs
halves-none ps cs remaining count qs e none all = not_so (λ r.
    (let s = run_split r (take (count / 2) cs) (take (count - count / 2) (drop (count / 2) cs)) (take_halves count cs) in
    remaining-end (λ ms. RunsBy ps cs ms count qs) ps remaining e none all s.0 (run_tail s.1.0) s.1))

-- How a run begins
RunParts : List ℕ → List ℕ → List ℕ → Type 0
RunParts [] [] qs = qs ≡ []
RunParts [] (c ∷ cs) qs = ⊥
RunParts (p ∷ ps) [] qs = (qs ≡ p ∷ ps) ⊎ ((p ≡ star) × Run ps [] qs)
RunParts (p ∷ ps) (c ∷ cs) qs = ((p ≡ star) × (Run ps (c ∷ cs) qs ⊎ Run (star ∷ ps) cs qs)) ⊎ ((rest : List ℕ) × (OneStep p ps c rest × Run rest cs qs))

stay_parts : (ps : List ℕ) → RunParts ps [] ps
unfolding RunParts
stay_parts [] = refl
stay_parts (p ∷ ps) = inl refl

behind_parts : (ps cs qs : List ℕ) → Run ps cs qs → RunParts (star ∷ ps) cs qs
unfolding RunParts
behind_parts ps [] qs r = inr (refl, r)
behind_parts ps (c ∷ cs) qs r = inl (refl, inl r)

run_parts : {ps cs qs : List ℕ} → Run ps cs qs → RunParts ps cs qs
unfolding RunParts
run_parts (steps.Run.stay {ps}) = stay_parts ps
run_parts (steps.Run.after_star {ps} {cs} {qs} r) = behind_parts ps cs qs r
run_parts (steps.Run.in_star r) = inl (refl, inr r)
run_parts (steps.Run.step rest s r) = inr (rest, (s, r))

-- by no character
none_parts : (p : ℕ) (ps qs : List ℕ) → (p ∷ ps ≡ qs → ⊥) → Run (p ∷ ps) [] qs → (p ≡ star) × Run ps [] qs
unfolding RunParts
none_parts p ps qs n r = cases (run_parts r) where
  cases : (qs ≡ p ∷ ps) ⊎ ((p ≡ star) × Run ps [] qs) → (p ≡ star) × Run ps [] qs
  cases (inl e) = absurd (n (sym e))
  cases (inr h) = h

pub none-same : (ps qs : List ℕ) (goal : Type 0) → ps ≡ qs → Run ps [] qs ↔ goal → IsTrue true ↔ goal
none-same ps qs goal e same = (λ t. same.0 (subst (Run ps []) e steps.Run.stay), λ g. refl)

pub none-more : (ps : List ℕ) (p : ℕ) (rest qs : List ℕ) (goal : Type 0) → ps ≡ p ∷ rest → p ≡ star → (ps ≡ qs → ⊥) → Run ps [] qs ↔ goal → Run rest [] qs ↔ goal
none-more ps p rest qs goal e s n same = (
  λ r. same.0 (subst (λ xs. Run xs [] qs) (sym e) (subst (λ x. Run (x ∷ rest) [] qs) (sym s) (steps.Run.after_star r))),
  λ g. (none_parts p rest qs (λ f. n (e ∙ f)) (subst (λ xs. Run xs [] qs) e (same.1 g))).1,
)

-- by one character
one_parts : (p c : ℕ) (ps qs : List ℕ) → p ≢ star → Run (p ∷ ps) (c ∷ []) qs → (rest : List ℕ) × (OneStep p ps c rest × Run rest [] qs)
unfolding RunParts
one_parts p c ps qs n r = cases (run_parts r) where
  cases : ((p ≡ star) × (Run ps (c ∷ []) qs ⊎ Run (star ∷ ps) [] qs)) ⊎ ((rest : List ℕ) × (OneStep p ps c rest × Run rest [] qs)) → (rest : List ℕ) × (OneStep p ps c rest × Run rest [] qs)
  cases (inl h) = absurd (n h.0)
  cases (inr h) = h

pub one-steps : (p c : ℕ) (ps rest qs : List ℕ) → p ≢ star → StepsOnly p ps c rest → Run rest [] qs ↔ Run (p ∷ ps) (c ∷ []) qs
one-steps p c ps rest qs n only = (
  λ r. steps.Run.step rest only.0 r,
  λ r. (let s = one_parts p c ps qs n r in subst (λ xs. Run xs [] qs) (only.1 s.0 s.1.0) s.1.1),
)

pub one-found : (ps : List ℕ) (p : ℕ) (rest : List ℕ) (c : ℕ) (qs : List ℕ) (goal : Type 0) → ps ≡ p ∷ rest → p ≡ star → Run ps [] qs → Run ps (c ∷ []) qs ↔ goal → IsTrue true ↔ goal
one-found ps p rest c qs goal e s r same = (λ t. same.0 (back (steps.Run.in_star (there r))), λ g. refl) where
  there : Run ps [] qs → Run (star ∷ rest) [] qs
  there r = subst (λ x. Run (x ∷ rest) [] qs) s (subst (λ xs. Run xs [] qs) e r)

  back : Run (star ∷ rest) (c ∷ []) qs → Run ps (c ∷ []) qs
  back r = subst (λ xs. Run xs (c ∷ []) qs) (sym e) (subst (λ x. Run (x ∷ rest) (c ∷ []) qs) (sym s) r)

star_run : (c : ℕ) (ps qs : List ℕ) → (Run (star ∷ ps) [] qs → ⊥) → Run (star ∷ ps) (c ∷ []) qs → Run ps (c ∷ []) qs
unfolding RunParts
star_run c ps qs n r = cases (run_parts r) where
  cases : ((star ≡ star) × (Run ps (c ∷ []) qs ⊎ Run (star ∷ ps) [] qs)) ⊎ ((rest : List ℕ) × (OneStep star ps c rest × Run rest [] qs)) → Run ps (c ∷ []) qs
  cases (inl h) = elim h.1 [ inl k ↦ k | inr k ↦ absurd (n k) ]
  cases (inr h) = absurd (step_no_star h.1.0 refl)

pub one-more : (ps : List ℕ) (p : ℕ) (rest : List ℕ) (c : ℕ) (qs : List ℕ) (goal : Type 0) → ps ≡ p ∷ rest → p ≡ star → (Run ps [] qs → ⊥) → Run ps (c ∷ []) qs ↔ goal → Run rest (c ∷ []) qs ↔ goal
one-more ps p rest c qs goal e s n same = (
  λ r. same.0 (subst (λ xs. Run xs (c ∷ []) qs) (sym (e ∙ ap (λ x. x ∷ rest) s)) (steps.Run.after_star r)),
  λ g. star_run c rest qs (λ r. n (subst (λ xs. Run xs [] qs) (sym (e ∙ ap (λ x. x ∷ rest) s)) r)) (subst (λ xs. Run xs (c ∷ []) qs) (e ∙ ap (λ x. x ∷ rest) s) (same.1 g)),
)

-- A whole text
take_none : (n : ℕ) → take {A = ℕ} n [] ≡ []
take_none zero = refl
take_none (suc n) = refl

take_all : (n : ℕ) (cs : List ℕ) → length cs ≤ n → take n cs ≡ cs
take_all n [] le = take_none n
take_all zero (c ∷ cs) le = absurd (omega (arith, le))
take_all (suc n) (c ∷ cs) le = ap (λ xs. c ∷ xs) (take_all n cs (omega (arith, le)))

pub whole_run : (ps : List ℕ) (text : List ℕ) (qs : List ℕ) (t : Bool) → IsUtf8 text → qs ≡ [] → IsTrue t ↔ Run ps (take (length text) (chars text)) qs → IsTrue t ↔ IsMatch ps (chars text)
whole_run ps text qs t u e h =
    let all = take_all (length text) (chars text) (chars_length text u) in
    (λ s. run_matches (subst (λ xs. Run ps xs qs) all (h.0 s)) e, λ m. h.1 (subst (λ xs. Run ps xs qs) (sym all) (subst (Run ps (chars text)) (sym e) (matches_run m))))
