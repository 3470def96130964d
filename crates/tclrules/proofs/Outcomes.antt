-- One outcome, and what another limit changes, for every table of rules.
use Rattle.std.proofs.Common.{◌≡◌, ℕ, ◌<◌, ◌≤◌, Bool, false, ⊎_elim, refl, arith}
use Rattle.std.proofs.lemmas.Bool.{cases_lt}
use Rattle.tclrules.specs.Oracle.{Oracle}
use Rattle.tclrules.specs.Derivation.{TooManyCommands, OutOfMemory, EvaluationOutcome, Halted, Plan, World, Eval, ends}
use Rattle.tclrules.specs.Derivation.{counts, meets_limit, moves, consults, reads, runs, halts, lacks_memory}

-- a plan has at most one outcome
pub one_outcome : {J R : Type 0} {oracle : Oracle} {most : ℕ} {rule : J → Plan J R} {p : Plan J R} {w : World}
    {o : EvaluationOutcome R} {w' : World} {o2 : EvaluationOutcome R} {w2 : World}
    → Eval false oracle most rule p w o w' → Eval false oracle most rule p w o2 w2 → (o ≡ o2) × (w' ≡ w2)
one_outcome (lacks_memory a h) d = absurd (cc)
one_outcome d (lacks_memory a h) = absurd (cc)
one_outcome ends ends = (refl, refl)
one_outcome (counts h d) (counts h2 d2) = one_outcome d d2
one_outcome (counts h d) (meets_limit h2) = absurd (omega arith)
one_outcome (meets_limit h) (counts h2 d2) = absurd (omega arith)
one_outcome (meets_limit h) (meets_limit h2) = (refl, refl)
one_outcome (moves d) (moves d2) = one_outcome d d2
one_outcome (consults d) (consults d2) = one_outcome d d2
one_outcome (reads d) (reads d2) = one_outcome d d2
one_outcome (runs {w' = w} {r = r} d c) (runs {w' = w2} {r = r2} d2 c2) =
    let h = one_outcome d d2 in
    let er : r2 ≡ r = cc in
    one_outcome c (rw (er, ← h.1) at c2)
one_outcome (runs d c) (halts d2) = absurd (let h = (one_outcome d d2).0 in cc)
one_outcome (halts d) (runs d2 c2) = absurd (let h = (one_outcome d d2).0 in cc)
one_outcome (halts d) (halts d2) = one_outcome d d2

-- the count rises
pub rises : {J R : Type 0} {may_lack_memory : Bool} {oracle : Oracle} {most : ℕ} {rule : J → Plan J R} {p : Plan J R}
    {w : World} {o : EvaluationOutcome R} {w' : World} → Eval may_lack_memory oracle most rule p w o w'
    → w.used ≤ w'.used
rises ends = omega arith
rises (counts h d) = omega (arith, rises d)
rises (meets_limit h) = omega arith
rises (moves d) = rises d
rises (consults d) = rises d
rises (reads d) = rises d
rises (runs d c) = omega (arith, rises d, rises c)
rises (halts d) = rises d
rises (lacks_memory a g) = omega arith

-- and stays within the limit
pub within : {J R : Type 0} {may_lack_memory : Bool} {oracle : Oracle} {most : ℕ} {rule : J → Plan J R} {p : Plan J R}
    {w : World} {o : EvaluationOutcome R} {w' : World} → Eval may_lack_memory oracle most rule p w o w' → w.used ≤ most
    → w'.used ≤ most
within ends h = h
within (counts g d) h = within d (omega arith)
within (meets_limit g) h = h
within (moves d) h = within d h
within (consults d) h = within d h
within (reads d) h = within d h
within (runs d c) h = within c (within d h)
within (halts d) h = within d h
within (lacks_memory a g) h = h

-- another limit that the count doesn't pass changes nothing
pub same_below : {J R : Type 0} {may_lack_memory : Bool} {oracle : Oracle} {most : ℕ} {rule : J → Plan J R}
    {p : Plan J R} {w : World} {o : EvaluationOutcome R} {w' : World} → Eval may_lack_memory oracle most rule p w o w'
    → ¬ (o ≡ Halted TooManyCommands) → (other : ℕ) → w'.used ≤ other → Eval may_lack_memory oracle other rule p w o w'
same_below ends n other h = ends
same_below (counts g d) n other h = counts (omega (arith, rises d)) (same_below d n other h)
same_below (meets_limit g) n other h = absurd (n refl)
same_below (moves d) n other h = moves (same_below d n other h)
same_below (consults d) n other h = consults (same_below d n other h)
same_below (reads d) n other h = reads (same_below d n other h)
same_below (runs d c) n other h = runs (same_below d (λ e. cc) other (omega (arith, rises c))) (same_below c n other h)
same_below (halts d) n other h = halts (same_below d n other h)
same_below (lacks_memory a g) n other h = lacks_memory a g

-- a smaller limit is met before
pub met_above : {J R : Type 0} {may_lack_memory : Bool} {oracle : Oracle} {most : ℕ} {rule : J → Plan J R}
    {p : Plan J R} {w : World} {o : EvaluationOutcome R} {w' : World} → Eval may_lack_memory oracle most rule p w o w'
    → (other : ℕ) → w.used ≤ other → other < w'.used → (w2 : World)
    × Eval may_lack_memory oracle other rule p w (Halted TooManyCommands) w2
met_above ends other h g = absurd (omega arith)
met_above {w = w} (counts m d) other h g =
    ⊎_elim (λ l. let i = met_above d other (omega arith) g in (i.0, counts l i.1)) (λ l. (w, meets_limit l)) (cases_lt w.used other)
met_above (meets_limit m) other h g = absurd (omega arith)
met_above (moves d) other h g = let i = met_above d other h g in (i.0, moves i.1)
met_above (consults d) other h g = let i = met_above d other h g in (i.0, consults i.1)
met_above (reads d) other h g = let i = met_above d other h g in (i.0, reads i.1)
met_above (runs {w' = w} d c) other h g =
    ⊎_elim (λ l. let i = met_above d other h l in (i.0, halts i.1)) (λ l. let i = met_above c other l g in (i.0, runs (same_below d (λ e. cc) other l) i.1)) (cases_lt other w.used)
met_above (halts d) other h g = let i = met_above d other h g in (i.0, halts i.1)
met_above (lacks_memory a m) other h g = absurd (omega arith)

-- what didn't starve is derived without
pub unstarved : {J R : Type 0} {may_lack_memory : Bool} {oracle : Oracle} {most : ℕ} {rule : J → Plan J R}
    {p : Plan J R} {w : World} {o : EvaluationOutcome R} {w' : World} → Eval may_lack_memory oracle most rule p w o w'
    → ¬ (o ≡ Halted OutOfMemory) → Eval false oracle most rule p w o w'
unstarved ends n = ends
unstarved (counts g d) n = counts g (unstarved d n)
unstarved (meets_limit g) n = meets_limit g
unstarved (moves d) n = moves (unstarved d n)
unstarved (consults d) n = consults (unstarved d n)
unstarved (reads d) n = reads (unstarved d n)
unstarved (runs d c) n = runs (unstarved d (λ e. cc)) (unstarved c n)
unstarved (halts d) n = halts (unstarved d n)
unstarved (lacks_memory a g) n = absurd (n refl)
