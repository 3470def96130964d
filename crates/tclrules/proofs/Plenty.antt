-- What is derived is given by playing, in enough steps.
use Rattle.std.proofs.Common.{◌≡◌, ℕ, zero, suc, ◌+◌, Bool, true, false, Some, None, refl, subst, arith}
use Rattle.std.proofs.lemmas.Bool.{lt-ltb, le-ltb}
use Rattle.std.specs.Prelude.{nat_lt}
use Rattle.tclrules.specs.Oracle.{Oracle}
use Rattle.tclrules.specs.Derivation.{TooManyCommands, EvaluationOutcome, Ended, Halted, Plan, Ends, Counts, Moves}
use Rattle.tclrules.specs.Derivation.{Consults, ReadsEnvironment, Runs, World, count, move, world_after, ask, replied}
use Rattle.tclrules.specs.Derivation.{Eval, ends, counts, meets_limit, moves, consults, reads, runs, halts, lacks_memory}
use Rattle.tclrules.specs.Playing.{Played, continue_with, play}

abbrev to : {R : Type 0} → EvaluationOutcome R → World → Played R
to o w = Some (o, w)

abbrev PlaysTo : {J R : Type 0} → Oracle → ℕ → (J → Plan J R) → ℕ → Plan J R → World → EvaluationOutcome R → World → Type 0
PlaysTo oracle most rule n p w o w' = play oracle most rule n p w ≡ to o w'

-- what a test chooses of a plan that counts
abbrev branch : {J R : Type 0} → Oracle → ℕ → (J → Plan J R) → ℕ → Plan J R → World → Bool → Played R
branch {R = R} oracle most rule n p w b = elim b as (λ _. Played R) [ true ↦ play oracle most rule n p (count w) | false ↦ Some (Halted TooManyCommands, w) ]

on_branch : {J R : Type 0} (oracle : Oracle) (most : ℕ) (rule : J → Plan J R) (n : ℕ) (p : Plan J R) (w : World)
    (o : EvaluationOutcome R) (w' : World) (b : Bool) →
    (PlaysTo oracle most rule n p (count w) o w' → PlaysTo oracle most rule (suc n) p (count w) o w')
    → branch oracle most rule n p w b ≡ to o w' → branch oracle most rule (suc n) p w b ≡ to o w'
on_branch oracle most rule n p w o w' true h e = h e
on_branch oracle most rule n p w o w' false h e = e

on_run : {J R : Type 0} (oracle : Oracle) (most : ℕ) (rule : J → Plan J R) (n : ℕ) (k : R → Plan J R)
    (o : EvaluationOutcome R) (w' : World) (r r' : Played R)
    → ((a : EvaluationOutcome R) (v : World) → r ≡ to a v → r' ≡ to a v)
    → ((a : R) (v : World) → PlaysTo oracle most rule n (k a) v o w' → PlaysTo oracle most rule (suc n) (k a) v o w')
    → continue_with (λ a v. play oracle most rule n (k a) v) r ≡ to o w' → continue_with (λ a v. play oracle most rule (suc n) (k a) v) r' ≡ to o w'
on_run oracle most rule n k o w' None r' first next e = absurd (cc)
on_run oracle most rule n k o w' (Some (Ended a, v)) r' first next e = rw (first (Ended a) v refl) (next a v e)
on_run oracle most rule n k o w' (Some (Halted f, v)) r' first next e = rw (first (Halted f) v refl) e

-- one step more gives the same
more : {J R : Type 0} (oracle : Oracle) (most : ℕ) (rule : J → Plan J R) (n : ℕ) (p : Plan J R) (w : World)
    (o : EvaluationOutcome R) (w' : World) → PlaysTo oracle most rule n p w o w'
    → PlaysTo oracle most rule (suc n) p w o w'
more oracle most rule zero p w o w' e = absurd (cc)
more oracle most rule (suc n) (Ends q) w o w' e = e
more oracle most rule (suc n) (Counts p) w o w' e = on_branch oracle most rule n p w o w' (nat_lt w.used most) (more oracle most rule n p (count w) o w') e
more oracle most rule (suc n) (Moves change p) w o w' e = more oracle most rule n p (move change w) o w' e
more oracle most rule (suc n) (Consults words k) w o w' e = more oracle most rule n (replied k (oracle.command w.trace.records words)) (world_after w words (oracle.command w.trace.records words)) o w' e
more oracle most rule (suc n) (ReadsEnvironment name k) w o w' e = more oracle most rule n (k (oracle.variable w.trace.records name)) (ask name (oracle.variable w.trace.records name) w) o w' e
more oracle most rule (suc n) (Runs j k) w o w' e =
    on_run oracle most rule n k o w' (play oracle most rule n (rule j) w) (play oracle most rule (suc n) (rule j) w)
    (λ a v. more oracle most rule n (rule j) w a v) (λ a v. more oracle most rule n (k a) v o w') e

abbrev raised : ℕ → ℕ → ℕ
raised zero n = n
raised (suc d) n = suc (raised d n)

is_sum : (d n : ℕ) → raised d n ≡ d + n
is_sum zero n = omega arith
is_sum (suc d) n = omega (arith, is_sum d n)

rise : {J R : Type 0} (oracle : Oracle) (most : ℕ) (rule : J → Plan J R) (d n : ℕ) (p : Plan J R) (w : World)
    (o : EvaluationOutcome R) (w' : World) → PlaysTo oracle most rule n p w o w'
    → PlaysTo oracle most rule (raised d n) p w o w'
rise oracle most rule zero n p w o w' e = e
rise oracle most rule (suc d) n p w o w' e = more oracle most rule (raised d n) p w o w' (rise oracle most rule d n p w o w' e)

-- two evaluations each need no more steps than both together
remaining : {J R : Type 0} (oracle : Oracle) (most : ℕ) (rule : J → Plan J R) (n m : ℕ) (p : Plan J R) (w : World)
    (o : EvaluationOutcome R) (w' : World) → PlaysTo oracle most rule n p w o w'
    → PlaysTo oracle most rule (n + m) p w o w'
remaining oracle most rule n m p w o w' e =
    let s : raised m n ≡ n + m = omega (arith, is_sum m n) in
    subst (λ i. PlaysTo oracle most rule i p w o w') s (rise oracle most rule m n p w o w' e)

right : {J R : Type 0} (oracle : Oracle) (most : ℕ) (rule : J → Plan J R) (n m : ℕ) (p : Plan J R) (w : World)
    (o : EvaluationOutcome R) (w' : World) → PlaysTo oracle most rule m p w o w'
    → PlaysTo oracle most rule (n + m) p w o w'
right oracle most rule n m p w o w' e = subst (λ i. PlaysTo oracle most rule i p w o w') (is_sum n m) (rise oracle most rule n m p w o w' e)

below : {J R : Type 0} (oracle : Oracle) (most : ℕ) (rule : J → Plan J R) (n : ℕ) (p : Plan J R) (w : World)
    (o : EvaluationOutcome R) (w' : World) (b : Bool) → b ≡ true → PlaysTo oracle most rule n p (count w) o w'
    → branch oracle most rule n p w b ≡ to o w'
below oracle most rule n p w o w' true h e = e
below oracle most rule n p w o w' false h e = absurd (cc)

past : {J R : Type 0} (oracle : Oracle) (most : ℕ) (rule : J → Plan J R) (n : ℕ) (p : Plan J R) (w : World) (b : Bool) → b ≡ false → branch oracle most rule n p w b ≡ to (Halted TooManyCommands) w
past oracle most rule n p w true h = absurd (cc)
past oracle most rule n p w false h = refl

pub enough : {J R : Type 0} {oracle : Oracle} {most : ℕ} {rule : J → Plan J R} {p : Plan J R} {w : World}
    {o : EvaluationOutcome R} {w' : World} → Eval false oracle most rule p w o w' → (n : ℕ)
    × (play oracle most rule n p w ≡ to o w')
enough ends = (suc zero, refl)
enough {oracle = oracle} {most = most} {rule = rule} {o = o} {w' = w'} (counts {p = p} {w = w} h d) =
    let i = enough d in (suc i.0, below oracle most rule i.0 p w o w' (nat_lt w.used most) (lt-ltb w.used most h) i.1)
enough {oracle = oracle} {most = most} {rule = rule} (meets_limit {p = p} {w = w} h) = (suc zero, past oracle most rule zero p w (nat_lt w.used most) (le-ltb w.used most h))
enough (moves d) = let i = enough d in (suc i.0, i.1)
enough (consults d) = let i = enough d in (suc i.0, i.1)
enough (reads d) = let i = enough d in (suc i.0, i.1)
enough {oracle = oracle} {most = most} {rule = rule} (runs {j = j} {k = k} {w = w} {w' = v} {w'' = u} {r = r} {o = o} d c) =
    let i = enough d in
    let l = enough c in
    (suc (i.0 + l.0), rw (remaining oracle most rule i.0 l.0 (rule j) w (Ended r) v i.1) (right oracle most rule i.0 l.0 (k r) v o u l.1))
enough {oracle = oracle} {most = most} {rule = rule} (halts {j = j} {k = k} {w = w} {w' = v} {f = f} d) =
    let i = enough d in (suc i.0, rw i.1 refl)
enough (lacks_memory a h) = absurd (cc)
