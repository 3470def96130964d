-- Outcomes with the reasons of another type, and steps that a reason forbids (own).
use Rattle.std.specs.Prelude.{◌≡◌, Option, Some, None, Result, Ok, Err}

-- the same outcome, with its reason as one of another type
abbrev pub refused_as : {A R S : Type 0} → (R → S) → Result A R → Result A S
refused_as f (Ok x) = Ok x
refused_as f (Err r) = Err (f r)

-- refused for the reason, where there is one, and else the outcome
abbrev pub unless : {A R : Type 0} → Option R → Result A R → Result A R
unless None outcome = outcome
unless (Some r) outcome = Err r

-- a relation to outcomes, with their reasons as those of another type
abbrev pub RefusedAs : {A R S : Type 0} → (R → S) → (Result A R → Type 0) → Result A S → Type 0
RefusedAs {A} {R} {S} f First o = (first : Result A R) × First first × (o ≡ refused_as f first)
