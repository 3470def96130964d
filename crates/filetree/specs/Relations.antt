-- The outcomes of a step, values or reasons, as a relation, and how the relation of a longer step is made of those of
-- its parts: in sequence, by a test, and by a fact.
use Rattle.std.specs.Prelude.{◌≡◌, ◌⊎◌, Bool, true, false, Result, Ok, Err}

-- the outcome is this one
abbrev pub Is : {A R : Type 0} → Result A R → Result A R → Type 0
Is r o = o ≡ r

-- the rest goes on from the value of the first part; where that gave a reason, the reason is the outcome
abbrev pub After : {A B R : Type 0} → (A → Result B R → Type 0) → Result A R → Result B R → Type 0
After Rest (Ok x) o = Rest x o
After Rest (Err r) o = o ≡ Err r

-- The first part gives a value, and the rest with that value gives the outcome; or the first part gives a reason, which
-- is the outcome.
abbrev pub Then : {A B R : Type 0} → (Result A R → Type 0) → (A → Result B R → Type 0) → Result B R → Type 0
Then {A} {B} {R} First Rest o = (first : Result A R) × First first × After Rest first o

-- `Then` between its two parts
infixl 10 ◌>>◌
abbrev pub ◌>>◌ : {A B R : Type 0} → (Result A R → Type 0) → (A → Result B R → Type 0) → Result B R → Type 0
First >> Rest = Then First Rest

-- the one where the test is true, the other where it is false
abbrev pub If : {A R : Type 0} → Bool → (Result A R → Type 0) → (Result A R → Type 0) → Result A R → Type 0
If true Yes No o = Yes o
If false Yes No o = No o

-- the one where the fact holds, the other where it doesn't
abbrev pub Where : {A R : Type 0} → Type 0 → (Result A R → Type 0) → (Result A R → Type 0) → Result A R → Type 0
Where Fact Yes No o = (Fact × Yes o) ⊎ ((Fact → ⊥) × No o)

-- there is one outcome at most
abbrev pub IsOne : {A R : Type 0} → (Result A R → Type 0) → Type 0
IsOne {A} {R} Outcomes = (o p : Result A R) → Outcomes o → Outcomes p → o ≡ p
