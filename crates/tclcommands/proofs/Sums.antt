-- The sum that incr(n) makes of the value of a variable.
use Rattle.std.proofs.Common.{◌≡◌, ◌≤◌, ℕ, ℤ, Option, Some, None, Result, Ok, Err, codes, length}
use Rattle.std.specs.Prelude.{IfOk, IfSome, unwrap_or}
use Rattle.std.specs.Fmt.{signed_decimal}
use Rattle.tcltext.specs.chars.Runs.{Text}
use Rattle.tcltext.specs.chars.Numerals.{numeral}
use Rattle.tcltext.specs.declared.chars.number.Numeral.TheVariants.{Whole}
use Rattle.tclrules.specs.Variables.{State}
use Rattle.tclrules.specs.Rules.{increased}
use Rattle.tclforms.specs.variables.Contents.{IsIncreased}

summed : (o : Option Text) (amount : ℤ) (limit : ℕ) (n t : Text) → numeral n ≡ Whole amount → IsIncreased o amount limit t → (increased (unwrap_or o (codes "0")) n ≡ Ok t) × (length t ≤ limit)
summed None amount limit n t e h = absurd h
summed (Some old) amount limit n t e h = (h.0 n e, h.1)

-- what a variable's own sum is by the rule of incr
pub by_rule : {E : Type 0} (made : Result (Option ℤ) E) (o : Option Text) (amount : ℤ) (limit : ℕ) (n : Text) (new : State) (at : ℤ → State)
    → numeral n ≡ Whole amount
    → IfOk made (λ m. IfSome m (λ total. IsIncreased o amount limit (signed_decimal total) × (new ≡ at total)))
    → IfOk made (λ m. IfSome m (λ total. (increased (unwrap_or o (codes "0")) n ≡ Ok (signed_decimal total)) × (length (signed_decimal total) ≤ limit) × (new ≡ at total)))
by_rule (Err e) o amount limit n new at h i = tt
by_rule (Ok None) o amount limit n new at h i = tt
by_rule (Ok (Some total)) o amount limit n new at h i =
    let s = summed o amount limit n (signed_decimal total) h i.0 in
    (s.0, s.1, i.1)
