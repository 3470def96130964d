use Rattle.std.proofs.Common.{◌≡◌, ℕ, ◌+◌, ◌*◌, ◌<◌, ◌≤◌, ◌^◌, length, drop, Some, Fits, w64, sym, ap, ◌∙◌, arith}
use Rattle.std.proofs.Math.Nat.{pow-le-pow_right}
use Rattle.std.proofs.lemmas.List.{drop_all}
use Rattle.tcltext.specs.chars.Numerals.{digits_from}
use Rattle.tcltext.proofs.chars.number.few_digits.Goals as goal

ten : 0 < 10
ten = omega arith

-- a number of a few digits is small
small_of : (n i most : ℕ) → i ≤ most → n < 10 ^ i → n < 10 ^ most
small_of n i most h p = let q = pow-le-pow_right ten h in omega arith

pub overflow_mul-number : goal.overflow_mul-number
overflow_mul-number c = let p = small_of c.loop-digit.number c.loop-digit.digit-index 17 (omega arith) c.loop-digit.invariant.small in omega arith

pub overflow_add-number : goal.overflow_add-number
overflow_add-number c =
    let p = small_of c.loop-digit.number c.loop-digit.digit-index 17 (omega arith) c.loop-digit.invariant.small in
    omega (arith, c.from.ensures)

pub returns : goal.returns
returns c =
    let p = small_of c.loop-digit.number c.loop-digit.digit-index 18 (omega arith) c.loop-digit.invariant.small in
    let small : c.loop-digit.number < 9223372036854775808 = omega arith in
    let e = drop_all c.loop-digit.digit-index c.args.digits.now (omega arith) in
    (small, rw e at c.loop-digit.invariant.value)
