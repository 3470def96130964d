-- Quotients of whole numbers without bound (expr(n), OPERATORS), and which numbers have 64 bits.
use Rattle.std.specs.Prelude.{ℕ, suc, ◌/◌, ◌^◌, Bool, true, false, nat_lt, if◌then◌else◌, Option, Some, None, ℤ, pos}
use Rattle.std.specs.Prelude.{negsuc, neg_ℤ}
use Rattle.std.specs.Int.{div_ceil}

-- a number of 64 bits with a sign
abbrev pub fits : ℤ → Bool
fits (pos n) = nat_lt n (2 ^ 63)
fits (negsuc n) = nat_lt n (2 ^ 63)

-- the number; None outside 64 bits
abbrev pub in_64_bits : ℤ → Option ℤ
in_64_bits z = if fits z then Some z else None

-- the number with this sign (true: negative) and absolute value
abbrev pub signed : Bool → ℕ → ℤ
signed false n = pos n
signed true n = neg_ℤ (pos n)

-- a quotient, rounded down; b is not 0
abbrev pub quotient : ℤ → ℤ → ℤ
quotient (pos a) (pos b) = signed false (a / b)
quotient (pos a) (negsuc b) = signed true (div_ceil a (suc b))
quotient (negsuc a) (pos b) = signed true (div_ceil (suc a) b)
quotient (negsuc a) (negsuc b) = signed false (suc a / suc b)
