-- How a counter of a path variable's element is spelled (module(1), __MODULES_SHARE_<VAR>; no leading zeros: own).
use Rattle.std.specs.Prelude.{◌≡◌, ℕ, ◌≤◌, Bool, ◌&&◌, bytes_eq, nat_le, if◌then◌else◌, Option, Some, None, decimal}
use Rattle.std.specs.Str.Parse.{digits_value}
use Rattle.envvars.specs.Texts.{Text}
use Rattle.envstate.specs.paths.Paths.{largest_counter}

-- a number from 1 to the largest counter
abbrev pub is_counter : ℕ → Bool
is_counter n = nat_le 1 n && nat_le n largest_counter

-- A counter is spelled as the decimal of a number from 1 to the largest. The number is the value of its digits.
abbrev pub counter_of : Text → Option ℕ
counter_of t =
    if is_counter (digits_value 10 t) && bytes_eq t (decimal (digits_value 10 t)) then Some
    (digits_value 10 t) else None

-- the text is the decimal of the number, which is from 1 to the largest counter
pub record SpellsCounter (t : Text) (n : ℕ) : Type 0 where
  pub low : 1 ≤ n
  pub high : n ≤ largest_counter
  pub spelled : t ≡ decimal n
