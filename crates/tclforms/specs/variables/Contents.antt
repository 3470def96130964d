-- What is known of the texts of variables: that one is the text of a list, as list(n) writes it, or the sum of two
-- numbers, as incr(n) writes it.
use Rattle.std.specs.Prelude.{◌≡◌, ◌≤◌, ℕ, ℤ, length, List, Option, Some, None, Ok}
use Rattle.tcltext.specs.chars.Numerals.{numeral}
use Rattle.tcltext.specs.declared.chars.number.Numeral.TheVariants.{Whole}
use Rattle.tcltext.specs.chars.Runs.{Text}
use Rattle.tcltext.specs.list.Lists.{list_text}
use Rattle.tclrules.specs.Rules.{increased}

-- the text is what list(n) writes for some elements
abbrev pub IsListText : Text → Type 0
IsListText t = (es : List Text) × (t ≡ list_text es)

-- the variable is set, and its text is such a one
abbrev pub HoldsList : Option Text → Type 0
HoldsList None = ⊥
HoldsList (Some t) = IsListText t

-- the variable is set, and this text, of so many bytes at most, is its value with the amount added to it
abbrev pub IsIncreased : Option Text → ℤ → ℕ → Text → Type 0
IsIncreased None amount limit t = ⊥
IsIncreased (Some old) amount limit t =
    ((n : Text) → numeral n ≡ Whole amount → increased old n ≡ Ok t) × (length t ≤ limit)
