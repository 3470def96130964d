-- Worked numbers, by computation alone.
use Rattle.std.specs.Prelude.{◌≡◌, refl, codes, pos, negsuc}
use Rattle.tcltext.specs.chars.Numerals.{numeral}
use Rattle.tcltext.specs.declared.chars.number.Numeral.TheVariants.{Whole, Fraction}

octal : numeral (codes "010") ≡ Whole (pos 8)
unfolding numeral
octal = refl

small_octal : numeral (codes "-0o17") ≡ Whole (negsuc 14)
unfolding numeral
small_octal = refl

no_octal : numeral (codes "08") ≡ Fraction
unfolding numeral
no_octal = refl
