-- Worked backslashes, by computation alone.
use Rattle.std.specs.Prelude.{◌≡◌, refl, codes, [], ◌∷◌, Some, None}
use lib.Utf8.{encode}
use Rattle.tcltext.specs.chars.Backslash.{after_backslash}
use Rattle.tcltext.specs.chars.BracedText.{braced_text}

octal_stops : after_backslash (codes "4001") ≡ Some (32 ∷ [], codes "01")
unfolding encode
octal_stops = refl

two_digits : after_backslash (codes "x414") ≡ Some (codes "A", codes "4")
unfolding encode
two_digits = refl

no_digits : after_backslash (codes "xg") ≡ Some (codes "x", codes "g")
no_digits = refl

half_pair : after_backslash (codes "uD800") ≡ None
half_pair = refl

whole_line : after_backslash (codes "\n \tb") ≡ Some (codes " ", codes "b")
whole_line = refl

wide : after_backslash (codes "éa") ≡ Some (codes "é", codes "a")
wide = refl

joined_lines : braced_text (codes "a\\\n \tb\\\\\n c") ≡ codes "a b\\\\\n c"
joined_lines = refl
