-- What backslashes stand for (Tcl(n), rule 9).
use Rattle.std.specs.Prelude.{ℕ, zero, suc, ◌+◌, ◌*◌, [], ◌∷◌, Bool, false, ◌||◌, ◌&&◌, ◌==◌, nat_lt, nat_le}
use Rattle.std.specs.Prelude.{if◌then◌else◌, Option, Some, None, encode_utf8}
use Rattle.std.specs.Char.{digit_value}
use Rattle.tcltext.specs.chars.Bytes.{space, tab, newline, is_continuation}
use Rattle.tcltext.specs.chars.Runs.{Text, take_while, drop_while}

-- a b f n r t v stand for the characters 7 8 12 10 13 9 11; any other byte stands for itself
abbrev pub letter_value : ℕ → ℕ
letter_value b =
    if b == 97 then 7 else if b == 98 then 8 else if b == 102 then 12 else if b == 110 then 10
    else if b == 114 then 13 else if b == 116 then 9 else if b == 118 then 11 else b

abbrev pub is_octal : ℕ → Bool
is_octal b = nat_lt (digit_value b) 8

abbrev pub is_hexadecimal : ℕ → Bool
is_hexadecimal b = nat_lt (digit_value b) 16

abbrev pub is_blank_or_tab : ℕ → Bool
is_blank_or_tab b = b == space || b == tab

-- the value of a first digit of the base, and the rest
abbrev pub digit_at : ℕ → Text → Option (ℕ × Text)
digit_at base [] = None
digit_at base (b ∷ bs) = if nat_lt (digit_value b) base then Some (digit_value b, bs) else None

-- the number with so many octal digits more at most, while it stays below 256, and the rest
abbrev pub octal_on : (ℕ → Text → ℕ × Text) → ℕ → Text → Option (ℕ × Text) → ℕ × Text
octal_on more v bs None = (v, bs)
octal_on more v bs (Some d) = if nat_lt (v * 8 + d.0) 256 then more (v * 8 + d.0) d.1 else (v, bs)

abbrev pub octal_at : ℕ → ℕ → Text → ℕ × Text
octal_at zero v bs = (v, bs)
octal_at (suc n) v bs = octal_on (octal_at n) v bs (digit_at 8 bs)

-- the number with so many hexadecimal digits more at most, and the rest
abbrev pub hexadecimal_on : (ℕ → Text → ℕ × Text) → ℕ → Text → Option (ℕ × Text) → ℕ × Text
hexadecimal_on more v bs None = (v, bs)
hexadecimal_on more v bs (Some d) = more (v * 16 + d.0) d.1

abbrev pub hexadecimal_at : ℕ → ℕ → Text → ℕ × Text
hexadecimal_at zero v bs = (v, bs)
hexadecimal_at (suc n) v bs = hexadecimal_on (hexadecimal_at n) v bs (digit_at 16 bs)

abbrev pub begins_hexadecimal : Text → Bool
begins_hexadecimal [] = false
begins_hexadecimal (b ∷ bs) = is_hexadecimal b

-- the character with a code, unless that is half of a pair of UTF-16, and the rest
abbrev pub character : ℕ × Text → Option (Text × Text)
character r = if nat_le 55296 r.0 && nat_lt r.0 57344 then None else Some (encode_utf8 r.0, r.1)

-- a letter before a code of so many hexadecimal digits at most; without digits it is itself
abbrev pub code_at : ℕ → ℕ → Text → Option (Text × Text)
code_at n b bs = if begins_hexadecimal bs then character (hexadecimal_at n 0 bs) else Some (b ∷ [], bs)

-- \U before a hexadecimal digit stands for nothing (own: unsupported)
abbrev pub wide_code_at : Text → Option (Text × Text)
wide_code_at bs = if begins_hexadecimal bs then None else Some (85 ∷ [], bs)

-- the text begins with a character of several bytes
abbrev pub begins_wide : Text → Bool
begins_wide [] = false
begins_wide (b ∷ bs) = nat_le 128 b

-- What a backslash stands for with the characters after it, and the rest of the text; None at the end of the text, and
-- where they stand for nothing. A newline takes the blanks and tabs after it with it, and stands for one space; a
-- character of several bytes is its first byte and its continuation bytes.
abbrev pub after_backslash : Text → Option (Text × Text)
after_backslash [] = None
after_backslash (b ∷ bs) =
    if b == newline then Some (space ∷ [], drop_while is_blank_or_tab bs)
    else if is_octal b then character (octal_at 3 0 (b ∷ bs))
    else if b == 120 then code_at 2 b bs
    else if b == 117 then code_at 4 b bs
    else if b == 85 then wide_code_at bs
    else if nat_le 128 b then Some (b ∷ take_while is_continuation bs, drop_while is_continuation bs)
    else Some (letter_value b ∷ [], bs)
