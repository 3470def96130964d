-- Whether bytes are UTF-8 (RFC 3629), as a test that computes.
use Rattle.std.specs.Prelude.{ℕ, ◌+◌, ◌/◌, ◌%◌, Bool, ◌&&◌, List, [], ◌∷◌, ◌++◌, nat_lt, if◌then◌else◌}
use Rattle.std.specs.Str.{all_scalars, bytes_eq, chars_after, continuation_len, lead_bits}

-- the code points that the bytes are read as, each by its first byte, which says how many bytes follow it
abbrev pub code_points : List ℕ → List ℕ
code_points [] = []
code_points (b ∷ bs) = chars_after (continuation_len b) (lead_bits b) bs

-- a continuation byte, with these six bits of the code point
abbrev pub continuing : ℕ → ℕ
continuing bits = 128 + bits % 64

-- the one to four bytes of a code point
abbrev pub spelled : ℕ → List ℕ
spelled c =
    if nat_lt c 0x80 then c ∷ []
    else (if nat_lt c 0x800 then (192 + c / 64) ∷ continuing c ∷ []
    else (if nat_lt c 0x1_0000 then (224 + c / 4096) ∷ continuing (c / 64) ∷ continuing c ∷ []
    else (240 + c / 262144) ∷ continuing (c / 4096) ∷ continuing (c / 64) ∷ continuing c ∷ []))

-- the bytes of all code points
abbrev pub all_spelled : List ℕ → List ℕ
all_spelled [] = []
all_spelled (c ∷ cs) = spelled c ++ all_spelled cs

-- The bytes are UTF-8: the code points that they are read as are Unicode scalar values, and have these bytes.
abbrev pub is_text : List ℕ → Bool
is_text bs = all_scalars (code_points bs) && bytes_eq (all_spelled (code_points bs)) bs
