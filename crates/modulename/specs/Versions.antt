-- The order of versions (own: modulefile(5) leaves it to the implementation).
use Rattle.std.specs.Prelude.{◌≡◌, ℕ, ◌+◌, ◌-◌, ◌*◌, Bool, true, false, ◌&&◌, List, [], ◌∷◌, nat_le, if◌then◌else◌}
use Rattle.std.specs.Prelude.{bytes_eq, Option, Some, None}
use Rattle.std.specs.List.{list_any}
use Rattle.std.specs.Ordering.{nat_cmp, is_le, is_lt, on, then_cmp}
use Rattle.std.specs.Cmp.Lexicographic.{slice_cmp}
use Rattle.std.specs.declared.cmp.Ordering.{Ordering}
use Rattle.std.specs.declared.cmp.Ordering.TheVariants.{Equal}
use Rattle.modulename.specs.ModuleName.{Text}

abbrev pub zero_digit : ℕ
zero_digit = 48

abbrev pub nine_digit : ℕ
nine_digit = 57

abbrev pub is_digit : ℕ → Bool
is_digit b = nat_le zero_digit b && nat_le b nine_digit

-- a version is cut into maximal runs of digits, which are whole numbers of any length, and single other bytes
pub data Piece : Type 0 where
  run : (number : ℕ) → Piece
  other : (byte : ℕ) → Piece

-- the number with one more digit at its end
abbrev pub with_digit : ℕ → ℕ → ℕ
with_digit n b = 10 * n + (b - zero_digit)

-- the pieces of a text that comes after the digits of a run, or after none
abbrev pub pieces_after : Option ℕ → Text → List Piece
pieces_after None [] = []
pieces_after (Some n) [] = run n ∷ []
pieces_after None (b ∷ bs) =
    if is_digit b then pieces_after (Some (with_digit 0 b)) bs else other b ∷ pieces_after None bs
pieces_after (Some n) (b ∷ bs) =
    if is_digit b then pieces_after (Some (with_digit n b)) bs else run n ∷ other b ∷ pieces_after None bs

-- the pieces of a version
abbrev pub pieces : Text → List Piece
pieces version = pieces_after None version

-- Among the other bytes a run is ranked as its first digit: all digits are next to each other there.
abbrev pub rank : Piece → ℕ
rank (run n) = zero_digit
rank (other b) = b

-- the number of a run
abbrev pub number : Piece → ℕ
number (run n) = n
number (other b) = 0

-- two pieces by their ranks, and two runs by their numbers
abbrev pub piece_order : Piece → Piece → Ordering
piece_order = then_cmp (on rank nat_cmp) (on number nat_cmp)

-- Piece by piece, where a proper prefix comes first; and where all pieces are equal, by the bytes. A text is in UTF-8,
-- whose bytes are in the order of its characters.
abbrev pub version_order : Text → Text → Ordering
version_order = then_cmp (on pieces (slice_cmp piece_order)) (slice_cmp nat_cmp)

-- a member of a set after which none of its members comes
pub record IsGreatest (In : Text → Type 0) (v : Text) : Type 0 where
  pub member : In v
  pub last : (w : Text) → In w → is_le (version_order w v) ≡ true

-- one of these texts
abbrev pub IsIn : List Text → Text → Type 0
IsIn vs v = list_any (bytes_eq v) vs ≡ true

-- the greater of two versions
abbrev pub greater : Text → Text → Text
greater v w = if is_lt (version_order v w) then w else v

-- equal only for equal bytes
abbrev pub EqualOnlyIfSame : Type 0
EqualOnlyIfSame = (v w : Text) → version_order v w ≡ Equal → v ≡ w

-- a set has one greatest member at most
abbrev pub HasOneGreatest : Type 0
HasOneGreatest = (is_in : Text → Bool) (v w : Text)
    → IsGreatest (λ x. is_in x ≡ true) v → IsGreatest (λ x. is_in x ≡ true) w → v ≡ w

-- a run compares with another byte as its first digit does
abbrev pub ComparesByFirstDigit : Type 0
ComparesByFirstDigit = (d b : ℕ) → is_digit d ≡ true → is_digit b ≡ false → nat_cmp zero_digit b ≡ nat_cmp d b

-- each comes before the next
abbrev pub ascend : List Text → Bool
ascend [] = true
ascend (v ∷ []) = true
ascend (v ∷ w ∷ vs) = is_lt (version_order v w) && ascend (w ∷ vs)
