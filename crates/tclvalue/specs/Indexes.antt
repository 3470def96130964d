-- Indexes of lists and texts (lindex(n), string(n)): a whole number, end, or end-N.
use Rattle.std.specs.Prelude.{ℕ, List, [], ◌∷◌, Bool, false, ◌==◌, nat_lt, if◌then◌else◌, ℤ, pos, negsuc, ◌+ℤ◌, ◌-ℤ◌}
use Rattle.std.specs.Prelude.{Option, Some, None, Ok, Err, take, drop, slice_get, bytes_eq, codes}
use Rattle.tcltext.specs.chars.Runs.{Text}
use Rattle.tcltext.specs.chars.Numerals.{numeral}
use Rattle.tcltext.specs.chars.Bytes.{is_space}
use Rattle.tcltext.specs.declared.chars.number.Numeral.{Numeral}
use Rattle.tcltext.specs.declared.chars.number.Numeral.TheVariants as numerals
use Rattle.tclvalue.specs.operators.Faults.{Answer, ◌>>=◌, error, number_too_large, fraction}
use Rattle.tclvalue.specs.operators.Messages.{bad_index, not_a_whole_number}

-- an index as it is spelled: counted from 0, the first item, or back from the last
pub data Index : Type 0 where
  from_start : (position : ℤ) → Index
  from_end : (back : ℤ) → Index

-- the rest of a text that begins with another; None where it doesn't
abbrev pub after_prefix : Text → Text → Option Text
after_prefix [] t = Some t
after_prefix (c ∷ cs) [] = None
after_prefix (c ∷ cs) (d ∷ ds) = if c == d then after_prefix cs ds else None

-- the text begins with white space
abbrev pub begins_space : Text → Bool
begins_space [] = false
begins_space (c ∷ cs) = is_space c

-- the number that is spelled in an index; the word is the whole index, for the message
abbrev pub index_number : Text → Numeral → Answer ℤ
index_number word (numerals.Whole z) = Ok z
index_number word numerals.TooLarge = Err number_too_large
index_number word numerals.Fraction = Err fraction
index_number word numerals.Text = Err (error (bad_index word))

-- the index of a word, by its rest after end-, which begins with no white space; None where the word has no end-
abbrev pub index_after_end : Text → Option Text → Answer Index
index_after_end word (Some rest) =
    if begins_space rest then Err (error (bad_index word))
    else index_number word (numeral rest) >>= (λ z. Ok (from_end z))
index_after_end word None = index_number word (numeral word) >>= (λ z. Ok (from_start z))

-- the index that a word spells
abbrev pub index_of : Text → Answer Index
index_of word =
    if bytes_eq word (codes "end") then Ok (from_end (pos 0))
    else index_after_end word (after_prefix (codes "end-") word)

-- the position of an index among so many items, counted from 0; it may lie outside of them
abbrev pub position : ℕ → Index → ℤ
position n (from_start z) = z
position n (from_end z) = pos n -ℤ pos 1 -ℤ z

-- the position, where it is that of one of so many items
abbrev pub position_among : ℕ → ℤ → Option ℕ
position_among n (pos k) = if nat_lt k n then Some k else None
position_among n (negsuc k) = None

-- the item at a position, if there is one
abbrev pub item_at : {X : Type 0} → ℤ → List X → Option X
item_at (pos k) xs = slice_get xs k
item_at (negsuc k) xs = None

-- a number, or 0 where it is negative
abbrev pub at_least_0 : ℤ → ℕ
at_least_0 (pos n) = n
at_least_0 (negsuc n) = 0

-- the items from one position to another, both included, as far as there are such items
abbrev pub items_between : {X : Type 0} → ℤ → ℤ → List X → List X
items_between i j xs = drop (at_least_0 i) (take (at_least_0 (j +ℤ pos 1)) xs)

-- a count: a whole number
abbrev pub whole_number : Text → Numeral → Answer ℤ
whole_number word (numerals.Whole z) = Ok z
whole_number word numerals.TooLarge = Err number_too_large
whole_number word numerals.Fraction = Err fraction
whole_number word numerals.Text = Err (error (not_a_whole_number word))

abbrev pub count_of : Text → Answer ℤ
count_of word = whole_number word (numeral word)
