-- Words that differ by one slip of the hand (own).
use Rattle.std.specs.Prelude.{Bool, false, ◌&&◌, ◌||◌, ◌==◌, [], ◌∷◌, bytes_eq, length, nat_le}
use Rattle.message.specs.Messages.{Text}

-- both begin with the same two bytes, in the other order, and go on alike
abbrev pub are_exchanged : Text → Text → Bool
are_exchanged (a ∷ b ∷ word) (c ∷ d ∷ name) = a == d && b == c && bytes_eq word name
are_exchanged word name = false

-- a word and a name, each with what follows its first byte: it is left out of the word, is too many in it or is another
-- one, or the first two are exchanged
abbrev pub is_slip : Text → Text → Text → Text → Bool
is_slip word rest name others =
    bytes_eq word others || bytes_eq rest name || bytes_eq rest others || are_exchanged word name

-- One byte is left out of the word, is too many in it or is another one, or two neighbours are exchanged; or they are
-- equal.
abbrev pub differ_by_one : Text → Text → Bool
differ_by_one [] name = nat_le (length name) 1
differ_by_one (c ∷ word) [] = nat_le (length word) 0
differ_by_one (c ∷ word) (d ∷ name) = (c == d && differ_by_one word name) || is_slip (c ∷ word) word (d ∷ name) name
