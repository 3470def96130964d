-- What the search knows of the rests of a pattern, at a character of the text.
use Rattle.std.specs.Prelude.{◌≡◌, ◌↔◌, ℕ, List, [], ◌∷◌, Option, Some, None, IsTrue}
use Rattle.tcltext.specs.pattern.Patterns.{after_close, IsMatch}
use Rattle.tcltext.specs.pattern.Search.Tails.{SetMatches}
use Rattle.tcltext.specs.declared.pattern.tail.Tail.{Tail}
use Rattle.tcltext.specs.declared.pattern.tail.Window.{Window}

abbrev pub first_of : List ℕ → Option ℕ
first_of [] = None
first_of (x ∷ xs) = Some x

abbrev pub without_first : List ℕ → List ℕ
without_first [] = []
without_first (x ∷ xs) = xs

-- what is known of the rest xs at the character c, where cs is the text after it
pub record KnowsTail (xs : List ℕ) (c : ℕ) (cs : List ℕ) (t : Tail) : Type 0 where
  pub first : t.first ≡ first_of xs
  pub matches : IsTrue t.matches ↔ IsMatch xs cs
  pub matches_after_close : IsTrue t.matches_after_close ↔ IsMatch (after_close xs) cs
  pub holds : IsTrue t.holds ↔ SetMatches c xs cs

-- the same of a rest, of the one without its first character, and of the one without its first two
pub record Knows (xs : List ℕ) (c : ℕ) (cs : List ℕ) (w : Window) : Type 0 where
  pub here : KnowsTail xs c cs w.here
  pub next : KnowsTail (without_first xs) c cs w.next
  pub after_next : KnowsTail (without_first (without_first xs)) c cs w.after_next
  pub takes : IsTrue w.takes ↔ IsMatch xs (c ∷ cs)
