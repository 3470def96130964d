-- The two texts of a path variable: which state is read from them, and as which texts a state is written (module(1),
-- __MODULES_SHARE_<VAR>; modulefile(5), prepend-path).
use Rattle.std.specs.Prelude.{◌≡◌, ℕ, Bool, false, ◌&&◌, ◌||◌, List, [], ◌∷◌, length, filter, flat_map, bytes_eq}
use Rattle.std.specs.Prelude.{nat_le, ◌==◌, if◌then◌else◌, Option, Some, None, is_some, unwrap_or, decimal}
use Rattle.std.specs.List.{slice_split, join_with_byte, list_any, AllByRecursion}
use Rattle.std.specs.Option.{option_or}
use Rattle.envvars.specs.Texts.{Text, has}
use Rattle.envvars.specs.Fields.{text_of_elements, without_repeats}
use Rattle.envvars.specs.Escapes.{escaped, unescaped_fields}
use Rattle.envstate.specs.paths.Paths.{PathState, IsPathState, CountersFit}
use Rattle.envstate.specs.paths.Counters.{counter_of}

-- a character that can separate elements: one from the space to the tilde
abbrev pub is_delimiter : ℕ → Bool
is_delimiter c = nat_le 32 c && nat_le c 126

-- the elements of a text between its delimiters
abbrev pub split_elements : ℕ → Text → List Text
split_elements delim t = slice_split (λ b. b == delim) t

-- the fields in pairs; a last field without a partner is passed over
abbrev pub paired : List Text → List (Text × Text)
paired [] = []
paired (x ∷ []) = []
paired (x ∷ n ∷ rest) = (x, n) ∷ paired rest

-- the counter of the first pair of x that has one
abbrev pub counter_in_pairs : Text → List (Text × Text) → Option ℕ
counter_in_pairs x [] = None
counter_in_pairs x (p ∷ ps) = option_or (if bytes_eq x p.0 then counter_of p.1 else None) (counter_in_pairs x ps)

-- the pairs of element and counter in the text of the counters; none where it is unset
abbrev pub pairs_of : Option Text → List (Text × Text)
pairs_of None = []
pairs_of (Some u) = paired (unescaped_fields u)

-- the elements of a text; an empty text is one empty element where the pairs count that element, else no element
abbrev pub elements_of : ℕ → Option Text → List (Text × Text) → List Text
elements_of delim None pairs = []
elements_of delim (Some []) pairs = if is_some (counter_in_pairs [] pairs) then [] ∷ [] else []
elements_of delim (Some (b ∷ bs)) pairs = split_elements delim (b ∷ bs)

-- the elements with the counters that the pairs have for them, and 1 where they have none
abbrev pub state_from : List Text → List (Text × Text) → PathState
state_from xs pairs = record {
  elements = xs;
  counter = λ x. if has x xs then unwrap_or
      (counter_in_pairs x pairs) 1 else 0;
}

-- the state that is read from the variable's text and the pairs of its counters
abbrev pub state_from_pairs : ℕ → Option Text → List (Text × Text) → PathState
state_from_pairs delim t pairs = state_from (elements_of delim t pairs) pairs

-- the state that is read from the two texts
abbrev pub state_of : ℕ → Option Text → Option Text → PathState
state_of delim t u = state_from_pairs delim t (pairs_of u)

-- the text of the elements, with the delimiter between them; the empty list unsets the variable
abbrev pub elements_text : ℕ → List Text → Option Text
elements_text delim [] = None
elements_text delim (x ∷ xs) = Some (join_with_byte delim (x ∷ xs))

-- the empty element is the only one
abbrev pub is_lone_empty : List Text → Bool
is_lone_empty [] = false
is_lone_empty (x ∷ []) = length x == 0
is_lone_empty (x ∷ y ∷ ys) = false

-- the elements whose counters are written: those with a counter of two or more, and an empty one that is the only one
abbrev pub counted_elements : PathState → List Text
counted_elements s = filter (λ x. nat_le 2 (s.counter x) || is_lone_empty s.elements) (without_repeats s.elements)

-- each element, with escapes, and its counter, as fields
abbrev pub counter_fields : PathState → List Text → List Text
counter_fields s xs = flat_map (λ x. escaped x ∷ decimal (s.counter x) ∷ []) xs

-- the text of the counters; none, which unsets its variable, where no counter is written
abbrev pub counters_as_text : PathState → Option Text
counters_as_text s = text_of_elements (counter_fields s (counted_elements s))

-- a text without the delimiter
abbrev pub HasNoDelimiter : ℕ → Text → Type 0
HasNoDelimiter delim x = list_any (λ b. b == delim) x ≡ false

-- a state that two texts can be read as
pub record IsWritable (delim : ℕ) (s : PathState) : Type 0 where
  pub valid : IsPathState s
  pub fit : CountersFit s
  pub no_delimiter : AllByRecursion (HasNoDelimiter delim) s.elements
