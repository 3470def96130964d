-- The state of a path variable, and what adding and dropping elements make of it (modulefile(5): prepend-path,
-- append-path, remove-path; module(1): path entries with a reference count).
use Rattle.std.specs.Prelude.{◌≡◌, ℕ, ◌+◌, ◌-◌, ◌≤◌, List, [], ◌∷◌, ◌++◌, bytes_eq, nat_lt, nat_le, if◌then◌else◌}
use Rattle.envvars.specs.Texts.{Text, has}
use Rattle.envvars.specs.Fields.{without}
use Rattle.envstate.specs.declared.paths.adding.End.{End}
use Rattle.envstate.specs.declared.paths.adding.End.TheVariants.{Front, Back}

-- the elements in order, and the counter of each element (0 where it isn't in the list)
pub record PathState : Type 0 where
  pub elements : List Text
  pub counter : Text → ℕ

-- exactly the elements of the list have a counter
abbrev pub IsPathState : PathState → Type 0
IsPathState s = (x : Text) → has x s.elements ≡ nat_lt 0 (s.counter x)

-- the largest counter
abbrev pub largest_counter : ℕ
largest_counter = 4294967295

-- no counter is past the largest
abbrev pub CountersFit : PathState → Type 0
CountersFit s = (x : Text) → s.counter x ≤ largest_counter

-- so many additions, of whatever elements, leave no counter past the largest
abbrev pub HasRoom : PathState → ℕ → Type 0
HasRoom s more = (x : Text) → s.counter x + more ≤ largest_counter

-- the list with the element at that end
abbrev pub put_at : List Text → Text → End → List Text
put_at xs x Front = x ∷ xs
put_at xs x Back = xs ++ x ∷ []

-- the counters with that of x one higher
abbrev pub one_higher : (Text → ℕ) → Text → Text → ℕ
one_higher counter x y = counter y + (if bytes_eq y x then 1 else 0)

-- the counters with that of x one lower, and 0 where it is 0
abbrev pub one_lower : (Text → ℕ) → Text → Text → ℕ
one_lower counter x y = counter y - (if bytes_eq y x then 1 else 0)

-- the counter of the element rises by one; an element that isn't in the list is put at that end
abbrev pub add : PathState → Text → End → PathState
add s x end =
    record {
      elements = if has x s.elements then s.elements else put_at s.elements x end;
      counter = one_higher s.counter x;
    }

-- the counter of the element falls by one, and at 0 the element leaves the list; one that isn't there changes nothing
abbrev pub drop : PathState → Text → PathState
drop s x =
    record {
      elements = if nat_le (s.counter x) 1 then without x s.elements else s.elements;
      counter = one_lower s.counter x;
    }

-- elements added at the front, the last of them first
abbrev pub add_front : PathState → List Text → PathState
add_front s [] = s
add_front s (x ∷ xs) = add (add_front s xs) x Front

-- elements added at the back, the first of them first
abbrev pub add_back : PathState → List Text → PathState
add_back s [] = s
add_back s (x ∷ xs) = add_back (add s x Back) xs

-- elements added at an end
abbrev pub add_all : PathState → List Text → End → PathState
add_all s xs Front = add_front s xs
add_all s xs Back = add_back s xs

-- elements dropped, the first of them first
abbrev pub drop_all : PathState → List Text → PathState
drop_all s [] = s
drop_all s (x ∷ xs) = drop_all (drop s x) xs
