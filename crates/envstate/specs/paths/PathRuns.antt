-- Runs of adds and drops on one path variable, and the state after them (own).
use Rattle.std.specs.Prelude.{◌≡◌, ℕ, ◌+◌, ◌-◌, ◌≤◌, ◌||◌, List, [], ◌∷◌, ◌++◌, filter, count_by, bytes_eq, nat_lt}
use Rattle.envvars.specs.Texts.{Text, has}
use Rattle.envstate.specs.paths.Paths.{PathState, add_all, drop_all}
use Rattle.envstate.specs.declared.paths.adding.End.{End}

-- an edit of a path variable: adding elements at an end, or dropping elements
pub data PathChange : Type 0 where
  Add : (xs : List Text) (end : End) → PathChange
  Drop : (xs : List Text) → PathChange

-- the state after the edits, the first of them first
abbrev pub after : List PathChange → PathState → PathState
after [] s = s
after (Add xs end ∷ edits) s = after edits (add_all s xs end)
after (Drop xs ∷ edits) s = after edits (drop_all s xs)

-- how often the edits add x
abbrev pub adds : List PathChange → Text → ℕ
adds [] x = 0
adds (Add xs end ∷ edits) x = count_by (bytes_eq x) xs + adds edits x
adds (Drop xs ∷ edits) x = adds edits x

-- how often the edits drop x
abbrev pub drops : List PathChange → Text → ℕ
drops [] x = 0
drops (Add xs end ∷ edits) x = drops edits x
drops (Drop xs ∷ edits) x = count_by (bytes_eq x) xs + drops edits x

-- the live adds of x: those that no drop has undone
abbrev pub live : List PathChange → Text → ℕ
live edits x = adds edits x - drops edits x

-- Each drop undoes one earlier add that was not undone before: however many of the edits are done,
-- no element was dropped more often than it was added.
abbrev pub EachDropUndoes : List PathChange → Type 0
EachDropUndoes edits = (done rest : List PathChange) → done ++ rest ≡ edits → (x : Text) → drops done x ≤ adds done x

-- the state is a start with live adds on top: the elements of the start are there in their order, an element is there
-- exactly where it is in the start or has a live add, and its counter is the one in the start plus its live adds
pub record IsPathStartWith (start : PathState) (live : Text → ℕ) (now : PathState) : Type 0 where
  pub order : filter (λ x. has x start.elements) now.elements ≡ start.elements
  pub inside : (x : Text) → has x now.elements ≡ (has x start.elements || nat_lt 0 (live x))
  pub counters : (x : Text) → now.counter x ≡ start.counter x + live x

-- no element has a live add
abbrev pub none_live : Text → ℕ
none_live x = 0

-- the live adds after these elements are added too
abbrev pub more_live : (Text → ℕ) → List Text → Text → ℕ
more_live live xs x = live x + count_by (bytes_eq x) xs

-- the live adds after these elements are dropped
abbrev pub fewer_live : (Text → ℕ) → List Text → Text → ℕ
fewer_live live xs x = live x - count_by (bytes_eq x) xs

-- each of these elements has at least as many live adds as it occurs here
abbrev pub AreLive : (Text → ℕ) → List Text → Type 0
AreLive live xs = (x : Text) → count_by (bytes_eq x) xs ≤ live x
