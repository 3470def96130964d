-- For the contracts of private functions: the variables of a block, each by the place of its entry, and the chains in
-- which the entry of a name is found.
use Rattle.std.specs.Prelude.{◌≡◌, ℕ, ◌+◌, ◌-◌, ◌*◌, ◌/◌, ◌%◌, ◌<◌, ◌≤◌, List, [], ◌∷◌, map, length, take, drop}
use Rattle.std.specs.Prelude.{slice_get, slice_index, Option, Some, None, if◌then◌else◌}
use Rattle.std.specs.Str.{IsUtf8}
use Rattle.std.specs.FinMap as finite
use Rattle.envvars.specs.Texts.{Text}
use Rattle.envvars.specs.Environment.{Environment, with_value}
use Rattle.envvars.specs.EnvironmentBlock.{utf8_value}
use Rattle.envvars.specs.declared.given.Entry.{Entry}
use Rattle.envvars.specs.declared.given.GivenVariables.{GivenVariables}

-- the name of an entry
abbrev pub name_in : Text → Entry → Text
name_in block e = take (e.equals - e.start) (drop e.start block)

-- the bytes of its value
abbrev pub bytes_in : Text → Entry → Text
bytes_in block e = take (e.end - (e.equals + 1)) (drop (e.equals + 1) block)

-- its value, none where it is unset or isn't UTF-8
abbrev pub value_in : Text → Entry → Option Text
value_in block e = if e.is_set then utf8_value (bytes_in block e) else None

-- an environment with the variables of the entries over it; of several entries of one name the first counts
abbrev pub given_over : Text → Environment → List Entry → Environment
given_over block base [] = base
given_over block base (e ∷ entries) = with_value (given_over block base entries) (name_in block e) (value_in block e)

-- the variables of a block
abbrev pub variables_of : GivenVariables → Environment
variables_of given = given_over given.block.items finite.empty given.entries.items

-- the names of its entries
abbrev pub names_of : GivenVariables → List Text
names_of given = map (name_in given.block.items) given.entries.items

-- The name and the value of an entry stand in the block, and the name is UTF-8.
pub record IsInside (block : Text) (e : Entry) : Type 0 where
  pub named : e.start ≤ e.equals
  pub valued : e.equals < e.end
  pub within : e.end ≤ length block
  pub utf8 : IsUtf8 (name_in block e)

-- the chain of a name, of so many chains
unfoldable pub chain_of : ℕ → Text → ℕ
chain_of count name =
    (length name + 3 * slice_index name (length name / 2) + 31 * slice_index name (length name - 1)) % count

-- The entry of this index has the name.
abbrev pub IsNamed : Text → List Entry → Text → ℕ → Type 0
IsNamed block entries name i = (e : Entry) × (slice_get entries i ≡ Some e) × (name_in block e ≡ name)

-- The entry of this index is in the chain, of so many chains.
abbrev pub IsInChain : ℕ → Text → List Entry → ℕ → ℕ → Type 0
IsInChain count block entries chain i =
    (e : Entry) × (slice_get entries i ≡ Some e) × (chain_of count (name_in block e) ≡ chain)

-- the last index below n that has a property, or none
abbrev pub IsLastBelow : (ℕ → Type 0) → ℕ → Option ℕ → Type 0
IsLastBelow P n None = (j : ℕ) → j < n → ¬ P j
IsLastBelow P n (Some i) = (i < n) × P i × ((j : ℕ) → i < j → j < n → ¬ P j)

-- the first index that has a property, or none
abbrev pub IsFirstOf : (ℕ → Type 0) → Option ℕ → Type 0
IsFirstOf P None = (j : ℕ) → ¬ P j
IsFirstOf P (Some i) = P i × ((j : ℕ) → j < i → ¬ P j)

-- Each entry leads to the one before it in its chain, and each chain begins at its last entry.
pub record AreChained (count : ℕ) (block : Text) (entries : List Entry) (latest : List (Option ℕ)) : Type 0 where
  pub inside : (i : ℕ) (e : Entry) → slice_get entries i ≡ Some e → IsInside block e
  pub chains : 0 < length entries → 0 < count
  pub begins : (chain : ℕ) (i : Option ℕ) → slice_get latest chain ≡ Some i
      → IsLastBelow (IsInChain count block entries chain) (length entries) i
  pub leads : (i : ℕ) (e : Entry) → slice_get entries i ≡ Some e
      → IsLastBelow (IsInChain count block entries (chain_of count (name_in block e))) i e.earlier

-- The entries of a block of variables are chained.
abbrev pub IsChained : GivenVariables → Type 0
IsChained given = AreChained (length given.latest.items) given.block.items given.entries.items given.latest.items
