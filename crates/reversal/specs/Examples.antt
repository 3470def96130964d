-- Worked examples of what is lost where one premise doesn't hold (own), each over one variable or none,
-- and one or two modules.
use Rattle.std.specs.Prelude.{◌≡◌, ◌≢◌, true, List, [], ◌∷◌, bytes_eq, codes, if◌then◌else◌, is_some, Some, None}
use Rattle.std.specs.FinMap as finite
use Rattle.std.specs.List.{list_all}
use Rattle.envvars.specs.Texts.{Text}
use Rattle.envvars.specs.Environment.{Environment, with_value}
use Rattle.envvars.specs.Fields.{colon}
use Rattle.envstate.specs.loaded_list.Loaded.{AreLoadedInOrder}
use Rattle.modulefile.specs.Records.{Record, Set, Unset, Push, Path}
use Rattle.modulefile.specs.declared.records.PathEdit.TheVariants.{Front, Back, Remove}
use Rattle.modulefile.specs.Moves.{Module, Move, Loads, Unloads, MovesReach}
use Rattle.reversal.specs.VariableUses.{VariableUse, Untouched, Fixed, Absent, Pathed, Stacked, can_return}
use Rattle.reversal.specs.VariableUses.{AllFollowUses, AllSuit}
use Rattle.reversal.specs.Live.{last_set, live_set}
use Rattle.reversal.specs.Undone.{UndoEquivalently}
use Rattle.reversal.specs.Starts.{IsStart, IsStartWith}
use Rattle.reversal.specs.Runs.{live_named, without_live, live_after, AreReversible}

-- the environment with these values
abbrev pub held : List (Text × Text) → Environment
held [] = finite.empty
held (p ∷ ps) = with_value (held ps) p.0 (Some p.1)

-- the uses of variables where this one has this use, and no other is used
abbrev pub only_use : Text → VariableUse → Text → VariableUse
only_use name variable_use v = if bytes_eq v name then variable_use else Untouched

-- The moves are accepted and leave no module live, and they don't reach the start.
pub record Lose (start : Environment) (ms : List Move) : Type 0 where
  pub end : Environment
  pub reach : MovesReach ms start end
  pub none : live_after [] ms ≡ []
  pub lost : end ≢ start

-- The modules are reversible and apart, but this is no start: its loaded list is in order, and something else isn't.
pub record LoseUnstarted (uses : Text → VariableUse) (start : Environment) (ms : List Move) : Type 0 where
  pub reversible : AreReversible uses [] ms
  pub listed : AreLoadedInOrder start
  pub lose : Lose start ms

-- The modules are reversible and apart, and no variable is used, but the loaded list of the start isn't in order.
pub record LoseUnlisted (start : Environment) (ms : List Move) : Type 0 where
  pub reversible : AreReversible (λ v. Untouched) [] ms
  pub lose : Lose start ms

-- The parts of the premises about moves.
pub data Part : Type 0 where
  -- A module that is loaded has records of the kinds alone after which the start can be back;
  of_kind : Part
  -- it follows the use of each variable;
  follows_use : Part
  -- and it sets or unsets none that a live module sets or unsets.
  apart : Part
  -- A module that is unloaded is live;
  alive : Part
  -- and its records undo what those of its load undo.
  undoes_alike : Part

-- what a part means for a load, and for an unload, while these modules are live
abbrev pub OfLoad : Part → (Text → VariableUse) → List Module → Module → Type 0
OfLoad of_kind uses live m = list_all can_return m.records ≡ true
OfLoad follows_use uses live m = AllFollowUses uses m.records
OfLoad apart uses live m = (v : Text) → is_some (last_set v m.records) ≡ true → live_set v live ≡ None
OfLoad alive uses live m = Unit {0}
OfLoad undoes_alike uses live m = Unit {0}

abbrev pub OfUnload : Part → List Module → Module → Type 0
OfUnload of_kind live m = Unit {0}
OfUnload follows_use live m = Unit {0}
OfUnload apart live m = Unit {0}
OfUnload alive live m = (loaded : Module) × (live_named m.name live ≡ Some loaded)
OfUnload undoes_alike live m = (loaded : Module) → live_named m.name live ≡ Some loaded
    → UndoEquivalently m.records loaded.records

-- the part holds for each move
abbrev pub HasPart : Part → (Text → VariableUse) → List Module → List Move → Type 0
HasPart p uses live [] = Unit {0}
HasPart p uses live (Loads m ∷ ms) = OfLoad p uses live m × HasPart p uses (m ∷ live) ms
HasPart p uses live (Unloads m ∷ ms) = OfUnload p live m × HasPart p uses (without_live m.name live) ms

-- All parts together are the premises.
abbrev pub PartsAreAll : Type 0
PartsAreAll =
    (uses : Text → VariableUse) (ms : List Move) → ((part : Part) → HasPart part uses [] ms) → AreReversible uses [] ms

-- every part but this one
abbrev pub OtherParts : Part → (Text → VariableUse) → List Move → Type 0
OtherParts part uses ms = (other : Part) → other ≢ part → HasPart other uses [] ms

-- It is a start, and the moves have every part but this one.
pub record LoseIrreversible (part : Part) (uses : Text → VariableUse) (start : Environment)
    (ms : List Move) : Type 0 where
  pub begins : IsStart uses start
  pub others : OtherParts part uses ms
  pub lose : Lose start ms

-- It is a start, and the moves have every part but this one. They reach an environment that isn't the start with the
-- live modules over it.
pub record LoseBetween (part : Part) (uses : Text → VariableUse) (start : Environment) (ms : List Move) : Type 0 where
  pub begins : IsStart uses start
  pub others : OtherParts part uses ms
  pub end : Environment
  pub reach : MovesReach ms start end
  pub differs : IsStartWith uses start (live_after [] ms) end → ⊥

-- modules of one record or none, and the variable of the examples
abbrev pub first_module : List Record → Module
first_module records = record { name = codes "m/1"; path = codes "/m/m/1"; records = records }

abbrev pub second_module : List Record → Module
second_module records = record { name = codes "n/1"; path = codes "/m/n/1"; records = records }

abbrev pub variable : Text
variable = codes "V"

-- a load and its unload, and two loads with the unloads in the order of the loads
abbrev pub there_and_back : Record → List Move
there_and_back r = Loads (first_module (r ∷ [])) ∷ Unloads (first_module (r ∷ [])) ∷ []

abbrev pub crossed : Record → Record → List Move
crossed r s =
    Loads (first_module (r ∷ [])) ∷ Loads (second_module (s ∷ []))
    ∷ Unloads (first_module (r ∷ [])) ∷ Unloads (second_module (s ∷ [])) ∷ []

abbrev pub without_records : List Move
without_records = Loads (first_module []) ∷ Unloads (first_module []) ∷ []

abbrev pub add_front : Record
add_front = Path Front colon variable (codes "/a" ∷ [])

abbrev pub push_value : Record
push_value = Push variable (codes "x")

-- a/1 is loaded, and the variable has these values
abbrev pub listed_with : List (Text × Text) → Environment
listed_with ps = held ((codes "LOADEDMODULES", codes "a/1") ∷ (codes "_LMFILES_", codes "/m/a/1") ∷ ps)

-- Starts. A path set to the empty text is unset in the end.
abbrev pub EmptyPath : Type 0
EmptyPath =
    LoseUnstarted (only_use variable (Pathed colon)) (held ((variable, []) ∷ [])) (there_and_back add_front)

-- Counters of an element that isn't there are dropped.
abbrev pub CounterOfNone : Type 0
CounterOfNone =
    LoseUnstarted (only_use variable (Pathed colon))
    (held ((variable, codes "/b") ∷ (codes "__MODULES_SHARE_V", codes "/z:3") ∷ [])) (there_and_back add_front)

-- A stack of a bottom alone is unset in the end.
abbrev pub BottomAlone : Type 0
BottomAlone =
    LoseUnstarted (only_use variable Stacked)
    (held ((variable, codes "y") ∷ (codes "__MODULES_PUSHENV_V", codes "&y") ∷ [])) (there_and_back push_value)

-- A value that the stack doesn't show is forgotten.
abbrev pub HiddenValue : Type 0
HiddenValue =
    LoseUnstarted (only_use variable Stacked)
    (listed_with ((variable, codes "z") ∷ (codes "__MODULES_PUSHENV_V", codes "a/1&y") ∷ []))
    (there_and_back push_value)

-- A stack with other escapes is written with its own.
abbrev pub OtherEscapes : Type 0
OtherEscapes =
    LoseUnstarted (only_use variable Stacked)
    (listed_with ((variable, codes "\\y") ∷ (codes "__MODULES_PUSHENV_V", codes "a/1&\\y") ∷ []))
    (there_and_back push_value)

-- The item of an owner that isn't loaded is taken for the module's own.
abbrev pub OwnerNotLoaded : Type 0
OwnerNotLoaded =
    LoseUnstarted (only_use variable Stacked)
    (held ((variable, codes "y") ∷ (codes "__MODULES_PUSHENV_V", codes "m/1&y") ∷ [])) (there_and_back push_value)

-- A variable that is set has a value at the start.
abbrev pub ValueBeforeSet : Type 0
ValueBeforeSet =
    LoseUnstarted (only_use variable (Fixed None)) (held ((variable, codes "y") ∷ []))
    (there_and_back (Set variable (codes "x")))

-- A variable that is unset has another value at the start than its unload gives back.
abbrev pub OtherValue : Type 0
OtherValue =
    LoseUnstarted (only_use variable (Fixed (Some (codes "x")))) (held ((variable, codes "y") ∷ []))
    (there_and_back (Unset variable (Some (codes "x"))))

-- A variable that is unset without a value has one at the start.
abbrev pub ValueBeforeUnset : Type 0
ValueBeforeUnset =
    LoseUnstarted (only_use variable Absent) (held ((variable, codes "y") ∷ [])) (there_and_back (Unset variable None))

-- Loaded lists. Lists set to the empty text are unset in the end.
abbrev pub EmptyLists : Type 0
EmptyLists = LoseUnlisted (held ((codes "LOADEDMODULES", codes "") ∷ (codes "_LMFILES_", codes "") ∷
    [])) without_records

-- Needs of a module that isn't loaded are dropped.
abbrev pub NeedsOfNone : Type 0
NeedsOfNone = LoseUnlisted (held ((codes "__MODULES_LMPREREQ", codes "z/1&k") ∷ [])) without_records

-- A conflict that stands twice stands once in the end.
abbrev pub ConflictTwice : Type 0
ConflictTwice = LoseUnlisted (listed_with ((codes "__MODULES_LMCONFLICT", codes "a/1&k&k") ∷ [])) without_records

-- An ill-spelled name is dropped.
abbrev pub IllSpelled : Type 0
IllSpelled = LoseUnlisted (listed_with ((codes "__MODULES_LMPREREQ", codes "a/1&k|.l") ∷ [])) without_records

-- A group without names is dropped.
abbrev pub EmptyGroup : Type 0
EmptyGroup = LoseUnlisted (listed_with ((codes "__MODULES_LMPREREQ", codes "a/1&k&") ∷ [])) without_records

-- The kind after which the start can't be back.
abbrev pub ElementRemoved : Type 0
ElementRemoved =
    LoseIrreversible of_kind (only_use variable (Pathed colon)) (held ((variable, codes "/a:/b") ∷ []))
    (there_and_back (Path Remove colon variable (codes "/a" ∷ [])))

-- Records at the unload that undo something else than those of the load.
abbrev pub OtherRecords : Type 0
OtherRecords =
    LoseIrreversible undoes_alike (only_use variable (Pathed colon)) (held ((variable, codes "/b") ∷ []))
    (Loads (first_module (add_front ∷ [])) ∷ Unloads (first_module []) ∷ [])

-- A module of the start is unloaded.
abbrev pub StartUnloaded : Type 0
StartUnloaded =
    LoseIrreversible alive (only_use variable Untouched) (listed_with [])
    (Unloads (record { name = codes "a/1"; path = codes "/m/a/1"; records = [] }) ∷ [])

-- Two uses of one variable: the start is one by either, and the record of each module suits one of them.
pub record LoseByTwoUses (one other : VariableUse) (start : Environment) (r s : Record) : Type 0 where
  pub in_one : LoseIrreversible follows_use (only_use variable one) start (crossed r s)
  pub in_other : IsStart (only_use variable other) start
  pub first : AllSuit (only_use variable one) (r ∷ [])
  pub second : AllSuit (only_use variable other) (s ∷ [])

abbrev pub SetAndPushed : Type 0
SetAndPushed = LoseByTwoUses (Fixed None) Stacked (held []) (Set variable (codes "y")) push_value

abbrev pub UnsetAndPushed : Type 0
UnsetAndPushed =
    LoseByTwoUses (Fixed (Some (codes "y"))) Stacked (held ((variable, codes "y") ∷ []))
    (Unset variable (Some (codes "y"))) push_value

abbrev pub AddedAndPushed : Type 0
AddedAndPushed =
    LoseByTwoUses (Pathed colon) Stacked (held ((variable, codes "/b") ∷ [])) add_front push_value

abbrev pub TwoDelimiters : Type 0
TwoDelimiters =
    LoseByTwoUses (Pathed colon) (Pathed 59) (held ((variable, codes "a") ∷ []))
    (Path Back colon variable (codes "b" ∷ [])) (Path Back 59 variable (codes "c" ∷ []))

-- Two live modules set one variable, and the first of them is unloaded: the other one's value is gone.
abbrev pub SetByTwo : Type 0
SetByTwo =
    LoseBetween apart (only_use variable (Fixed None)) (held [])
    (Loads (first_module (Set variable (codes "x") ∷ [])) ∷ Loads (second_module (Set variable (codes "y") ∷ []))
    ∷ Unloads (first_module (Set variable (codes "x") ∷ [])) ∷ [])

-- One sets a variable, and the other unsets it without a value, and is unloaded: the first one's value is gone.
abbrev pub SetAndAbsent : Type 0
SetAndAbsent =
    LoseBetween follows_use (only_use variable (Fixed None)) (held [])
    (Loads (first_module (Set variable (codes "x") ∷ [])) ∷ Loads (second_module (Unset variable None ∷ []))
    ∷ Unloads (second_module (Unset variable None ∷ [])) ∷ [])
