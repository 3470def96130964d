-- Worked examples of what is lost where hands change what they may not (own), each over one variable and one or two
-- modules.
use Rattle.std.specs.Prelude.{◌≡◌, ◌≢◌, ℕ, ◌-◌, not, List, [], ◌∷◌, ◌++◌, filter, nat_lt, codes, Some, None}
use Rattle.envvars.specs.Texts.{Text}
use Rattle.envvars.specs.Environment.{Environment}
use Rattle.envvars.specs.Fields.{colon}
use Rattle.envstate.specs.paths.Paths.{PathState}
use Rattle.envstate.specs.paths.PathVariables.{path_in, with_path}
use Rattle.modulefile.specs.Records.{Set}
use Rattle.modulefile.specs.Moves.{Module, Move, Loads, Unloads, MovesReach}
use Rattle.reversal.specs.VariableUses.{VariableUse, Untouched, Fixed, Pathed, Stacked}
use Rattle.reversal.specs.Live.{live_adds}
use Rattle.reversal.specs.Starts.{IsStart, IsStartWith}
use Rattle.reversal.specs.Runs.{live_after, AreReversible}
use Rattle.reversal.specs.Examples.{held, only_use, variable, first_module, second_module, add_front, push_value}
use Rattle.reversal.specs.Examples.{there_and_back, without_records}
use Rattle.requests.specs.hand_changes.HandChanges.{HandChange, changed, IsHandChange, without_live_adds}

-- From a start, accepted moves of modules that are reversible and apart, with one change by hand between them.
pub record ChangedBetween (uses : Text → VariableUse) (start : Environment) (before : List Move) (c : HandChange)
    (after : List Move) : Type 0 where
  pub begins : IsStart uses start
  pub reversible : AreReversible uses [] (before ++ after)
  pub between : Environment
  pub reach : MovesReach before start between
  pub end : Environment
  pub reach_end : MovesReach after (changed c between) end

-- No module is live in the end, and the environment isn't the start with the variable given the same value.
pub record LoseChange (uses : Text → VariableUse) (start : Environment) (before : List Move) (c : HandChange)
    (after : List Move) : Type 0 where
  pub moves : ChangedBetween uses start before c after
  pub none : live_after [] (before ++ after) ≡ []
  pub lost : moves.end ≢ changed c start

-- There is no environment that the end has the modules over that are live then.
pub record LoseLive (uses : Text → VariableUse) (start : Environment) (before : List Move) (c : HandChange)
    (after : List Move) : Type 0 where
  pub moves : ChangedBetween uses start before c after
  pub differs : (b : Environment) → IsStartWith uses b (live_after [] (before ++ after)) moves.end → ⊥

-- the variable is given this value by hand
abbrev pub given : Text → HandChange
given value = record { variable = variable; value = Some value }

-- An element that a live module has added is taken out: what another module then adds is gone with the first one's
-- unload. Where the start has the element itself, its counter is 2 and stays behind, so the path isn't in order either;
-- where it hasn't, the path is in order.
abbrev pub ElementTakenOut : Text → Type 0
ElementTakenOut start_value =
    LoseLive (only_use variable (Pathed colon)) (held ((variable, start_value) ∷ []))
    (Loads (first_module (add_front ∷ [])) ∷ []) (given (codes "/b"))
    (Loads (second_module (add_front ∷ [])) ∷ Unloads (first_module (add_front ∷ [])) ∷ [])

abbrev pub CountedElementTakenOut : Type 0
CountedElementTakenOut = ElementTakenOut (codes "/a")

abbrev pub LoneElementTakenOut : Type 0
LoneElementTakenOut = ElementTakenOut (codes "/b")

-- An element that no live module has added is taken out, where its counter is 2: the counter is gone in the end.
abbrev pub CounterLeft : Type 0
CounterLeft =
    LoseChange (only_use variable (Pathed colon))
    (held ((variable, codes "/b:/c") ∷ (codes "__MODULES_SHARE_V", codes "/b:2") ∷ [])) [] (given (codes "/c"))
    (there_and_back add_front)

-- A path that is set to the empty text is unset in the end.
abbrev pub PathEmptied : Type 0
PathEmptied =
    LoseChange (only_use variable (Pathed colon)) (held ((variable, codes "/b") ∷ [])) [] (given [])
    (there_and_back add_front)

-- The value of a variable is lost where a live module has pushed one on it.
abbrev pub PushedValueChanged : Type 0
PushedValueChanged =
    LoseChange (only_use variable Stacked) (held []) (Loads (first_module (push_value ∷ [])) ∷ []) (given (codes "z"))
    (Unloads (first_module (push_value ∷ [])) ∷ [])

-- The value of a variable is lost where a live module has set it.
abbrev pub SetValueChanged : Type 0
SetValueChanged =
    LoseChange (only_use variable (Fixed None)) (held []) (Loads (first_module (Set variable (codes "x") ∷ [])) ∷ [])
    (given (codes "z")) (Unloads (first_module (Set variable (codes "x") ∷ [])) ∷ [])

-- A variable of the loaded list that is set to the empty text is unset in the end. (Of the tool's own variables more is
-- forbidden than has to be.)
abbrev pub LoadedNamesChanged : Type 0
LoadedNamesChanged =
    LoseChange (λ v. Untouched) (held []) [] (record { variable = codes "LOADEDMODULES"; value = Some [] })
    without_records

-- Two wrong paths for the start after a change by hand: one that forgets to take from the counters what live modules
-- have added, and one that takes each element that a live module has added for the module's alone.
abbrev pub with_all_counted : PathState → (Text → ℕ) → PathState → PathState
with_all_counted start live now =
    record { elements = (without_live_adds start live now).elements; counter = now.counter }

abbrev pub without_live_elements : PathState → (Text → ℕ) → PathState → PathState
without_live_elements start live now =
    record {
      elements = filter (λ x. not (nat_lt 0 (live x))) now.elements;
      counter = λ x. now.counter x - live x;
    }

-- The start has an element that the live module adds too, and hands put another in front of both. The environment isn't
-- a start with the module over it where the path of that start is the wrong one.
abbrev pub path_start : Environment
path_start = held ((variable, codes "/a") ∷ [])

abbrev pub live_module : List Module
live_module = first_module (add_front ∷ []) ∷ []

pub record IsWrong (start_path : PathState → (Text → ℕ) → PathState → PathState) : Type 0 where
  pub begins : IsStart (only_use variable (Pathed colon)) path_start
  pub between : Environment
  pub reach : MovesReach (Loads (first_module (add_front ∷ [])) ∷ []) path_start between
  pub may : IsHandChange (only_use variable (Pathed colon)) live_module between (given (codes "/c:/a"))
  pub differs : IsStartWith (only_use variable (Pathed colon))
      (with_path path_start variable colon
      (start_path (path_in path_start variable colon) (live_adds variable live_module)
      (path_in (changed (given (codes "/c:/a")) between) variable colon)))
      live_module (changed (given (codes "/c:/a")) between) → ⊥

abbrev pub CountersForgotten : Type 0
CountersForgotten = IsWrong with_all_counted

abbrev pub ElementOfStartTaken : Type 0
ElementOfStartTaken = IsWrong without_live_elements
