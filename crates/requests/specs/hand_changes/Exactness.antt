-- That the definitions of a start and of changes by hand are exact (own): there is one start below live modules, and no
-- more may be changed than what hands may change.
use Rattle.std.specs.Prelude.{◌≡◌, ◌⊎◌, List, Some}
use Rattle.envvars.specs.Texts.{Text}
use Rattle.envvars.specs.Environment.{Environment}
use Rattle.envstate.specs.Roles.{role_of}
use Rattle.modulefile.specs.Moves.{Module}
use Rattle.reversal.specs.VariableUses.{VariableUse}
use Rattle.reversal.specs.Starts.{IsInOrder, IsStart, IsStartWith}
use Rattle.reversal.specs.Laws.{Holds}
use Rattle.requests.specs.hand_changes.HandChanges.{HandChange, changed, use_of_role, IsHandChange}

-- There is one start below live modules: of two starts that the environment has live modules over, each is the other.
abbrev pub OneStart : Type 0
OneStart =
    (uses : Text → VariableUse) (start other e : Environment) (live : List Module) → IsStart uses start
    → IsStart uses other → IsStartWith uses start live e → IsStartWith uses other live e → start ≡ other

-- No more may be changed by hand: where the changed environment is in order and some start has the live modules over
-- it, the change is one that may be made, or it changes nothing. (Of a variable that holds the tool's own state nothing
-- is said.)
abbrev pub NoMoreMayChange : Type 0
NoMoreMayChange =
    (uses : Text → VariableUse) (start other e : Environment) (live : List Module) (c : HandChange) (y : VariableUse)
    → IsStart uses start → IsInOrder uses e → IsStartWith uses start live e
    → use_of_role uses (role_of c.variable) ≡ Some y → IsStart uses other → Holds uses other live (changed c e)
    → IsHandChange uses live e c ⊎ (changed c e ≡ e)
