-- The laws of records and moves (own).
use Rattle.std.specs.Prelude.{◌≡◌, true, List, ◌++◌, Ok}
use Rattle.std.specs.List.{list_all}
use Rattle.envvars.specs.Texts.{Text}
use Rattle.envvars.specs.Environment.{Environment}
use Rattle.modulefile.specs.Records.{Record}
use Rattle.modulefile.specs.Judgments.{is_allowed}
use Rattle.modulefile.specs.Effects.{Mode, effects}
use Rattle.modulefile.specs.Moves.{Move, moved, all_moved, MovesReach, IsAllowed, AreAllowed}

-- Records that all have their effects are allowed, in every mode.
abbrev pub EffectsAreAllowed : Type 0
EffectsAreAllowed =
    (mode : Mode) (owner : Text) (rs : List Record) (old new : Environment)
    → effects mode owner rs old ≡ Ok new → list_all is_allowed rs ≡ true

-- The effects of two lists, one after the other, are those of the longer list.
abbrev pub EffectsCompose : Type 0
EffectsCompose =
    (mode : Mode) (owner : Text) (rs more : List Record) (old mid new : Environment)
    → effects mode owner rs old ≡ Ok mid → effects mode owner more mid ≡ Ok new
    → effects mode owner (rs ++ more) old ≡ Ok new

-- An accepted move is allowed.
abbrev pub MovedIsAllowed : Type 0
MovedIsAllowed = (m : Move) (old new : Environment) → moved m old ≡ Ok new → IsAllowed m

-- Moves that reach an environment are allowed, and it is their outcome.
abbrev pub ReachIsAllowed : Type 0
ReachIsAllowed = (ms : List Move) (old new : Environment) → MovesReach ms old new → AreAllowed ms

abbrev pub ReachIsAllMoved : Type 0
ReachIsAllMoved = (ms : List Move) (old new : Environment) → MovesReach ms old new → all_moved ms old ≡ Ok new

-- Where moves reach an environment, and more moves another one from there, both lists one after the other reach that
-- one.
abbrev pub ReachComposes : Type 0
ReachComposes =
    (ms more : List Move) (old mid new : Environment)
    → MovesReach ms old mid → MovesReach more mid new → MovesReach (ms ++ more) old new
