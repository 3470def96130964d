-- Path variables in order: their texts are those that the state read from them is written as (own).
use Rattle.std.specs.Prelude.{◌≡◌, ℕ, false, bytes_eq}
use Rattle.envvars.specs.Texts.{Text}
use Rattle.envvars.specs.Names.{share_name}
use Rattle.envvars.specs.Environment.{Environment, lookup}
use Rattle.envstate.specs.paths.Paths.{PathState}
use Rattle.envstate.specs.paths.PathTexts.{elements_text, counters_as_text}
use Rattle.envstate.specs.paths.PathVariables.{path_in}

-- the texts of the variable, with this delimiter, and of its counters are those that their state is written as
pub record IsPathInOrder (e : Environment) (name : Text) (delim : ℕ) : Type 0 where
  pub elements : lookup e name ≡ elements_text delim (path_in e name delim).elements
  pub counters : lookup e (share_name name) ≡ counters_as_text (path_in e name delim)

-- after an accepted edit the variable has the state and is in order, and every other variable is unchanged
pub record LeavesPath (old new : Environment) (name : Text) (delim : ℕ) (s : PathState) : Type 0 where
  pub state : path_in new name delim ≡ s
  pub order : IsPathInOrder new name delim
  pub others : (q : Text) → bytes_eq q name ≡ false → bytes_eq q (share_name name) ≡ false → lookup new q ≡ lookup old q
