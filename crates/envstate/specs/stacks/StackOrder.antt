-- A stack as its two variables hold it (own).
use Rattle.std.specs.Prelude.{◌≡◌}
use Rattle.envvars.specs.Texts.{Text}
use Rattle.envvars.specs.Names.{stack_name}
use Rattle.envvars.specs.Environment.{Environment, lookup}
use Rattle.envstate.specs.stacks.Stacks.{StackState}
use Rattle.envstate.specs.stacks.StackTexts.{stack_text}

-- the variable's value and the text of its stack are those of the state
pub record HoldsStack (e : Environment) (name : Text) (s : StackState) : Type 0 where
  pub text : lookup e (stack_name name) ≡ stack_text s.items
  pub value : lookup e name ≡ s.value
