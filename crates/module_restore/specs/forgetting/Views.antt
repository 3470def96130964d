-- What the values of the code stand for, for the contracts of this crate's private functions (own).
use Rattle.std.specs.Prelude.{◌≡◌, true, false, List, Option, codes}
use Rattle.std.specs.declared.alloc.Global.{Global}
use Rattle.std.specs.declared.string.String.{String}
use Rattle.std.specs.declared.vec.Vec.{Vec}
use Rattle.envvars.specs.Texts.{Text, has, texts_in}
use Rattle.envvars.specs.Environment.{Environment, lookup}
use Rattle.envvars.specs.Names.{share_name}
use Rattle.envstate.specs.EnvLaws.{SameLoaded, SameStack}
use Rattle.envstate.specs.Roles.{after_prefix, is_editable, role_of}
use Rattle.envstate.specs.Roles.VariableRole.{Other}
use Rattle.module_restore.specs.forgetting.Forgets.{Forgetting, without_value}

-- the variable whose stack a variable of this name holds, if it is one of a stack
abbrev pub stacked_in : Text → Option Text
stacked_in name = after_prefix (codes "__MODULES_PUSHENV_") name

-- what is forgotten so far
abbrev pub forgetting_in : Environment → Vec (String Global) Global → Forgetting
forgetting_in e names = record { env = e; names = texts_in names }

-- what no pop touches is as before: the counters of paths, the loaded lists, and what is none of the tool's own
pub record IsRestSame (e after : Environment) : Type 0 where
  pub counters : (v : Text) → is_editable v ≡ true → lookup after (share_name v) ≡ lookup e (share_name v)
  pub lists : SameLoaded after e
  pub others : (name : Text) → role_of name ≡ Other → lookup after name ≡ lookup e name

-- the module's values are popped from the stacks of these variables
pub record ArePoppedFrom (owner : Text) (variables : List Text) (e after : Environment) : Type 0 where
  pub popped : (v : Text) → is_editable v ≡ true → has v variables ≡ true → SameStack after (without_value e v owner) v
  pub unpopped : (v : Text) → is_editable v ≡ true → has v variables ≡ false → SameStack after e v
  pub rest : IsRestSame e after

-- the module's values are popped from all stacks
pub record ArePopped (owner : Text) (e after : Environment) : Type 0 where
  pub stacks : (v : Text) → is_editable v ≡ true → SameStack after (without_value e v owner) v
  pub rest : IsRestSame e after
