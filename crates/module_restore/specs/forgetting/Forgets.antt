-- What `forget` makes of an environment (module(1), forget): loaded modules leave the loaded lists, and their values leave
-- the stacks on which they were pushed (modulefile(5), pushenv).
use Rattle.std.specs.Prelude.{◌≡◌, Bool, true, false, ◌||◌, not, is_some, List, [], ◌∷◌, ◌++◌, filter, Option, Some, None}
use Rattle.std.specs.Prelude.{Result, Ok, Err}
use Rattle.envvars.specs.Texts.{Text}
use Rattle.envvars.specs.Names.{share_name}
use Rattle.envvars.specs.Environment.{Environment, lookup}
use Rattle.envvars.specs.Reasons.{EnvReason, inconsistent}
use Rattle.envstate.specs.EnvLaws.{SameLoaded, SameStack}
use Rattle.envstate.specs.Roles.{is_editable, role_of}
use Rattle.envstate.specs.Roles.VariableRole.{Other}
use Rattle.envstate.specs.loaded_list.Loaded.{Entry, dropped_loaded, loaded_in, names_of}
use Rattle.envstate.specs.stacks.StackVariables.{popped_value}
use Rattle.filetree.specs.Agreement.{Files}
use Rattle.filetree.specs.Relations.{Is, If, ◌>>◌}
use Rattle.requests.specs.Steps.{last_meant}

-- an environment behind an edit; where that is refused, the environment before it
abbrev pub edited_or_same : Environment → Result Environment EnvReason → Environment
edited_or_same e (Ok edited) = edited
edited_or_same e (Err reason) = e

-- the value of a module is popped from the stack of a variable; it has none on a stack that can't be read
abbrev pub without_value : Environment → (variable owner : Text) → Environment
without_value e variable owner = edited_or_same e (popped_value e variable owner)

-- A module is forgotten: it is dropped from the loaded lists, its value is popped from the stack of each variable, and
-- all else stays.
pub record IsForgotten (owner : Text) (e after : Environment) : Type 0 where
  pub dropped : Environment
  pub drops : dropped_loaded e owner ≡ Ok dropped
  pub lists : SameLoaded after dropped
  pub stacks : (v : Text) → is_editable v ≡ true → SameStack after (without_value e v owner) v
  pub counters : (v : Text) → is_editable v ≡ true → lookup after (share_name v) ≡ lookup e (share_name v)
  pub others : (name : Text) → role_of name ≡ Other → lookup after name ≡ lookup e name

-- why nothing is forgotten: an edit is refused, a name means no loaded module, or the file of one is there
pub data ForgetReason : Type 0 where
  refused_edit : (reason : EnvReason) → ForgetReason
  not_loaded : (name : Text) → ForgetReason
  file_there : (path : Text) → ForgetReason

-- the loaded modules, or the reason that the loaded lists don't fit together
abbrev pub consistent : Option (List Entry) → Result (List Entry) ForgetReason
consistent None = Err (refused_edit inconsistent)
consistent (Some entries) = Ok entries

abbrev pub entries_of : Environment → Result (List Entry) ForgetReason
entries_of e = consistent (loaded_in e)

-- what is forgotten so far: the environment, and the names of the modules in turn
pub record Forgetting : Type 0 where
  pub env : Environment
  pub names : List Text

abbrev pub nothing_forgotten : Environment → Forgetting
nothing_forgotten e = record { env = e; names = [] }

-- one module more
abbrev pub ForgetsEntry : Entry → Forgetting → Result Forgetting ForgetReason → Type 0
ForgetsEntry x d o =
    (after : Environment) × IsForgotten x.name d.env after
    × (o ≡ Ok (record { env = after; names = d.names ++ x.name ∷ [] }))

-- the file at the path of a module is gone, or settings are to stay
abbrev pub can_go : Bool → Files → Text → Bool
can_go settings_stay files path = settings_stay || not (is_some (files path))

abbrev pub ForgetsMeant : Bool → Files → Text → Forgetting → Option Entry → Result Forgetting ForgetReason → Type 0
ForgetsMeant settings_stay files name d None = Is (Err (not_loaded name))
ForgetsMeant settings_stay files name d (Some x) =
    If (can_go settings_stay files x.path) (ForgetsEntry x d) (Is (Err (file_there x.path)))

-- the last loaded module that a name means is forgotten: the one that an unload would take
abbrev pub ForgetsName : Bool → Files → Text → Forgetting → Result Forgetting ForgetReason → Type 0
ForgetsName settings_stay files name d =
    Is (entries_of d.env) >> (λ entries. ForgetsMeant settings_stay files name d (last_meant name entries))

-- each name in turn
abbrev pub ForgetsEach : Bool → Files → List Text → Forgetting → Result Forgetting ForgetReason → Type 0
ForgetsEach settings_stay files [] d = Is (Ok d)
ForgetsEach settings_stay files (name ∷ names) d =
    ForgetsName settings_stay files name d >> ForgetsEach settings_stay files names

-- What `forget` with these names comes to: all of them, or the reason for which the first that can't be forgotten isn't.
abbrev pub Forgets : Bool → Files → Environment → List Text → Result Forgetting ForgetReason → Type 0
Forgets settings_stay files e names = ForgetsEach settings_stay files names (nothing_forgotten e)

-- the names of the modules whose files are gone
abbrev pub gone : Files → List Entry → List Text
gone files entries = names_of (filter (λ x. can_go false files x.path) entries)
