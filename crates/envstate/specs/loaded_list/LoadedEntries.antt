-- Values of the code as entries of the list of loaded modules, and the errors of reading the list (own).
use Rattle.std.specs.Option.{option_map}
use Rattle.std.specs.Prelude.{◌≡◌, List, map, bytes_eq, string_bytes, Option, Some, None, Result, Ok, Err}
use Rattle.std.specs.declared.vec.Vec.{Vec}
use Rattle.std.specs.declared.string.String.{String}
use Rattle.std.specs.declared.alloc.Global.{Global}
use Rattle.envvars.specs.Texts.{Text, texts_in}
use Rattle.envstate.specs.declared.loaded_list.entry.Loaded.{Loaded}
use Rattle.envvars.specs.declared.fault.EnvFault.{EnvFault}
use Rattle.envvars.specs.declared.fault.EnvFault.TheVariants.{OutOfMemory, BadVariable, Protected, CounterFull}
use Rattle.envvars.specs.declared.fault.EnvFault.TheVariants.{Inconsistent, BadStack, BadValue}
use Rattle.envstate.specs.loaded_list.Loaded.{Entry}
use Rattle.std.specs.Borrow.{Bor}
use Rattle.indexmap.specs.IndexMap.{IndexMap, get_by}

-- the groups of texts of a vector of vectors
abbrev pub groups_in : Vec (Vec (String Global) Global) Global → List (List Text)
groups_in v = map texts_in v.items

-- an entry of the code as an entry of the definitions
abbrev pub entry_view : Loaded → Entry
entry_view x =
    record {
      name = string_bytes x.name;
      path = string_bytes x.path;
      conflicts = texts_in x.conflicts;
      prereqs = groups_in x.prereqs;
    }

-- The result is the outcome; the error is Inconsistent, exactly where there is no outcome, or want of memory.
abbrev pub GivesOrInconsistent : {A B : Type 0} → (A → B) → Result A EnvFault → Option B → Type 0
GivesOrInconsistent view (Ok a) outcome = outcome ≡ Some (view a)
GivesOrInconsistent view (Err OutOfMemory) outcome = Unit {0}
GivesOrInconsistent view (Err Inconsistent) outcome = outcome ≡ None
GivesOrInconsistent view (Err (BadVariable var)) outcome = ⊥
GivesOrInconsistent view (Err (Protected var)) outcome = ⊥
GivesOrInconsistent view (Err (CounterFull var)) outcome = ⊥
GivesOrInconsistent view (Err (BadStack var)) outcome = ⊥
GivesOrInconsistent view (Err (BadValue var)) outcome = ⊥

-- the result is this list
abbrev pub GivesList : Result (Vec Loaded Global) EnvFault → Option (List Entry) → Type 0
GivesList result outcome = GivesOrInconsistent (λ v. map entry_view v.items) result outcome

-- For the contracts of private functions: the element that a table has for a module.
abbrev pub element_in : {S : Type 0} → IndexMap (Bor Text) (Bor Text) S → Text → Option Text
element_in m name = option_map (λ x. x.now) (get_by (λ k. bytes_eq name k.now) m)
