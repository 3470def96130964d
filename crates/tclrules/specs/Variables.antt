-- Variables, and the location that a name of one denotes (Tcl(n), rule 8; global(n)). Own: the only array is env, which
-- stands for the environment, and no namespaces are supported.
use Rattle.std.specs.Prelude.{ℕ, List, [], ◌∷◌, ◌++◌, Bool, true, false, not, ◌||◌, ◌&&◌, ◌==◌, ◌-◌, length, take}
use Rattle.std.specs.Prelude.{reverse, if◌then◌else◌, Option, Some, None, Ok, Err, codes, bytes_eq}
use Rattle.std.specs.List.{list_any}
use Rattle.tcltext.specs.chars.Runs.{Text, take_while, drop_while, begins}
use Rattle.tclvalue.specs.operators.Faults.{Answer, ◌>>=◌, unsupported}
use Rattle.tclvalue.specs.Indexes.{after_prefix}

-- variables with their values, in the order in which they were first set
abbrev pub Variables : Type 0
Variables = List (Text × Text)

-- the value of the first entry with this name
abbrev pub lookup : {A : Type 0} → List (Text × A) → Text → Option A
lookup [] name = None
lookup (v ∷ vs) name = if bytes_eq name v.0 then Some v.1 else lookup vs name

-- gives the name this value: in its place, or at the end where it is new
abbrev pub store : {A : Type 0} → List (Text × A) → Text → A → List (Text × A)
store [] name value = (name, value) ∷ []
store (v ∷ vs) name value = if bytes_eq name v.0 then (v.0, value) ∷ vs else v ∷ store vs name value

-- the variables without the one of this name
abbrev pub without : Variables → Text → Variables
without [] name = []
without (v ∷ vs) name = if bytes_eq name v.0 then vs else v ∷ without vs name

-- stores variables one after another: of a name that comes again the last value counts
abbrev pub store_all : Variables → Variables → Variables
store_all vs [] = vs
store_all vs (w ∷ ws) = store_all (store vs w.0 w.1) ws

-- the variables of a procedure that runs, and the names of the global ones that it sees
pub record Frame : Type 0 where
  pub own : Variables
  pub shared : List Text

-- a parameter, with its default if it has one
abbrev pub Parameter : Type 0
Parameter = Text × Option Text

-- a procedure: its parameters, and the text of its body
pub record Procedure : Type 0 where
  pub parameters : List Parameter
  pub body : Text

-- the state of an evaluation: the names that the host reserves, the global variables, the frame of the procedure that
-- runs, if one does, and the procedures by name
pub record State : Type 0 where
  pub reserved : List Text
  pub globals : Variables
  pub frame : Option Frame
  pub procedures : List (Text × Procedure)

-- the state before a script with these reserved names and global variables
abbrev pub initial_state : List Text → Variables → State
initial_state reserved globals =
    record { reserved = reserved; globals = store_all [] globals; frame = None; procedures = [] }

-- the state with this frame in place of its own
abbrev pub in_frame : State → Option Frame → State
in_frame s f = record s { frame = f }

-- Names

-- the parts of a name: n(i) is n with the index i, where the parenthesis is the first one and the name ends with the
-- closing one
abbrev pub with_index : Text → Text → Text × Option Text
with_index n [] = (n, None)
with_index n (b ∷ bs) = (n, Some (take (length bs - 1) bs))

abbrev pub name_and_index : Text → Text × Option Text
name_and_index name = if begins 41 (reverse name) then with_index (take_while (λ b. not (b == 40)) name)
    (drop_while (λ b. not (b == 40)) name)
    else (name, None)

-- two colons follow one another somewhere, which part namespaces
abbrev pub has_colons : Text → Bool
has_colons [] = false
has_colons (b ∷ bs) = (b == 58 && begins 58 bs) || has_colons bs

-- the location that a name denotes: a scalar variable, or an element of env. The flag is true of a global one
pub data Location : Type 0 where
  Scalar : Bool → Text → Location
  Element : Bool → Text → Location

-- a name denotes a global variable: outside of procedures each does, in a procedure those that global named
abbrev pub sees : Option Frame → Text → Bool
sees None name = true
sees (Some f) name = list_any (bytes_eq name) f.shared

-- the array of the environment
abbrev pub env : Text
env = codes "env"

-- only env is an array
abbrev pub indexed : Bool → Text → Option Text → Answer Location
indexed global name None = Ok (Scalar global name)
indexed global name (Some i) = if bytes_eq name env then Ok (Element global i) else Err (unsupported (codes "array"))

-- a name has no other colons than those that it begins with
abbrev pub unqualified : Text → Answer Location → Answer Location
unqualified name p = if has_colons name then Err (unsupported (codes "namespace")) else p

-- the location of a name, by its rest after leading colons, where it has such
abbrev pub qualified_location : Option Frame → Text → Option Text → Option Text → Answer Location
qualified_location f name index (Some rest) = unqualified rest (indexed true rest index)
qualified_location f name index None = unqualified name (indexed (sees f name) name index)

-- the location of a name with an index, or without one
abbrev pub location_of : State → Text → Option Text → Answer Location
location_of s name index = qualified_location s.frame name index (after_prefix (codes "::") name)

-- the location of a name as it is spelled
abbrev pub location_named : State → Text → Answer Location
location_named s name = location_of s (name_and_index name).0 (name_and_index name).1

-- the scalar variable at a location; neither env nor an element of it may be written or unset
abbrev pub writable_scalar : Location → Answer (Bool × Text)
writable_scalar (Scalar global name) = if bytes_eq name env then Err (unsupported env) else Ok (global, name)
writable_scalar (Element global i) = Err (unsupported env)

abbrev pub writable : State → Text → Answer (Bool × Text)
writable s name = location_named s name >>= writable_scalar

-- Reading and changing

abbrev pub own_of : Option Frame → Variables
own_of None = []
own_of (Some f) = f.own

abbrev pub with_own : Option Frame → Variables → Option Frame
with_own None vs = None
with_own (Some f) vs = Some (record f { own = vs })

-- the global variables, or those of the procedure
abbrev pub variables : State → Bool → Variables
variables s true = s.globals
variables s false = own_of s.frame

abbrev pub with_variables : State → Bool → Variables → State
with_variables s true vs = record s { globals = vs }
with_variables s false vs = record s { frame = with_own s.frame vs }

abbrev pub value_at : State → Bool × Text → Option Text
value_at s p = lookup (variables s p.0) p.1

abbrev pub with_value : State → Bool × Text → Text → State
with_value s p value = with_variables s p.0 (store (variables s p.0) p.1 value)

abbrev pub without_value : State → Bool × Text → State
without_value s p = with_variables s p.0 (without (variables s p.0) p.1)

-- names with one more at the end, unless it is among them
abbrev pub with_name : List Text → Text → List Text
with_name names name = if list_any (bytes_eq name) names then names else names ++ name ∷ []

-- global: the name denotes the global variable from now on
abbrev pub shared_in : Option Frame → Text → Option Frame
shared_in None name = None
shared_in (Some f) name = Some (record { own = without f.own name; shared = with_name f.shared name })

-- the name of the variable that global makes a procedure see: no element of env
abbrev pub sharable : Location → Answer Text
sharable (Scalar global name) = Ok name
sharable (Element global i) = Err (unsupported env)
