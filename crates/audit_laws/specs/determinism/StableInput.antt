-- What the answers to a modulefile's questions depend on (own; getenv, module-info and is-loaded of modulefile(5)).
use Rattle.std.specs.Prelude.{◌≡◌, Bool, true, false, not, ◌&&◌, List, [], ◌∷◌, codes, bytes_eq, filter_map, Option}
use Rattle.std.specs.Prelude.{Some, None, Ok}
use Rattle.std.specs.List.{list_any, AllByRecursion}
use Rattle.envvars.specs.Texts.{Text, has}
use Rattle.envvars.specs.Names.{is_protected}
use Rattle.envvars.specs.Environment.{Environment, lookup}
use Rattle.tclrules.specs.Oracle.{Question, OfCommand, OfVariable}
use Rattle.modulefile.specs.Records.{Record, variable_of}
use Rattle.modulefile.specs.Effects.{Mode, load, unload, display, whatis}
use Rattle.modulefile.specs.Calls.{InfoField, mode, shell, shell_type, CallForm, getenv, is_loaded, info, info_test}
use Rattle.modulefile.specs.Calls.{call_of}
use Rattle.modulefile.specs.Answers.{FileContext, any_loaded}

-- the variables that shells change by themselves
unfoldable pub shell_variables : List Text
shell_variables =
    codes "PWD" ∷ codes "OLDPWD" ∷ codes "SHLVL" ∷ codes "_" ∷ codes "RANDOM" ∷ codes "SRANDOM" ∷ codes "SECONDS"
    ∷ codes "EPOCHSECONDS" ∷ codes "EPOCHREALTIME" ∷ codes "LINENO" ∷ codes "LINES" ∷ codes "COLUMNS" ∷ codes "PPID"
    ∷ codes "BASHPID" ∷ codes "PIPESTATUS" ∷ codes "OPTIND" ∷ codes "OPTARG" ∷ codes "REPLY" ∷ codes "HISTCMD" ∷ []

-- it is this variable
abbrev pub is_variable : Text → Option Text → Bool
is_variable v None = false
is_variable v (Some name) = bytes_eq v name

-- a variable is a stable input where it is none of the tool's, none that shells change by themselves, and none that the
-- records name
abbrev pub is_stable_variable : List Record → Text → Bool
is_stable_variable records v =
    not (is_protected v) && (not (has v shell_variables)
    && not (list_any (λ r. is_variable v (variable_of r)) records))

-- A question of these words depends on the variable that it reads, or on the context of the evaluation: the mode, the
-- half of a switch, the shell, whether one of some names means a loaded module. Whether any module is loaded, and the
-- name as it was typed, depend on nothing.
abbrev pub is_stable_call : List Record → CallForm → Bool
is_stable_call records (Ok (getenv var default)) = is_stable_variable records var
is_stable_call records (Ok (is_loaded [])) = false
is_stable_call records (Ok (is_loaded (name ∷ names))) = true
is_stable_call records (Ok (info field)) = true
is_stable_call records (Ok (info_test field word)) = true
is_stable_call records call = false

abbrev pub is_stable_input : List Record → Question → Bool
is_stable_input records (OfCommand words answer) = is_stable_call records (call_of words)
is_stable_input records (OfVariable name value) = is_stable_variable records name

-- the variable that a question reads
abbrev pub read_by_call : CallForm → Option Text
read_by_call (Ok (getenv var default)) = Some var
read_by_call call = None

abbrev pub read_by : Question → Option Text
read_by (OfCommand words answer) = read_by_call (call_of words)
read_by (OfVariable name value) = Some name

-- the variables that questions read
abbrev pub variables_read : List Question → List Text
variables_read asked = filter_map read_by asked

-- what a question asks of the context
abbrev pub field_of_call : CallForm → Option InfoField
field_of_call (Ok (info field)) = Some field
field_of_call (Ok (info_test field word)) = Some field
field_of_call call = None

abbrev pub field_of : Question → Option InfoField
field_of (OfCommand words answer) = field_of_call (call_of words)
field_of (OfVariable name value) = None

abbrev pub is_mode : Option InfoField → Bool
is_mode None = false
is_mode (Some mode) = true
is_mode (Some shell) = false
is_mode (Some shell_type) = false

abbrev pub is_shell : Option InfoField → Bool
is_shell None = false
is_shell (Some mode) = false
is_shell (Some shell) = true
is_shell (Some shell_type) = true

-- a question asks for the mode, or whether the file is half of a switch
abbrev pub asks_mode : List Question → Bool
asks_mode asked = list_any (λ q. is_mode (field_of q)) asked

-- a question asks for the shell
abbrev pub asks_shell : List Question → Bool
asks_shell asked = list_any (λ q. is_shell (field_of q)) asked

-- the names of which a question asks whether one means a loaded module
abbrev pub names_of_call : CallForm → Option (List Text)
names_of_call (Ok (is_loaded names)) = Some names
names_of_call call = None

abbrev pub names_of : Question → Option (List Text)
names_of (OfCommand words answer) = names_of_call (call_of words)
names_of (OfVariable name value) = None

-- the questions of what is loaded, by their names
abbrev pub loaded_questions : List Question → List (List Text)
loaded_questions asked = filter_map names_of asked

-- a question asks for the context of the evaluation
abbrev pub call_asks_context : CallForm → Bool
call_asks_context (Ok (is_loaded names)) = true
call_asks_context (Ok (info field)) = true
call_asks_context (Ok (info_test field word)) = true
call_asks_context call = false

abbrev pub asks_context : Question → Bool
asks_context (OfCommand words answer) = call_asks_context (call_of words)
asks_context (OfVariable name value) = false

-- The second context is equal to the first, as far as the questions ask: where they ask for the mode, of the same mode
-- and the same half of a switch, where they ask for the shell, of the same shell, and what they ask of what is loaded
-- has the same answers.
pub record IsSameContext (asked : List Question) (c d : FileContext) : Type 0 where
  pub mode : asks_mode asked ≡ true → d.mode ≡ c.mode
  pub in_switch : asks_mode asked ≡ true → d.in_switch ≡ c.in_switch
  pub shell : asks_shell asked ≡ true → d.shell ≡ c.shell
  pub loaded : AllByRecursion (λ names. any_loaded names d.loaded ≡ any_loaded names c.loaded) (loaded_questions asked)

-- the variables have the same values in both environments
abbrev pub AreEquivalent : List Text → Environment → Environment → Type 0
AreEquivalent names e f = (v : Text) → has v names ≡ true → lookup f v ≡ lookup e v

-- a mode that changes the environment
abbrev pub is_changing : Mode → Bool
is_changing load = true
is_changing unload = true
is_changing display = false
is_changing whatis = false
