-- What the host of a modulefile answers to its commands (modulefile(5)), as an oracle over the records so far.
use Rattle.std.specs.Prelude.{ℕ, Bool, true, false, ◌||◌, ◌&&◌, List, [], ◌∷◌, ◌++◌, codes, bytes_eq, if◌then◌else◌}
use Rattle.std.specs.Prelude.{unwrap_or, Option, Some, None, Result, Ok, Err}
use Rattle.std.specs.List.{list_any}
use Rattle.message.specs.Refusals.{number_of}
use Rattle.message.specs.declared.refusals.RefusalKind.TheVariants as kinds
use Rattle.modulename.specs.ModuleName.{means}
use Rattle.envvars.specs.Texts.{Text}
use Rattle.envvars.specs.Names.{is_variable_name}
use Rattle.envvars.specs.Environment.{Environment, lookup}
use Rattle.envvars.specs.Reasons.{EnvReason, bad_variable, protected, counter_full, inconsistent, bad_stack, bad_value}
use Rattle.tclrules.specs.Oracle as oracle
use Rattle.tclrules.specs.Oracle.{Oracle, OracleAnswer, HostRefusal, Addition, Nothing, NewRecord, Message, Done}
use Rattle.tclrules.specs.Oracle.{Unknown, LeftOut, Refused}
use Rattle.modulefile.specs.Records.{Record}
use Rattle.modulefile.specs.Judgments.{RecordReason, bad_edit, bad_module_name}
use Rattle.modulefile.specs.Effects.{Mode, load, unload, display, whatis, effect, effects}
use Rattle.shelltext.specs.declared.shell.Shell.{Shell}
use Rattle.modulefile.specs.Results.{◌>>=◌}
use Rattle.shelltext.specs.Shells.{shell_name, shell_family_name}
use Rattle.modulefile.specs.Calls.{InfoField, mode, shell, shell_type, Call, adds_record, adds_message, getenv}
use Rattle.modulefile.specs.Calls.{is_loaded, own_name, typed_name, info, info_test, CallReason, unknown, unsupported}
use Rattle.modulefile.specs.Calls.{bad_arguments, bad_record, CallForm, command_names, call_of}

-- What a file is evaluated in: the mode, and whether it is half of a switch; the module's full name and the path of its
-- file; the shell; the name as it was typed; the names of the modules that are loaded before the file, and the
-- environment before it.
pub record FileContext : Type 0 where
  pub mode : Mode
  pub in_switch : Bool
  pub name : Text
  pub path : Text
  pub shell : Shell
  pub typed : Text
  pub loaded : List Text
  pub before : Environment

-- the word of a mode, as `module-info mode` has it
abbrev pub mode_word : Mode → Text
mode_word load = codes "load"
mode_word unload = codes "unload"
mode_word display = codes "display"
mode_word whatis = codes "whatis"

-- `remove` is a second word for the mode of unloading
abbrev pub is_second_word : Mode → Text → Bool
is_second_word load word = false
is_second_word unload word = bytes_eq word (codes "remove")
is_second_word display word = false
is_second_word whatis word = false

-- both halves of a switch are of the mode `switch`, too
abbrev pub is_mode : FileContext → Text → Bool
is_mode c word =
    bytes_eq word (mode_word c.mode) || is_second_word c.mode word || (c.in_switch && bytes_eq word (codes "switch"))

-- a truth value, as questions answer it
abbrev pub truth : Bool → Text
truth b = if b then codes "1" else codes "0"

-- what `module-info` answers without a further word, and whether it is the further word
abbrev pub field_text : FileContext → InfoField → Text
field_text c mode = mode_word c.mode
field_text c shell = shell_name c.shell
field_text c shell_type = shell_family_name c.shell

abbrev pub field_test : FileContext → InfoField → Text → Bool
field_test c mode word = is_mode c word
field_test c shell word = bytes_eq word (shell_name c.shell)
field_test c shell_type word = bytes_eq word (shell_family_name c.shell)

-- Whether one of the names means a loaded module; without a name, whether any module is loaded.
abbrev pub any_loaded : List Text → List Text → Bool
any_loaded [] loaded = list_any (λ m. true) loaded
any_loaded (name ∷ names) loaded = list_any (λ n. list_any (means n) loaded) (name ∷ names)

-- In the mode `display` the variable itself stands for its value.
abbrev pub value_shown : Mode → Environment → Text → Text → Text
value_shown display e var default = codes "$" ++ var
value_shown load e var default = unwrap_or (lookup e var) default
value_shown unload e var default = unwrap_or (lookup e var) default
value_shown whatis e var default = unwrap_or (lookup e var) default

-- the numbers of reasons
abbrev pub edit_number : EnvReason → ℕ
edit_number (bad_variable name) = number_of kinds.BadVariable
edit_number (protected name) = number_of kinds.Protected
edit_number (counter_full name) = number_of kinds.CounterFull
edit_number inconsistent = number_of kinds.Inconsistent
edit_number (bad_stack name) = number_of kinds.BadStack
edit_number (bad_value name) = number_of kinds.BadValue

abbrev pub record_number : RecordReason → ℕ
record_number (bad_edit reason) = edit_number reason
record_number (bad_module_name name) = number_of kinds.BadName

-- the names that reasons are for
abbrev pub edit_name : EnvReason → Option Text
edit_name (bad_variable name) = Some name
edit_name (protected name) = Some name
edit_name (counter_full name) = Some name
edit_name inconsistent = None
edit_name (bad_stack name) = Some name
edit_name (bad_value name) = Some name

abbrev pub record_name : RecordReason → Option Text
record_name (bad_edit reason) = edit_name reason
record_name (bad_module_name name) = Some name

-- the refusal of a command that leaves a record, for this reason
abbrev pub refusal_of : RecordReason → HostRefusal
refusal_of reason = record { number = record_number reason; name = record_name reason }

-- a command that isn't done
abbrev pub not_done : CallReason → OracleAnswer
not_done unknown = Unknown false
not_done (unsupported name) = LeftOut name false
not_done bad_arguments = Refused (number_of kinds.BadArguments) None false
not_done (bad_record reason) = Refused (record_number reason) (record_name reason) false

-- A command that leaves a record answers the empty text, and its words are recorded, where the record has its effect.
abbrev pub record_answer : List Text → Result Environment RecordReason → OracleAnswer
record_answer words (Ok e) = Done [] (NewRecord words) false
record_answer words (Err reason) = not_done (bad_record reason)

-- the answer to a question
abbrev pub question_answer : Text → OracleAnswer
question_answer text = Done text Nothing true

-- Any well-named variable may be read.
abbrev pub variable_answer : Text → Text → OracleAnswer
variable_answer var value = if is_variable_name var then question_answer value else not_done
    (bad_record (bad_edit (bad_variable var)))

-- Questions are those about the environment, the mode, the shell, the typed name or the loaded modules, and no others.
abbrev pub command_answer : FileContext → Environment → List Text → CallForm → OracleAnswer
command_answer c e words (Err reason) = not_done reason
command_answer c e words (Ok (adds_record r)) = record_answer words (effect c.mode c.name r e)
command_answer c e words (Ok (adds_message message)) = Done [] (Message message) false
command_answer c e words (Ok (getenv var default)) = variable_answer var (value_shown c.mode e var default)
command_answer c e words (Ok (is_loaded names)) = question_answer (truth (any_loaded names c.loaded))
command_answer c e words (Ok own_name) = Done c.name Nothing false
command_answer c e words (Ok typed_name) = question_answer c.typed
command_answer c e words (Ok (info field)) = question_answer (field_text c field)
command_answer c e words (Ok (info_test field word)) = question_answer (truth (field_test c field word))

-- the record of a command
abbrev pub record_of : Call → Result Record CallReason
record_of (adds_record r) = Ok r
record_of (adds_message message) = Err unknown
record_of (getenv var default) = Err unknown
record_of (is_loaded names) = Err unknown
record_of own_name = Err unknown
record_of typed_name = Err unknown
record_of (info field) = Err unknown
record_of (info_test field word) = Err unknown

-- the records of accepted commands, which the evaluation has by their words
abbrev pub records_in : List oracle.CommandWords → Result (List Record) CallReason
records_in [] = Ok []
records_in (words ∷ more) = call_of words >>= record_of >>= (λ r. records_in more >>= (λ rs. Ok (r ∷ rs)))

-- the effects of records, where the reasons are those of commands
abbrev pub record_outcome : Result Environment RecordReason → Result Environment CallReason
record_outcome (Ok e) = Ok e
record_outcome (Err reason) = Err (bad_record reason)

-- what the records so far make of the environment before the file, in the mode at hand
abbrev pub effects_so_far : FileContext → List oracle.CommandWords → Result Environment CallReason
effects_so_far c records = records_in records >>= (λ rs. record_outcome (effects c.mode c.name rs c.before))

-- the environment of an outcome, or else the one before the file
abbrev pub or_before : Environment → Result Environment CallReason → Environment
or_before before (Ok e) = e
or_before before (Err reason) = before

-- The environment after these commands. The records of accepted commands always have their effects, so this is never
-- the one before the file in their stead.
abbrev pub environment_after : FileContext → List oracle.CommandWords → Environment
environment_after c records = or_before c.before (effects_so_far c records)

-- the oracle that a modulefile is evaluated over
abbrev pub oracle_of : FileContext → Oracle
oracle_of c =
    record {
      reserved = command_names;
      command = λ records words. command_answer c (environment_after c records) words (call_of words);
      variable = λ records name. lookup (environment_after c records) name;
    }

-- what a command adds where it is done, and whether it is a question
abbrev pub call_adds : List Text → CallForm → Addition
call_adds words (Err reason) = Nothing
call_adds words (Ok (adds_record r)) = NewRecord words
call_adds words (Ok (adds_message message)) = Message message
call_adds words (Ok (getenv var default)) = Nothing
call_adds words (Ok (is_loaded names)) = Nothing
call_adds words (Ok own_name) = Nothing
call_adds words (Ok typed_name) = Nothing
call_adds words (Ok (info field)) = Nothing
call_adds words (Ok (info_test field word)) = Nothing

abbrev pub call_asks : CallForm → Bool
call_asks (Err reason) = false
call_asks (Ok (adds_record r)) = false
call_asks (Ok (adds_message message)) = false
call_asks (Ok (getenv var default)) = true
call_asks (Ok (is_loaded names)) = true
call_asks (Ok own_name) = false
call_asks (Ok typed_name) = true
call_asks (Ok (info field)) = true
call_asks (Ok (info_test field word)) = true
