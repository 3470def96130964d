-- The result of a default file (modulefile(5), module-version), by its evaluation as Tcl (Tcl(n)).
use Rattle.std.specs.Prelude.{◌≡◌, false, List, [], ◌∷◌, codes, bytes_eq, if◌then◌else◌, Option, Some, None}
use Rattle.std.specs.Prelude.{string_bytes, String}
use Rattle.std.specs.declared.alloc.Global.{Global}
use Rattle.modulename.specs.ModuleName.{Text}
use Rattle.tclrules.specs.Oracle.{Oracle, Question, OfVariable, Trace, OracleAnswer, Nothing, NewRecord, Done, Unknown}
use Rattle.tclrules.specs.Oracle.{LeftOut, Refused}
use Rattle.tclrules.specs.Derivation.{EvaluationOutcome, Ended, Halted, World}
use Rattle.tclrules.specs.Variables.{lookup}
use Rattle.tclrules.specs.Plans.{Completion, Normal, Raised, Returned, Broken, Continued}
use Rattle.tclrules.specs.Names.{is_among}
use Rattle.tclrules.specs.Meaning.{Setting, EvaluatesTo}
use Rattle.tclrules.specs.declared.limits.Limits.{Limits}
use Rattle.modulefile.specs.Calls.{unsupported_commands, command_names}
use Rattle.search.specs.DefaultFiles.{DefaultFileResult}

-- `module-version NAME WORD...` has a name and at least one word, and is recorded
abbrev pub version_answer : List Text → OracleAnswer
version_answer (command ∷ name ∷ word ∷ words) = Done [] (NewRecord (command ∷ name ∷ word ∷ words)) false
version_answer words = Refused 56 None false

-- These are refused: to pass over them could load another module than the one that is meant.
unfoldable pub renaming_commands : List Text
renaming_commands =
    codes "module-alias" ∷ codes "module-virtual" ∷ codes "module-hide" ∷ codes "module-forbid" ∷ codes "module-tag" ∷
    []

-- Besides `module-version` a default file has no command of modulefiles. What it writes is dropped.
abbrev pub named_answer : Text → List Text → OracleAnswer
named_answer name words =
    if bytes_eq name (codes "module-version") then version_answer words
    else if bytes_eq name (codes "puts") then Done [] Nothing false
    else if is_among renaming_commands name then Refused 45 None false
    else if is_among unsupported_commands name then LeftOut name false
    else Unknown false

-- the answer to a command, by its words
abbrev pub answer_to : List Text → OracleAnswer
answer_to [] = Unknown false
answer_to (name ∷ words) = named_answer name (name ∷ words)

-- No answer depends on the commands before, and each variable of the environment is unset.
abbrev pub default_oracle : Oracle
default_oracle =
    record { reserved = command_names; command = λ records words. answer_to words; variable = λ records name. None }

-- a variable of the environment that was read, which the file finds unset
abbrev pub unset_read : String Global → Question
unset_read name = OfVariable (string_bytes name) None

-- the evaluation of the text at this path, which the file has in its global variable ModulesCurrentModulefile
abbrev pub default_setting : Limits → Text → Text → Setting
default_setting limits path text =
    record {
      limits = limits;
      script = text;
      globals = (codes "ModulesCurrentModulefile", path) ∷ [];
      oracle = default_oracle;
      trace = record { records = []; messages = []; asked = []; refused = None };
    }

-- At its end its result is its commands and its global variable ModulesVersion. With any fault it has none.
abbrev pub result_of : EvaluationOutcome Completion → Trace → Option DefaultFileResult
result_of (Ended (Normal result s)) trace =
    Some (record { commands = trace.records; version = lookup s.globals (codes "ModulesVersion") })
result_of (Ended (Raised message s)) trace = None
result_of (Ended (Returned result s)) trace = None
result_of (Ended (Broken s)) trace = None
result_of (Ended (Continued s)) trace = None
result_of (Halted halt) trace = None

-- The text of a default file at a path has this result under these limits.
abbrev pub HasResult : Limits → Text → Text → Option DefaultFileResult → Type 0
HasResult limits path text file_result =
    (o : EvaluationOutcome Completion) × (w : World) × EvaluatesTo (default_setting limits path text) o w ×
    (file_result ≡ result_of o w.trace)
