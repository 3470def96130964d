-- The words in which rows state the outcomes of worked files, in every environment (own).
use Rattle.std.specs.Prelude.{ℕ, false, List, [], ◌∷◌, ◌++◌, codes, Some, None, Ok, Err}
use Rattle.envvars.specs.Texts.{Text}
use Rattle.envvars.specs.Environment.{Environment, with_value}
use Rattle.tclrules.specs.Oracle.{Question, OfCommand}
use Rattle.tclrules.specs.Places.{placed}
use Rattle.tclrules.specs.Derivation.{Halt}
use Rattle.tclrules.specs.declared.limits.Limits.{Limits}
use Rattle.modulefile.specs.Records.{Record}
use Rattle.modulefile.specs.Effects.{Mode, load, unload, display}
use Rattle.shelltext.specs.declared.shell.Shell.TheVariants.{Sh}
use Rattle.modulefile.specs.Answers.{FileContext, question_answer}
use Rattle.modulefile.specs.Files.{FileStop, halted, refused, failed, RunsFile}

-- the limits of every command
abbrev pub standard : Limits
standard = record { commands = 100000; depth = 200; value_bytes = 1048576 }

-- the module m/1, typed as m for sh, beside gcc/9
abbrev pub context : Mode → Environment → FileContext
context mode e =
    record {
      mode = mode;
      in_switch = false;
      name = codes "m/1";
      path = codes "/m/m/1";
      shell = Sh;
      typed = codes "m";
      loaded = codes "gcc/9" ∷ [];
      before = e;
    }

-- the contexts of rows, by the environment before the file
abbrev pub ContextAt : Type 0
ContextAt = Environment → FileContext

abbrev pub loading : ContextAt
loading = context load

abbrev pub unloading : ContextAt
unloading = context unload

abbrev pub showing : ContextAt
showing = context display

-- the file of these lines, after the one that marks a modulefile
abbrev pub file : Text → Text
file lines = codes "#%Module\n" ++ lines

-- what the file makes of the environment: nothing, a variable set, or one unset
abbrev pub unchanged : Environment → Environment
unchanged e = e

abbrev pub sets : Text → Text → Environment → Environment
sets var value e = with_value e var (Some value)

abbrev pub unsets : Text → Environment → Environment
unsets var e = with_value e var None

-- the file leaves these records, and makes this of the environment, and nothing is asked
abbrev pub LeavesRecords : ContextAt → Text → List Record → (Environment → Environment) → Type 0
LeavesRecords context_at lines records makes =
    (e : Environment)
    → RunsFile standard (context_at e) (file lines)
    (Ok (record { records = records; messages = []; asked = []; env = makes e }))

-- a command that is a question, and its answer
abbrev pub asked_for : List Text → Text → Question
asked_for words answer = OfCommand words (question_answer answer)

-- the same, where this is asked
abbrev pub LeavesAsking : ContextAt → Text → List Question → List Record → (Environment → Environment) → Type 0
LeavesAsking context_at lines asked records makes =
    (e : Environment)
    → RunsFile standard (context_at e) (file lines)
    (Ok (record { records = records; messages = []; asked = asked; env = makes e }))

-- it leaves messages, and nothing else
abbrev pub LeavesMessages : ContextAt → Text → List Text → Type 0
LeavesMessages context_at lines messages =
    (e : Environment)
    → RunsFile standard (context_at e) (file lines)
    (Ok (record { records = []; messages = messages; asked = []; env = e }))

-- its evaluation stops so, at a command of its own with the first offset, and at the innermost with the second
abbrev pub StopsAt : ContextAt → Text → FileStop → ℕ → ℕ → Type 0
StopsAt context_at lines stop outermost innermost =
    (e : Environment)
    → RunsFile standard (context_at e) (file lines) (Err (record {
      stop = stop;
      name = (context_at e).name;
      path = (context_at e).path;
      place = Some (placed (file lines) outermost innermost);
      messages = [];
    }))

-- it is halted
abbrev pub IsHalted : ContextAt → Text → Halt → ℕ → ℕ → Type 0
IsHalted context_at lines halt = StopsAt context_at lines (halted halt)

-- one of its commands is refused, by this number and for this name
abbrev pub IsRefusedFor : ContextAt → Text → ℕ → Text → ℕ → ℕ → Type 0
IsRefusedFor context_at lines number name =
    StopsAt context_at lines (refused (record { number = number; name = Some name }))

-- it ends with an error that nothing caught, on this line
abbrev pub FailsOnLine : ContextAt → Text → Text → ℕ → ℕ → ℕ → Type 0
FailsOnLine context_at lines message line = StopsAt context_at lines (failed message line)
