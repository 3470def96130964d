-- The answer to a command: what is written where, in which order, and the status (module(1), DIAGNOSTICS).
use Rattle.std.specs.Prelude.{◌≡◌, ◌⊎◌, ℕ, Bool, false, List, [], ◌++◌, codes, map, string_bytes, vec_items}
use Rattle.std.specs.Prelude.{IfSome, Option, Some, None, Result, Ok, Err}
use Rattle.std.specs.Option.{option_map}
use Rattle.message.specs.Messages.{Text}
use Rattle.filetree.specs.Agreement.{Files, Listings}
use Rattle.module_collections.specs.files.Entries.{Entries}
use Rattle.module_words.specs.declared.function.fault.FunctionFault.{FunctionFault}
use Rattle.module_words.specs.function.Asked.{Asked, Command, asked_for, both, one}
use Rattle.module_words.specs.function.Faults.{FunctionReason, reason_of}
use Rattle.module_words.specs.protocol.Askers.{refusal_status}
use Rattle.module_commands.specs.Commands.{AnswersCommand}
use Rattle.module_subcommands.specs.Exchanges.{Exchanges}
use Rattle.module_commands.specs.Explanations.{Told, told_behind}
use Rattle.module_subcommands.specs.Refusals.{error_line}
use Rattle.module_subcommands.specs.Replies.{hints_of, own_line, status_of, writings_of}
use Rattle.module_subcommands.specs.Writings.{Written, writing_view}
use Rattle.module_commands.specs.declared.answering.Answer.{Answer}
use Rattle.module_subcommands.specs.declared.asking.Asking.{Asking}
use Rattle.module_subcommands.specs.declared.refusal.Refusal.{Refusal}
use Rattle.module_subcommands.specs.declared.refusal.Refusal.TheVariants as refusals
use Rattle.module_subcommands.specs.declared.reply.Reply.{Reply}

-- what is written, whether it matters that it is, the lines behind that, a path that a user is told of, and the status
pub record Answered : Type 0 where
  pub writes : List Written
  pub is_quiet : Bool
  pub lines : Text
  pub unreadable : Option Text
  pub status : ℕ

abbrev pub answer_view : Answer → Answered
answer_view a = record {
  writes = map writing_view (vec_items a.writes);
  is_quiet = a.is_quiet;
  lines = string_bytes a.lines;
  unreadable = option_map string_bytes a.unreadable;
  status = a.status;
}

-- The answer to a command that is accepted.
abbrev pub accepted : Asking → Reply → Answered
accepted asking reply = record {
  writes = writings_of asking.site.streams.error asking.asker reply;
  is_quiet = false;
  lines = hints_of reply;
  unreadable = None;
  status = status_of asking.shell asking.asker reply;
}

-- the line of a refusal, by whether standard error is a terminal
abbrev pub refusal_line : Bool → Refusal → Text
refusal_line is_terminal refusal = own_line is_terminal (error_line refusal)

-- The answer to a command that is refused: nothing goes to standard output.
abbrev pub refused : Asking → Refusal → Told → Answered
refused asking refusal more = record {
  writes = [];
  is_quiet = false;
  lines = refusal_line asking.site.streams.error refusal ++ more.lines;
  unreadable = more.unreadable;
  status = refusal_status asking.shell asking.asker;
}

-- The answer to words that mean nothing.
abbrev pub refused_words : Asking → FunctionFault → Answered
refused_words asking fault =
    refused asking (refusals.Function fault) (told_behind asking (refusals.Function fault))

-- an answer that is refused, with whatever explains it
abbrev pub IsRefused : Asking → Answered → Type 0
IsRefused asking a = (refusal : Refusal) × (more : Told) × (a ≡ refused asking refusal more)

-- What is written of an unload and a load.
abbrev pub WritesExchange : (Files → Listings → Type 0) → Asking → Command → Command → Answered → Type 0
WritesExchange agrees asking unloads loads a =
    ((reply : Reply) × Exchanges agrees asking unloads loads reply × (a ≡ accepted asking reply)) ⊎ IsRefused asking a

module _ (agrees readable : Files → Listings → Type 0) (has_failed : Text → Bool) (before now : ℕ)
    (files_before files_now : Entries → Type 0) (usage version : Text) (asking : Asking) where
  -- What is written of a command: what it answers, or why it is refused.
  abbrev pub WritesCommand : Command → Answered → Type 0
  WritesCommand command a =
      ((reply : Reply) × AnswersCommand agrees readable has_failed before now files_before files_now usage version asking command reply
      × (a ≡ accepted asking reply))
      ⊎ IsRefused asking a

  -- What is written of what words ask for.
  abbrev pub WritesAsked : Result Asked FunctionReason → Answered → Type 0
  WritesAsked (Ok (one command)) a = WritesCommand command a
  WritesAsked (Ok (both unloads loads)) a = WritesExchange agrees asking unloads loads a
  WritesAsked (Err reason) a =
      (fault : FunctionFault) × IfSome (reason_of fault) (λ other. other ≡ reason) × (a ≡ refused_words asking fault)

  -- What is written of a function's words.
  abbrev pub WritesWords : List Text → Answered → Type 0
  WritesWords words a = WritesAsked (asked_for words) a
