-- The command that forgets modules, and when it is named behind a refusal (module(1), forget).
use Rattle.std.specs.Prelude.{◌≡◌, ◌⊎◌, IfSome, Bool, true, false, List, [], ◌++◌, Ok, Err, string_bytes}
use Rattle.message.specs.Messages.{Text}
use Rattle.envvars.specs.Changes.{new_values_in}
use Rattle.envvars.specs.Texts.{texts_in}
use Rattle.filetree.specs.Agreement.{Files, Listings}
use Rattle.modules.specs.declared.refusal.Refusal.TheVariants as requests
use Rattle.modules.specs.declared.refusal.Refusal as requested
use Rattle.module_auto.specs.declared.fault.RequestFault.TheVariants as faults
use Rattle.module_restore.specs.forgetting.Answers.{IsAnswer, IsForgetFault, IsWayOut, NoneIsGone}
use Rattle.module_restore.specs.forgetting.Said.{forgotten_line, way_out_line}
use Rattle.module_restore.specs.declared.forgetting.names.Forgotten.{Forgotten}
use Rattle.module_restore.specs.declared.fault.KeepFault.TheVariants as keeps
use Rattle.module_words.specs.function.Asked.{Command}
use Rattle.module_words.specs.function.Faults.{reason_of}
use Rattle.module_words.specs.function.Forgotten.{Named, forgotten_names}
use Rattle.module_subcommands.specs.Afters.{after_one}
use Rattle.module_commands.specs.Explanations.{Told}
use Rattle.module_subcommands.specs.Moves.{Answered, changed_view}
use Rattle.module_subcommands.specs.Replies.{own_line}
use Rattle.module_subcommands.specs.declared.asking.Asking.{Asking}
use Rattle.module_subcommands.specs.declared.refusal.Refusal.{Refusal}
use Rattle.module_subcommands.specs.declared.refusal.Refusal.TheVariants as refusals
use Rattle.module_subcommands.specs.declared.reply.Reply.{Reply}
use Rattle.module_subcommands.specs.declared.reply.Reply.TheVariants as replies

-- what is answered: the modules are named
abbrev pub forgotten_answer : Asking → Command → Forgotten → Answered
forgotten_answer asking command f = record {
  said = forgotten_line (texts_in f.names);
  messages = [];
  text = string_bytes f.text;
  after = after_one asking (new_values_in f.changes) command;
  hints = [];
}

abbrev pub IsForgottenReply : Asking → Command → Forgotten → Reply → Type 0
IsForgottenReply asking command f (replies.Changed c) = changed_view c ≡ forgotten_answer asking command f
IsForgottenReply asking command f other = ⊥

-- What the command answers.
abbrev pub ForgetsModules : (Files → Listings → Type 0) → Asking → Command → Reply → Type 0
ForgetsModules agrees asking command reply =
    (named : Named) × (forgotten_names command.1 ≡ Ok named)
    × ((f : Forgotten) × IsAnswer agrees asking.shell named.0 asking.env named.1 f
    × IsForgottenReply asking command f reply)

-- Why it is refused: its words are no names, or by its names, or memory is wanting.
abbrev pub RefusesForget : (Files → Listings → Type 0) → Type 0 → Asking → Command → Refusal → Type 0
RefusesForget agrees failed asking command (refusals.Function fault) =
    IfSome (reason_of fault) (λ reason. forgotten_names command.1 ≡ Err reason)
RefusesForget agrees failed asking command (refusals.Forget fault) =
    (named : Named) × (forgotten_names command.1 ≡ Ok named)
    × IsForgetFault agrees failed asking.shell named.0 asking.env named.1 fault
RefusesForget agrees failed asking command refusals.OutOfMemory = Unit {0}
RefusesForget agrees failed asking command other = ⊥

-- the refusal is that the file of a loaded module is gone
abbrev pub is_of_gone : requested.Refusal → Bool
is_of_gone (requests.FileGone path) = true
is_of_gone other = false

abbrev pub is_by_gone : Refusal → Bool
is_by_gone (refusals.Requested (faults.Refused refusal)) = is_of_gone refusal
is_by_gone (refusals.Restore (faults.Refused refusal)) = is_of_gone refusal
is_by_gone (refusals.Keep (keeps.Refused refusal)) = is_of_gone refusal
is_by_gone other = false

-- Behind such a refusal a line names the modules whose files are gone, with which `forget` would be accepted, if there are
-- some. There is no line behind others.
abbrev pub IsWayOutOf : (Files → Listings → Type 0) → Asking → Bool → Text → Type 0
IsWayOutOf agrees asking false lines = lines ≡ []
IsWayOutOf agrees asking true lines =
    (NoneIsGone agrees asking.env × (lines ≡ []))
    ⊎ ((names : List Text) × IsWayOut agrees asking.shell asking.env names
    × (lines ≡ own_line asking.site.streams.error (way_out_line names)))

-- lines behind what explains a refusal
abbrev pub with_lines : Told → Text → Told
with_lines explained lines = record { lines = explained.lines ++ lines; unreadable = explained.unreadable }

-- What explains a refusal, with the way out behind it, or as it is.
abbrev pub IsWithWayOut : (Files → Listings → Type 0) → Asking → Refusal → Told → Told → Type 0
IsWithWayOut agrees asking refusal explained more =
    (more ≡ explained)
    ⊎ ((lines : Text) × IsWayOutOf agrees asking (is_by_gone refusal) lines × (more ≡ with_lines explained lines))
