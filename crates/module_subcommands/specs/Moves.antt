-- The commands that load, unload, switch and purge (module(1)).
use Rattle.std.specs.Prelude.{◌≡◌, ◌⊎◌, ◌&&◌, IfSome, Bool, true, false, List, [], ◌∷◌, Option, Some, None, Ok, Err}
use Rattle.std.specs.Prelude.{if◌then◌else◌, string_bytes}
use Rattle.std.specs.List.{flat_map}
use Rattle.message.specs.Messages.{Text}
use Rattle.envvars.specs.Changes.{new_values_in}
use Rattle.envvars.specs.Environment.{Environment, lookup}
use Rattle.envvars.specs.Texts.{texts_in}
use Rattle.envstate.specs.loaded_list.Loaded.{Entry, loaded_in}
use Rattle.filetree.specs.Agreement.{Files, Listings}
use Rattle.shelltext.specs.declared.shell.Shell.{Shell}
use Rattle.module_reports.specs.listings.Hints.{hint}
use Rattle.module_words.specs.declared.subcommands.table.Subcommand.{Subcommand}
use Rattle.module_words.specs.declared.subcommands.table.Subcommand.TheVariants.{Load, Unload}
use Rattle.module_words.specs.function.Asked.{Command}
use Rattle.module_words.specs.function.Faults.{reason_of}
use Rattle.module_words.specs.function.Moved.{Moved, moved_names}
use Rattle.module_words.specs.subcommands.Subcommands.{name_of}
use Rattle.module_subcommands.specs.Afters.{Started, after_one, after_view}
use Rattle.module_subcommands.specs.Automated.{LoadStep, LoadsAutomatically, UnloadStep, UnloadsAutomatically}
use Rattle.module_subcommands.specs.Changes.{IsAccepted, IsRefusedChange, RequestedStep}
use Rattle.module_subcommands.specs.declared.asking.Asking.{Asking}
use Rattle.module_subcommands.specs.declared.changing.Accepted.{Accepted}
use Rattle.module_subcommands.specs.declared.changing.Automated.{Automated}
use Rattle.module_subcommands.specs.declared.refusal.Refusal.{Refusal}
use Rattle.module_subcommands.specs.declared.refusal.Refusal.TheVariants as refusals
use Rattle.module_subcommands.specs.declared.reply.ChangedModules.{ChangedModules}
use Rattle.module_subcommands.specs.declared.reply.Reply.{Reply}
use Rattle.module_subcommands.specs.declared.reply.Reply.TheVariants as replies

-- what is said of names that were to be unloaded, by the loaded modules, if these fit together
abbrev pub hints_among : Option (List Entry) → List Text → Text
hints_among None names = []
hints_among (Some entries) names = flat_map (hint entries) names

abbrev pub hints_on : Environment → List Text → Text
hints_on e names = hints_among (loaded_in e) names

-- behind an unload that changes nothing it is said
abbrev pub is_unload : Subcommand → Bool
is_unload Unload = true
is_unload other = false

abbrev pub hints_unless : Text → Text → Text
hints_unless [] hints = hints
hints_unless (b ∷ text) hints = []

abbrev pub hints_behind : Environment → Subcommand → List Text → Text → Text
hints_behind e subcommand names text = if is_unload subcommand then hints_unless text (hints_on e names) else []

-- what is answered: what is said, the messages, the text, what starts the site's program, and the hints
pub record Answered : Type 0 where
  pub said : Text
  pub messages : List Text
  pub text : Text
  pub after : Started
  pub hints : Text

abbrev pub changed_view : ChangedModules → Answered
changed_view c = record {
  said = string_bytes c.said;
  messages = texts_in c.messages;
  text = string_bytes c.text;
  after = after_view c.after;
  hints = string_bytes c.hints;
}

-- of what is accepted
abbrev pub answer_with : Accepted → Started → Text → Answered
answer_with a after hints = record {
  said = string_bytes a.said;
  messages = texts_in a.messages;
  text = string_bytes a.text;
  after = after;
  hints = hints;
}

-- the answer to a command that did this with these names
abbrev pub IsReplyTo : Asking → Command → List Text → Accepted → Reply → Type 0
IsReplyTo asking command names a (replies.Changed c) =
    changed_view c ≡ answer_with a (after_one asking (new_values_in a.changes) command)
    (hints_behind asking.env command.0 names (string_bytes a.text))
IsReplyTo asking command names a other = ⊥

-- a request that is accepted, of which nothing is said
abbrev pub AcceptsRequest : (Files → Listings → Type 0) → Shell → Environment → List Text → Accepted → Type 0
AcceptsRequest agrees shell e words a =
    IsAccepted agrees shell e (RequestedStep shell e words) a × (string_bytes a.said ≡ [])

-- an automated load, and an unload
abbrev pub AcceptsLoad : (Files → Listings → Type 0) → Shell → Environment → List Text → Accepted → Type 0
AcceptsLoad agrees shell e names a =
    (automated : Automated) × LoadsAutomatically agrees shell e names automated × (a ≡ automated.accepted)

abbrev pub AcceptsUnload : (Files → Listings → Type 0) → Shell → Environment → List Text → Accepted → Type 0
AcceptsUnload agrees shell e names a =
    (automated : Automated) × UnloadsAutomatically agrees shell e names automated × (a ≡ automated.accepted)

-- by whether it is a load
abbrev pub AcceptsAutomated : (Files → Listings → Type 0) → Shell → Environment → Bool → List Text → Accepted → Type 0
AcceptsAutomated agrees shell e true names a = AcceptsLoad agrees shell e names a
AcceptsAutomated agrees shell e false names a = AcceptsUnload agrees shell e names a

-- it is a load
abbrev pub is_load : Subcommand → Bool
is_load Load = true
is_load other = false

-- What a command is accepted with: an automated load or unload with its names, and else the request of `modulecmd`.
abbrev pub AcceptsMove : (Files → Listings → Type 0) → Shell → Environment → Command → Moved → Accepted → Type 0
AcceptsMove agrees shell e command (true, names) a = AcceptsAutomated agrees shell e (is_load command.0) names a
AcceptsMove agrees shell e command (false, names) a = AcceptsRequest agrees shell e (name_of command.0 ∷ command.1) a

-- Why it is refused.
abbrev pub RefusesAutomated : (Files → Listings → Type 0) → Type 0 → Shell → Environment → Bool → List Text → Refusal
    → Type 0
RefusesAutomated agrees failed shell e true names refusal =
    IsRefusedChange agrees failed shell e (LoadStep shell e names) refusal
RefusesAutomated agrees failed shell e false names refusal =
    IsRefusedChange agrees failed shell e (UnloadStep shell e names) refusal

abbrev pub IsRefusedMove : (Files → Listings → Type 0) → Type 0 → Shell → Environment → Command → Moved → Refusal
    → Type 0
IsRefusedMove agrees failed shell e command (true, names) refusal =
    RefusesAutomated agrees failed shell e (is_load command.0) names refusal
IsRefusedMove agrees failed shell e command (false, names) refusal =
    IsRefusedChange agrees failed shell e (RequestedStep shell e (name_of command.0 ∷ command.1)) refusal

-- it is a load of nothing
abbrev pub are_none : List Text → Bool
are_none [] = true
are_none (name ∷ names) = false

abbrev pub is_empty_load : Subcommand → List Text → Bool
is_empty_load subcommand names = is_load subcommand && are_none names

-- What is answered where the words are names: nothing to a load of nothing.
abbrev pub MovesBy : (Files → Listings → Type 0) → Asking → Command → Moved → Bool → Reply → Type 0
MovesBy agrees asking command moved true reply = reply ≡ replies.Nothing
MovesBy agrees asking command moved false reply =
    (a : Accepted) × AcceptsMove agrees asking.shell asking.env command moved a
    × IsReplyTo asking command moved.1 a reply

-- What such a command answers.
abbrev pub MovesModules : (Files → Listings → Type 0) → Asking → Command → Reply → Type 0
MovesModules agrees asking command reply =
    (moved : Moved) × (moved_names command.0 (lookup asking.env) command.1 ≡ Ok moved)
    × MovesBy agrees asking command moved (is_empty_load command.0 moved.1) reply

-- Why it is refused: a word is an option that it doesn't have, or by its names, or memory is wanting.
abbrev pub RefusesWords : Asking → Command → Refusal → Type 0
RefusesWords asking command (refusals.Function fault) =
    IfSome (reason_of fault) (λ reason. moved_names command.0 (lookup asking.env) command.1 ≡ Err reason)
RefusesWords asking command refusals.OutOfMemory = Unit {0}
RefusesWords asking command other = ⊥

abbrev pub RefusesMove : (Files → Listings → Type 0) → Type 0 → Asking → Command → Refusal → Type 0
RefusesMove agrees failed asking command refusal =
    RefusesWords asking command refusal
    ⊎ ((moved : Moved) × (moved_names command.0 (lookup asking.env) command.1 ≡ Ok moved)
    × IsRefusedMove agrees failed asking.shell asking.env command moved refusal)
