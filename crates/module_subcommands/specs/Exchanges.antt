-- An unload and a load by `ml`, all or nothing (module(1), "The short form ml").
use Rattle.std.specs.Prelude.{◌≡◌, ◌⊎◌, ℕ, true, false, List, [], ◌∷◌, ◌++◌, None, Ok}
use Rattle.std.specs.Prelude.{if◌then◌else◌, string_bytes, ◌==◌}
use Rattle.message.specs.Messages.{Text}
use Rattle.envvars.specs.Changes.{new_values_in}
use Rattle.envvars.specs.Environment.{Environment, lookup}
use Rattle.envvars.specs.Texts.{texts_in}
use Rattle.filetree.specs.Agreement.{Files, Listings, InEachPair}
use Rattle.shelltext.specs.declared.shell.Shell.{Shell}
use Rattle.requests.specs.Requests.{unload}
use Rattle.requests.specs.Steps.{Done, RequestStep}
use Rattle.module_auto.specs.Answers.{Outcomes}
use Rattle.module_restore.specs.Restores.{ExchangeStep}
use Rattle.module_words.specs.declared.function.output.FunctionOutput.{FunctionOutput}
use Rattle.module_words.specs.declared.subcommands.table.Subcommand.TheVariants.{IsLoaded, Load, Unload}
use Rattle.module_words.specs.function.Answers.{answer_of}
use Rattle.module_words.specs.function.Asked.{Command}
use Rattle.module_words.specs.function.Moved.{Moved, moved_names}
use Rattle.module_words.specs.function.Outputs.{GivesOutput}
use Rattle.module_subcommands.specs.Afters.{after_both}
use Rattle.module_subcommands.specs.Automated.{LoadStep, LoadsAutomatically, UnloadStep, UnloadsAutomatically}
use Rattle.module_subcommands.specs.Changes.{IsAccepted, IsRefusedChange}
use Rattle.module_subcommands.specs.Limits.{context}
use Rattle.module_subcommands.specs.Moves.{answer_with, changed_view, hints_on}
use Rattle.module_subcommands.specs.declared.asking.Asking.{Asking}
use Rattle.module_subcommands.specs.declared.changing.Accepted.{Accepted}
use Rattle.module_subcommands.specs.declared.changing.Automated.{Automated}
use Rattle.module_subcommands.specs.declared.exchanging.Whole.{Whole}
use Rattle.module_subcommands.specs.declared.refusal.Refusal.{Refusal}
use Rattle.module_subcommands.specs.declared.reply.Reply.{Reply}
use Rattle.module_subcommands.specs.declared.reply.Reply.TheVariants as replies

-- an unload of these names as they are
abbrev pub PlainUnloadStep : Shell → Environment → List Text → Outcomes
PlainUnloadStep shell e names files listings = RequestStep (context shell files listings) e (unload names)

-- the environment behind it
abbrev pub IsBehind : Shell → Environment → List Text → Files → Listings → Environment → Type 0
IsBehind shell e names files listings behind =
    (d : Done) × PlainUnloadStep shell e names files listings (Ok d) × (behind ≡ d.env)

-- the exchange of all these names
abbrev pub WholeStep : Shell → Environment → List Text → List Text → Outcomes
WholeStep shell e unloads loads files listings = ExchangeStep (context shell files listings) e unloads loads

-- names as they were asked for, of which nothing is said
abbrev pub IsAsAsked : List Text → Whole → Type 0
IsAsAsked names w = (texts_in w.names ≡ names) × (string_bytes w.said ≡ [])

-- all names of an automated command, with what is said of it
abbrev pub whole_of : Automated → Whole
whole_of a = record { names = a.names; said = a.accepted.said }

-- those of an automated command
abbrev pub IsOf : Automated → Whole → Type 0
IsOf a w = (texts_in w.names ≡ texts_in a.names) × (string_bytes w.said ≡ string_bytes a.accepted.said)

-- all names of an unload, and why it is refused
abbrev pub IsWholeUnload : (Files → Listings → Type 0) → Shell → Environment → Moved → Whole → Type 0
IsWholeUnload agrees shell e (true, names) w =
    (a : Automated) × UnloadsAutomatically agrees shell e names a × IsOf a w
IsWholeUnload agrees shell e (false, names) w = IsAsAsked names w

abbrev pub UnloadNamesStep : Shell → Environment → Moved → Outcomes
UnloadNamesStep shell e moved files listings o = (moved.0 ≡ true) × UnloadStep shell e moved.1 files listings o

-- all names of a load, and why it is refused
abbrev pub IsWholeLoad : (Files → Listings → Type 0) → Shell → Environment → Moved → Whole → Type 0
IsWholeLoad agrees shell e (true, []) w = IsAsAsked [] w
IsWholeLoad agrees shell e (true, name ∷ names) w =
    (a : Automated) × LoadsAutomatically agrees shell e (name ∷ names) a × IsOf a w
IsWholeLoad agrees shell e (false, names) w = IsAsAsked names w

abbrev pub LoadNamesStep : Shell → Environment → Moved → Outcomes
LoadNamesStep shell e moved files listings o = (moved.0 ≡ true) × LoadStep shell e moved.1 files listings o

-- all names of a load behind an unload: an automated one looks at the environment there
abbrev pub IsWholeLoadBehind : (Files → Listings → Type 0) → Shell → Environment → List Text → Moved → Whole → Type 0
IsWholeLoadBehind agrees shell e unloads (false, names) w = IsAsAsked names w
IsWholeLoadBehind agrees shell e unloads (true, names) w =
    (behind : Environment) × InEachPair agrees (λ files listings. IsBehind shell e unloads files listings behind)
    × IsWholeLoad agrees shell behind (true, names) w

abbrev pub RefusesLoadBehind : (Files → Listings → Type 0) → Type 0 → Shell → Environment → List Text → Moved → Refusal
    → Type 0
RefusesLoadBehind agrees failed shell e unloads moved refusal =
    IsRefusedChange agrees failed shell e (PlainUnloadStep shell e unloads) refusal
    ⊎ ((behind : Environment) × InEachPair agrees (λ files listings. IsBehind shell e unloads files listings behind)
    × IsRefusedChange agrees failed shell behind (LoadNamesStep shell behind moved) refusal)

-- what is said behind of the names that were to be unloaded, if none of them is loaded
abbrev pub hints_if : ℕ → Text → Text
hints_if status hints = if status == 0 then [] else hints

abbrev pub AreHints : Shell → Environment → List Text → Text → Type 0
AreHints shell e names lines =
    (output : FunctionOutput) × GivesOutput shell (Ok output) (answer_of None e IsLoaded names)
    × (lines ≡ hints_if output.status (hints_on e names))

-- what is answered
abbrev pub IsReply : Asking → Command → Command → Accepted → Text → Reply → Type 0
IsReply asking unloads loads a hints (replies.Changed c) =
    changed_view c ≡ answer_with a (after_both asking (new_values_in a.changes) unloads loads) hints
IsReply asking unloads loads a hints other = ⊥

-- An exchange of names: all names that these come to, and what is made of all at once.
pub record ExchangesNames (agrees : Files → Listings → Type 0) (shell : Shell) (e : Environment) (first second : Moved)
    (accepted : Accepted) : Type 0 where
  pub unloaded : Whole
  pub loaded : Whole
  pub unloads_all : IsWholeUnload agrees shell e first unloaded
  pub loads_all : IsWholeLoadBehind agrees shell e (texts_in unloaded.names) second loaded
  pub accepts : IsAccepted agrees shell e (WholeStep shell e (texts_in unloaded.names) (texts_in loaded.names)) accepted
  pub said : string_bytes accepted.said ≡ string_bytes unloaded.said ++ string_bytes loaded.said

-- An exchange: the names of both commands, what is made of them, and what is said behind it.
pub record Exchanges (agrees : Files → Listings → Type 0) (asking : Asking) (unloads loads : Command) (reply : Reply)
    : Type 0 where
  pub first : Moved
  pub second : Moved
  pub named : moved_names Unload (lookup asking.env) unloads.1 ≡ Ok first
  pub named_too : moved_names Load (lookup asking.env) loads.1 ≡ Ok second
  pub accepted : Accepted
  pub exchanged : ExchangesNames agrees asking.shell asking.env first second accepted
  pub hints : Text
  pub hinted : AreHints asking.shell asking.env first.1 hints
  pub replied : IsReply asking unloads loads accepted hints reply
