-- What a load does with what the names need, and an unload with what needs them; and what is said of these (module(1),
-- "Automated module handling").
use Rattle.std.specs.Prelude.{◌≡◌, List, Result, Ok, String, string_bytes}
use Rattle.std.specs.declared.alloc.Global.{Global}
use Rattle.message.specs.Messages.{Text}
use Rattle.envvars.specs.Changes.{new_values_in}
use Rattle.envvars.specs.Environment.{Environment}
use Rattle.envvars.specs.Texts.{texts_in}
use Rattle.envstate.specs.loaded_list.Loaded.{Entry}
use Rattle.filetree.specs.Agreement.{Files, Listings, InEachPair}
use Rattle.filetree.specs.Relations.{Is, ◌>>◌}
use Rattle.modulefile.specs.Moves.{loaded_names}
use Rattle.shelltext.specs.Reading.{SaysDifference, TextSays}
use Rattle.shelltext.specs.declared.shell.Shell.{Shell}
use Rattle.requests.specs.Reasons.{RequestReason}
use Rattle.requests.specs.Requests.{load, unload}
use Rattle.requests.specs.Steps.{Done, RequestStep, entries_of}
use Rattle.module_auto.specs.declared.answer.AutomaticAnswer.{AutomaticAnswer}
use Rattle.module_auto.specs.Loads.{AutomaticLoad, AutomaticNames}
use Rattle.module_auto.specs.Said.{loading_line, unloading_line}
use Rattle.module_auto.specs.Unloads.{AutomaticUnload, StillNeed, in_front}
use Rattle.module_subcommands.specs.Limits.{context}
use Rattle.module_subcommands.specs.declared.changing.Accepted.{Accepted}
use Rattle.module_subcommands.specs.declared.changing.Automated.{Automated}

-- a load of these names comes to this, with what they need
abbrev pub LoadStep : Shell → Environment → List Text → Files → Listings → Result Done RequestReason → Type 0
LoadStep shell e names files listings = AutomaticLoad (context shell files listings) e names

-- an unload, with what needs them; the loaded lists have to fit together
abbrev pub UnloadStep : Shell → Environment → List Text → Files → Listings → Result Done RequestReason → Type 0
UnloadStep shell e names files listings =
    Is (entries_of e) >> (λ entries. AutomaticUnload (context shell files listings) e names)

-- an automated answer, with what is said of it
abbrev pub automated_of : String Global → AutomaticAnswer → Automated
automated_of said answer = record {
  accepted = record { said = said; messages = answer.messages; text = answer.text; changes = answer.changes };
  names = answer.names;
}

-- what is done is answered: the text says exactly the difference, and these are the messages and the changes
pub record IsDone (shell : Shell) (e : Environment) (d : Done) (a : Accepted) : Type 0 where
  pub said : SaysDifference shell (string_bytes a.text) e d.env
  pub messages : texts_in a.messages ≡ d.messages
  pub changes : TextSays shell (string_bytes a.text) (new_values_in a.changes)

-- The load of all these names is accepted, in each pair of maps that agrees: those asked for, and those that they need.
-- A line says which modules were loaded because of names that were put in.
pub record LoadsAutomatically (agrees : Files → Listings → Type 0) (shell : Shell) (e : Environment) (asked : List Text)
    (a : Automated) : Type 0 where
  pub done : Done
  pub added : List Text
  pub named : InEachPair agrees (λ files listings.
      AutomaticNames (context shell files listings) e asked added (texts_in a.names))
  pub comes : InEachPair agrees (λ files listings.
      RequestStep (context shell files listings) e (load (texts_in a.names)) (Ok done))
  pub answered : IsDone shell e done a.accepted
  pub line : string_bytes a.accepted.said ≡ loading_line asked added (loaded_names done.moves)

-- The unload of all these names is accepted: those asked for, and in front of them those that need them. A line says
-- which loaded modules these are.
pub record UnloadsAutomatically (agrees : Files → Listings → Type 0) (shell : Shell) (e : Environment)
    (asked : List Text) (a : Automated) : Type 0 where
  pub done : Done
  pub added : List Text
  pub entries : List Entry
  pub loaded : entries_of e ≡ Ok entries
  pub needing : InEachPair agrees (λ files listings. StillNeed (context shell files listings) e asked added)
  pub names : texts_in a.names ≡ in_front added asked
  pub comes : InEachPair agrees (λ files listings.
      RequestStep (context shell files listings) e (unload (texts_in a.names)) (Ok done))
  pub answered : IsDone shell e done a.accepted
  pub line : string_bytes a.accepted.said ≡ unloading_line entries asked added
