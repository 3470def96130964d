-- What an automated load or unload is accepted with.
use Rattle.std.proofs.Common.{◌≡◌, List, string_bytes, String, ap, ◌∙◌}
use Rattle.std.specs.declared.alloc.Global.{Global}
use Rattle.message.specs.Messages.{Text}
use Rattle.envvars.specs.Changes.{new_values_in}
use Rattle.envvars.specs.Environment.{Environment}
use Rattle.envvars.specs.Texts.{texts_in}
use Rattle.envstate.specs.loaded_list.Loaded.{Entry, loaded_in}
use Rattle.filetree.specs.Agreement.{Files, Listings, InEachPair}
use Rattle.shelltext.specs.Reading.{TextSays}
use Rattle.shelltext.specs.declared.shell.Shell.{Shell}
use Rattle.requests.specs.Requests.{load, unload}
use Rattle.requests.specs.Steps.{RequestStep, consistent}
use Rattle.module_auto.specs.Answers.{IsAnswer}
use Rattle.module_auto.specs.Loads.{AutomaticNames}
use Rattle.module_auto.specs.Said.{loading_line, unloading_line}
use Rattle.module_auto.specs.Unloads.{StillNeed, in_front}
use Rattle.module_auto.specs.declared.answer.AutomaticAnswer.{AutomaticAnswer}
use Rattle.module_subcommands.specs.Automated.{LoadsAutomatically, UnloadsAutomatically, automated_of}
use Rattle.module_subcommands.specs.Limits.{context}
use Rattle.std.proofs.Common.{Some}

module _ (agrees : Files → Listings → Type 0) (shell : Shell) (e : Environment) (asked : List Text) (answer : AutomaticAnswer) (said : String Global)
    (changes : TextSays shell (string_bytes answer.text) (new_values_in answer.changes)) where
  pub loads : IsAnswer agrees shell e (λ files listings. RequestStep (context shell files listings) e (load (texts_in answer.names))) answer
      → InEachPair agrees (λ files listings. AutomaticNames (context shell files listings) e asked (texts_in answer.added) (texts_in answer.names))
      → string_bytes said ≡ loading_line asked (texts_in answer.added) (texts_in answer.loaded) → LoadsAutomatically agrees shell e asked (automated_of said answer)
  loads (d, comes, says, messages, loaded) named line = record {
    done = d;
    added = texts_in answer.added;
    named = named;
    comes = comes;
    answered = record { said = says; messages = messages; changes = changes };
    line = line ∙ ap (λ (l : List Text). loading_line asked (texts_in answer.added) l) loaded;
  }

  pub unloads : (entries : List Entry) → loaded_in e ≡ Some entries → IsAnswer agrees shell e (λ files listings. RequestStep (context shell files listings) e (unload (texts_in answer.names))) answer
      → InEachPair agrees (λ files listings. StillNeed (context shell files listings) e asked (texts_in answer.added)) → texts_in answer.names ≡ in_front (texts_in answer.added) asked
      → string_bytes said ≡ unloading_line entries asked (texts_in answer.added) → UnloadsAutomatically agrees shell e asked (automated_of said answer)
  unloads entries loaded (d, comes, says, messages, names) needing same line = record {
    done = d;
    added = texts_in answer.added;
    entries = entries;
    loaded = ap consistent loaded;
    needing = needing;
    names = same;
    comes = comes;
    answered = record { said = says; messages = messages; changes = changes };
    line = line;
  }
