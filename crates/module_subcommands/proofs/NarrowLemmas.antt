-- What holds in each pair of maps holds in fewer of them.
use Rattle.std.proofs.Common.{List, [], ◌∷◌, true, false}
use Rattle.message.specs.Messages.{Text}
use Rattle.envvars.specs.Environment.{Environment}
use Rattle.filetree.specs.Agreement.{Files, Listings, InEachPair, Narrows}
use Rattle.module_collections.specs.files.Calls.{InEach}
use Rattle.module_collections.specs.files.Calls as calls
use Rattle.module_collections.specs.files.Entries.{Entries}
use Rattle.shelltext.specs.declared.shell.Shell.{Shell}
use Rattle.module_words.specs.function.Moved.{Moved}
use Rattle.module_subcommands.specs.Automated.{LoadsAutomatically, UnloadsAutomatically}
use Rattle.module_subcommands.specs.Descriptions.{AllHelp, HelpsEach}
use Rattle.module_subcommands.specs.Exchanges.{IsWholeLoad, IsWholeLoadBehind, IsWholeUnload}
use Rattle.module_subcommands.specs.declared.changing.Automated.{Automated}
use Rattle.module_subcommands.specs.declared.exchanging.Whole.{Whole}

pub in_entries : (before now : Entries → Type 0) (P : Entries → Type 0) → calls.Narrows before now → InEach before P → InEach now P
in_entries before now P narrows h = λ entries a. h entries (narrows entries a)

module _ (before now : Files → Listings → Type 0) (narrows : Narrows before now) where
  pub in_pairs : (P : Files → Listings → Type 0) → InEachPair before P → InEachPair now P
  in_pairs P h = λ files listings a. h files listings (narrows files listings a)

  pub loads_narrowed : (shell : Shell) (e : Environment) (asked : List Text) (a : Automated) → LoadsAutomatically before shell e asked a → LoadsAutomatically now shell e asked a
  loads_narrowed shell e asked a h = record {
    done = h.done;
    added = h.added;
    named = in_pairs _ h.named;
    comes = in_pairs _ h.comes;
    answered = h.answered;
    line = h.line;
  }

  pub unloads_narrowed : (shell : Shell) (e : Environment) (asked : List Text) (a : Automated) → UnloadsAutomatically before shell e asked a → UnloadsAutomatically now shell e asked a
  unloads_narrowed shell e asked a h = record {
    done = h.done;
    added = h.added;
    entries = h.entries;
    loaded = h.loaded;
    needing = in_pairs _ h.needing;
    names = h.names;
    comes = in_pairs _ h.comes;
    answered = h.answered;
    line = h.line;
  }

  pub whole_unload_narrowed : (shell : Shell) (e : Environment) (moved : Moved) (w : Whole) → IsWholeUnload before shell e moved w → IsWholeUnload now shell e moved w
  whole_unload_narrowed shell e (true, names) w (a, unloads, is) = (a, unloads_narrowed shell e names a unloads, is)
  whole_unload_narrowed shell e (false, names) w h = h

  pub whole_load_narrowed : (shell : Shell) (e : Environment) (moved : Moved) (w : Whole) → IsWholeLoad before shell e moved w → IsWholeLoad now shell e moved w
  whole_load_narrowed shell e (true, []) w h = h
  whole_load_narrowed shell e (true, name ∷ names) w (a, loads, is) = (a, loads_narrowed shell e (name ∷ names) a loads, is)
  whole_load_narrowed shell e (false, names) w h = h

  pub whole_behind_narrowed : (shell : Shell) (e : Environment) (unloads : List Text) (moved : Moved) (w : Whole) → IsWholeLoadBehind before shell e unloads moved w
      → IsWholeLoadBehind now shell e unloads moved w
  whole_behind_narrowed shell e unloads (true, names) w (behind, is, whole) = (behind, in_pairs _ is, whole_load_narrowed shell behind (true, names) w whole)
  whole_behind_narrowed shell e unloads (false, names) w h = h

  pub help_narrowed : (shell : Shell) (e : Environment) (names : List Text) (all : AllHelp) → HelpsEach before shell e names all → HelpsEach now shell e names all
  help_narrowed shell e [] all h = h
  help_narrowed shell e (name ∷ names) all (answer, others, first, rest, is) =
      (answer, others, in_pairs _ first, help_narrowed shell e names others rest, is)
