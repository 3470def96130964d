-- What is refused in each pair of maps is refused in fewer of them.
use Rattle.std.proofs.Common.{List, Bool, true, false, Result, Ok, Err}
use Rattle.message.specs.Messages.{Text}
use Rattle.envvars.specs.Environment.{Environment}
use Rattle.filetree.specs.Agreement.{Files, Listings, Narrows}
use Rattle.shelltext.specs.declared.shell.Shell.{Shell}
use Rattle.module_words.specs.function.Asked.{Command}
use Rattle.module_words.specs.function.Faults.{FunctionReason}
use Rattle.module_words.specs.function.Moved.{Moved}
use Rattle.module_subcommands.proofs.NarrowLemmas.{in_pairs}
use Rattle.module_commands.specs.Explanations.{EndsIf, RefusedBy, RefusedIf}

module _ (before now : Files → Listings → Type 0) (narrows : Narrows before now) where
  pub ends_narrowed : (is_load : Bool) (shell : Shell) (e : Environment) (asked names : List Text) → EndsIf is_load before shell e asked names → EndsIf is_load now shell e asked names
  ends_narrowed true shell e asked names h = in_pairs before now narrows _ h
  ends_narrowed false shell e asked names h = in_pairs before now narrows _ h

  pub refused_if_narrowed : (is_automatic : Bool) (shell : Shell) (e : Environment) (command : Command) (asked words : List Text) → RefusedIf is_automatic before shell e command asked words
      → RefusedIf is_automatic now shell e command asked words
  refused_if_narrowed true shell e command asked words (names, ends, is) = (names, ends_narrowed _ shell e asked names ends, is)
  refused_if_narrowed false shell e command asked words h = h

  pub refused_narrowed : (shell : Shell) (e : Environment) (command : Command) (moved : Result Moved FunctionReason) (words : List Text) → RefusedBy before shell e command moved words
      → RefusedBy now shell e command moved words
  refused_narrowed shell e command (Ok moved) words h = refused_if_narrowed moved.0 shell e command moved.1 words h
  refused_narrowed shell e command (Err reason) words h = h
