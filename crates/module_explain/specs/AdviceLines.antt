-- What is said of what to do (own): one line.
use Rattle.std.specs.Prelude.{List, ◌++◌, map, codes, Option, Some, None, string_bytes, vec_items}
use Rattle.std.specs.List.{flat_map}
use Rattle.terminal.specs.text.Shown.{Text, shown}
use Rattle.requests.specs.RequestViews.{action_view}
use Rattle.requests.specs.Requests.{RequestedAction, load, unload, switch, purge, list, avail, show, whatis}
use Rattle.module_explain.specs.declared.advice.Advice.{Advice}
use Rattle.module_explain.specs.declared.advice.Advice.TheVariants as advices

abbrev pub behind_space : Text → Text
behind_space word = codes " " ++ word

-- a subcommand and its names
abbrev pub words_text : Text → List Text → Text
words_text subcommand names = subcommand ++ flat_map behind_space names

abbrev pub switch_text : Option Text → Text → Text
switch_text None new = codes "switch " ++ new
switch_text (Some old) new = codes "switch " ++ (old ++ (codes " " ++ new))

-- the subcommand and the words that ask for an action (module(1), Sub-commands)
abbrev pub action_text : RequestedAction → Text
action_text (load names) = words_text (codes "load") names
action_text (unload names) = words_text (codes "unload") names
action_text (switch old new) = switch_text old new
action_text purge = codes "purge"
action_text list = codes "list"
action_text (avail texts) = words_text (codes "avail") texts
action_text (show names) = words_text (codes "show") names
action_text (whatis names) = words_text (codes "whatis") names

-- the subcommand that does an action with others
abbrev pub automated_subcommand : RequestedAction → Text
automated_subcommand (unload names) = codes "unload --auto"
automated_subcommand action = codes "load --auto"

-- the names that were asked for, with the option, and what that does
abbrev pub automated_text : List Text → RequestedAction → Text
automated_text asked action =
    words_text (automated_subcommand action) asked ++ (codes " (as " ++ (action_text action ++ codes ")"))

abbrev pub try_text : RequestedAction → Text
try_text action = codes "Try: module " ++ action_text action

abbrev pub try_automated_text : List Text → RequestedAction → Text
try_automated_text asked action = codes "Try: module " ++ automated_text asked action

-- what to do
abbrev pub advice_text : Advice → Text
advice_text (advices.Try action) = try_text (action_view action)
advice_text (advices.TryAutomated asked action) =
    try_automated_text (map string_bytes (vec_items asked)) (action_view action)
advice_text (advices.Known line) = string_bytes line

-- its line, as a terminal shows it
abbrev pub advice_line : Advice → Text
advice_line advice = shown (advice_text advice) ++ codes "\n"
