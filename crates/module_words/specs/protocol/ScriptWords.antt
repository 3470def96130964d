-- The words that only scripts and completion say (own): no subcommand has these names.
use Rattle.std.specs.Prelude.{bytes_eq, codes, if◌then◌else◌, Option, Some, None}
use Rattle.message.specs.Messages.{Text}
use Rattle.module_words.specs.declared.protocol.script_words.ScriptWord.{ScriptWord}
use Rattle.module_words.specs.declared.protocol.script_words.ScriptWord.TheVariants.{Names, Directories, Meaning, Explanation, Unloaded}

abbrev pub script_word : Text → Option ScriptWord
script_word word =
    if bytes_eq word (codes "names") then Some Names
    else if bytes_eq word (codes "modulespath") then Some Directories
    else if bytes_eq word (codes "subcommand") then Some Meaning
    else if bytes_eq word (codes "explain") then Some Explanation
    else if bytes_eq word (codes "unloaded") then Some Unloaded
    else None
