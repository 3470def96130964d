-- The answers to words that only scripts and completion say (own; docs/DECISIONS.md).
use Rattle.std.specs.Prelude.{◌≡◌, ◌⊎◌, Bool, false, List, [], ◌∷◌, Option, None, Ok}
use Rattle.message.specs.Messages.{Text}
use Rattle.modulefile.specs.Reports.{line_of}
use Rattle.module_collections.specs.files.Calls.{InEach}
use Rattle.module_collections.specs.files.Entries.{Entries}
use Rattle.module_collections.specs.files.Found.{shown_at}
use Rattle.module_words.specs.declared.protocol.asker.Asker.{Asker}
use Rattle.module_words.specs.declared.protocol.asker.Asker.TheVariants as askers
use Rattle.module_words.specs.declared.protocol.script_words.ScriptWord.{ScriptWord}
use Rattle.module_words.specs.declared.subcommands.table.Subcommand.{Subcommand}
use Rattle.module_words.specs.function.Sites.{site_directories}
use Rattle.module_words.specs.protocol.ScriptWords.{script_word}
use Rattle.module_words.specs.subcommands.Meanings.{meaning}
use Rattle.module_words.specs.subcommands.Subcommands.{name_of}
use Rattle.module_commands.specs.Answers.{Answered}
use Rattle.module_commands.specs.Explanations.{Told}
use Rattle.module_subcommands.specs.Replies.{output_writing}

-- The first word is one of a script's own, if a script asks.
abbrev pub word_of_script : Asker → List Text → Option ScriptWord
word_of_script askers.Script (word ∷ words) = script_word word
word_of_script asker words = None

-- an answer of bytes for standard output, and one of lines for standard error
abbrev pub output : Text → Bool → Answered
output bytes quiet = record {
  writes = output_writing bytes ∷ [];
  is_quiet = quiet;
  lines = [];
  unreadable = None;
  status = 0;
}

abbrev pub explanation : Told → Answered
explanation told = record {
  writes = [];
  is_quiet = false;
  lines = told.lines;
  unreadable = told.unreadable;
  status = 0;
}

-- the directories in what a site's file holds; none, if it is no text
abbrev pub AreDirectoriesIn : Text → Text → Type 0
AreDirectoriesIn bytes directories = (directories ≡ []) ⊎ (directories ≡ site_directories bytes)

-- those of the file at a path; none, if there is no such file
abbrev pub AreDirectoriesAt : (Entries → Type 0) → Text → Text → Type 0
AreDirectoriesAt agrees path directories =
    (directories ≡ [])
    ⊎ ((bytes : Text) × InEach agrees (λ entries. shown_at entries path ≡ Ok bytes) × AreDirectoriesIn bytes directories)

-- those of the file that the only word names
abbrev pub AreDirectories : (Entries → Type 0) → List Text → Text → Type 0
AreDirectories agrees words directories =
    (path : Text) × (words ≡ path ∷ []) × AreDirectoriesAt agrees path directories

-- the name of the subcommand that the only word means, as a line
abbrev pub IsMeaning : List Text → Text → Type 0
IsMeaning words line =
    (word : Text) × (subcommand : Subcommand) × (words ≡ word ∷ []) × (meaning word ≡ Ok subcommand)
    × (line ≡ line_of (name_of subcommand))
