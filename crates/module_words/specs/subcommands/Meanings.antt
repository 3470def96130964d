-- Which subcommand a word means (module(1); beginnings as Environment Modules has them).
use Rattle.std.specs.Prelude.{Bool, not, ◌||◌, codes, bytes_eq, find, nat_eq, if◌then◌else◌, Option, Some, None}
use Rattle.std.specs.Prelude.{Result, Ok, Err}
use Rattle.std.specs.List.{list_all, starts_with}
use Rattle.message.specs.Messages.{Text}
use Rattle.module_words.specs.declared.subcommands.table.Subcommand.{Subcommand}
use Rattle.module_words.specs.subcommands.Subcommands.{Row, name_of, rows}
use Rattle.module_words.specs.subcommands.Nearness.{differ_by_one}

-- why a word means none: it is no word of this command; or of those that are near it the first is this one; or it is
-- the beginning of names of several; or it is an option
pub data WordReason : Type 0 where
  unknown : (word : Text) → WordReason
  near : (name : Text) → WordReason
  several : (word : Text) → WordReason
  no_option : (word : Text) → WordReason

-- the word is the name
abbrev pub is_named : Text → Row → Bool
is_named word row = bytes_eq word row.0

-- the name begins with the word
abbrev pub begins : Text → Row → Bool
begins word row = starts_with nat_eq row.0 word

-- the same subcommand
abbrev pub is_same : Subcommand → Subcommand → Bool
is_same one other = bytes_eq (name_of one) (name_of other)

-- the name doesn't begin with the word, or is one of this subcommand
abbrev pub leaves : Text → Subcommand → Row → Bool
leaves word subcommand row = not (begins word row) || is_same row.1 subcommand

-- each name that begins with the word is one of this subcommand
abbrev pub is_alone : Text → Subcommand → Bool
is_alone word subcommand = list_all (leaves word subcommand) rows

-- the subcommand, if the word begins names of it alone
abbrev pub alone : Text → Subcommand → Result Subcommand WordReason
alone word subcommand = if is_alone word subcommand then Ok subcommand else Err (several word)

-- a word begins with a hyphen
abbrev pub is_option : Text → Bool
is_option word = starts_with nat_eq word (codes "-")

-- the name is near the word
abbrev pub is_near : Text → Row → Bool
is_near word row = differ_by_one word row.0

-- the first name that is near the word, if there is one
abbrev pub nearest : Text → Option Row
nearest word = find (is_near word) rows

-- why a word that begins no name means nothing
abbrev pub unmeant : Text → Option Row → WordReason
unmeant word (Some row) = near row.0
unmeant word None = unknown word

-- the reason of an option, or of another word
abbrev pub reason_why : Text → WordReason
reason_why word = if is_option word then no_option word else unmeant word (nearest word)

-- the meaning of a word that is no name, by the first name that begins with it
abbrev pub by_beginning : Text → Option Row → Result Subcommand WordReason
by_beginning word (Some row) = alone word row.1
by_beginning word None = Err (reason_why word)

-- the meaning of a word, by the name that it is
abbrev pub by_name : Text → Option Row → Result Subcommand WordReason
by_name word (Some row) = Ok row.1
by_name word None = by_beginning word (find (begins word) rows)

-- The subcommand that a word means: the one that it is a name of, and else the one of which alone it begins names.
abbrev pub meaning : Text → Result Subcommand WordReason
meaning word = by_name word (find (is_named word) rows)
