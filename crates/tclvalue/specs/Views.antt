-- What the types of `src/` stand for in this crate's contracts.
use Rattle.std.specs.Prelude.{ℕ, List, Bool, true, false, if◌then◌else◌, Option, None}
use Rattle.tcltext.specs.chars.Runs.{Text}
use Rattle.tclvalue.specs.Searches.{Pair, first_position, last_position}
use Rattle.tclvalue.specs.Indexes.{Index, from_start, from_end}
use Rattle.tclvalue.specs.Characters.{trimmed, trimmed_left, trimmed_right, without_start, without_end}
use Rattle.tclvalue.specs.Commands as value
use Rattle.tclvalue.specs.declared.names.ValueCommand.{ValueCommand}
use Rattle.tclvalue.specs.declared.names.ValueCommand.TheVariants as commands
use Rattle.tclvalue.specs.declared.names.Subcommand.{Subcommand}
use Rattle.tclvalue.specs.declared.names.Subcommand.TheVariants as subcommands
use Rattle.tclvalue.specs.declared.index.Index as rust_index
use Rattle.tclvalue.specs.declared.index.Index.TheVariants.{FromStart, FromEnd}
use Rattle.tclvalue.specs.declared.texts.Ends.{Ends}
use Rattle.tclvalue.specs.declared.texts.Ends.TheVariants.{Both, Start, End}
use Rattle.tclvalue.specs.declared.searches.Replacement.{Replacement}
use Rattle.tclvalue.specs.declared.searches.Occurrence.{Occurrence}
use Rattle.tclvalue.specs.declared.searches.Occurrence.TheVariants.{First, Last}

-- a command of values as its function
abbrev pub command_view : ValueCommand → value.ValueFunction
command_view commands.List = value.list_command
command_view commands.Llength = value.llength_command
command_view commands.Lindex = value.lindex_command
command_view commands.Lrange = value.lrange_command
command_view commands.Split = value.split_command
command_view commands.Join = value.join_command
command_view commands.Concat = value.concat_command
command_view commands.String = value.string_command

-- a subcommand of string without its options, then whether it takes some, then with them
abbrev pub operation : Subcommand → value.ValueFunction
operation subcommands.Length = value.string_length
operation subcommands.Index = value.string_index
operation subcommands.Range = value.string_range
operation subcommands.Equal = value.string_equal
operation subcommands.Compare = value.string_compare
operation subcommands.Match = value.string_match
operation subcommands.First = value.string_first
operation subcommands.Last = value.string_last
operation subcommands.Map = value.string_map
operation subcommands.Repeat = value.string_repeat
operation subcommands.Trim = value.string_trim
operation subcommands.TrimLeft = value.string_trimleft
operation subcommands.TrimRight = value.string_trimright

abbrev pub takes_options : Subcommand → Bool
takes_options subcommands.Equal = true
takes_options subcommands.Compare = true
takes_options subcommands.Match = true
takes_options subcommands.Map = true
takes_options command = false

abbrev pub option_of : Subcommand → List Text → Option Text
option_of command words = if takes_options command then value.option_in words else None

abbrev pub subcommand_view : Subcommand → value.ValueFunction
subcommand_view command words = value.unless_option (option_of command words) (operation command words)

abbrev pub index_view : rust_index.Index → Index
index_view (FromStart z) = from_start z
index_view (FromEnd z) = from_end z

-- the search for the first or the last copy of a text
abbrev pub search_for : Occurrence → Text → Text → Option ℕ
search_for First = first_position
search_for Last = last_position

-- a text without the characters of a set at these ends
abbrev pub without : Ends → Text → Text → Text
without Both set t = without_end set (without_start set t)
without Start set t = without_start set t
without End set t = without_end set t

abbrev pub trimmed_at : Ends → Text → Text → Text
trimmed_at Both set t = trimmed set t
trimmed_at Start set t = trimmed_left set t
trimmed_at End set t = trimmed_right set t

-- a key and the text that replaces it
abbrev pub pair_view : Replacement → Pair
pair_view r = (r.key.items, r.value.now)
