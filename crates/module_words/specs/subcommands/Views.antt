-- What the rows of the code stand for in the definitions (own).
use Rattle.module_words.specs.subcommands.Subcommands as spec
use Rattle.module_words.specs.subcommands.Options.{OptionRow}
use Rattle.module_words.specs.subcommands.OtherOptions.{OtherRow}
use Rattle.module_words.specs.declared.subcommands.options.OptionName.{OptionName}
use Rattle.module_words.specs.declared.subcommands.other_tools.OtherOption.{OtherOption}
use Rattle.module_words.specs.declared.subcommands.table.SubcommandName.{SubcommandName}

-- a name with its subcommand
abbrev pub row_view : SubcommandName → spec.Row
row_view row = (row.name.now, row.subcommand)

-- a name with its option
abbrev pub option_view : OptionName → OptionRow
option_view row = (row.name.now, row.option)

-- an option of other tools, with what is said of it
abbrev pub other_view : OtherOption → OtherRow
other_view row = (row.name.now, row.sentence.now)
