-- Why a word means no subcommand, with the texts (docs/REFUSALS.md).
use Rattle.std.specs.Prelude.{codes}
use Rattle.message.specs.Messages.{Text, around, quoting}
use Rattle.module_words.specs.subcommands.Meanings.{WordReason, unknown, near, several, no_option}
use Rattle.module_words.specs.declared.subcommands.fault.WordFault.{WordFault}
use Rattle.module_words.specs.declared.subcommands.fault.WordFault.TheVariants as faults

-- the reason of a fault of the code
abbrev pub reason_of : WordFault → WordReason
reason_of (faults.Unknown word) = unknown word.now
reason_of (faults.Near name) = near name.now
reason_of (faults.Several word) = several word.now
reason_of (faults.NoOption word) = no_option word.now

-- what stands behind `ERROR: `
abbrev pub message_of : WordReason → Text
message_of (unknown word) = quoting (codes "Unknown subcommand '") word
message_of (near name) = around (codes "Unknown subcommand: did you mean '") name (codes "'?")
message_of (several word) = quoting (codes "Several subcommands begin with '") word
message_of (no_option word) = around (codes "'") word (codes "' is no option here")
