-- What is said behind the refusal of words that mean nothing (own).
use Rattle.std.specs.Prelude.{Option, Some, None}
use Rattle.message.specs.Messages.{Text}
use Rattle.module_words.specs.function.Faults.{FunctionReason, means_nothing}
use Rattle.module_words.specs.subcommands.Elsewhere.{elsewhere}
use Rattle.module_words.specs.subcommands.Meanings.{WordReason, no_option, unknown}
use Rattle.module_words.specs.subcommands.OtherOptions.{option_elsewhere}

-- a sentence for a word that no subcommand has as its name or near it, and for an option that there isn't
abbrev pub on_word : WordReason → Option Text
on_word (unknown word) = Some (elsewhere word)
on_word (no_option word) = Some (option_elsewhere word)
on_word reason = None

-- a sentence for such a word; other refusals have none
abbrev pub advice_on : Option FunctionReason → Option Text
advice_on (Some (means_nothing reason)) = on_word reason
advice_on reason = None
