use Rattle.module_words.specs.declared.subcommands.usage.TheConstants.{USAGE, VERSION}
use Rattle.module_commands.proofs.AnswerLemmas.{words_refused}
use Rattle.module_commands.proofs.answering.answer_words.Goals as goal

pub returns-in-Err : goal.returns-in-Err
returns-in-Err g c =
    words_refused _ _ _ _ _ _ _ USAGE.now VERSION.now c.args.asking.now _ c.in-Err.fault c.refused_words.result c.in-Err.ensures c.refused_words.ensures
