use Rattle.module_words.specs.declared.subcommands.usage.TheConstants.{USAGE, VERSION}
use Rattle.module_words.specs.function.Asked.{command_view}
use Rattle.module_commands.proofs.AnswerLemmas.{command_refused}
use Rattle.module_commands.proofs.answering.answer_command.Goals as goal

pub returns-in-Err : goal.returns-in-Err
returns-in-Err g c =
    command_refused _ _ _ _ _ _ _ USAGE.now VERSION.now c.args.asking.now (command_view c.args.command.now) c.refused_with_way_out-answer.result c.refused_with_way_out-answer.ensures
