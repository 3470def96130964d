use Rattle.module_words.specs.function.Asked.{command_view}
use Rattle.module_commands.proofs.AnswerLemmas.{exchange_refused}
use Rattle.module_commands.proofs.answering.answer_exchange.Goals as goal

pub returns-in-Err : goal.returns-in-Err
returns-in-Err g c =
    exchange_refused _ c.args.asking.now (command_view c.args.unloads.now) (command_view c.args.loads.now) c.refused_with_way_out-answer.result c.refused_with_way_out-answer.ensures
