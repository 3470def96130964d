use Rattle.envvars.specs.Texts.{texts_in}
use Rattle.module_words.specs.function.Asked.{command_view}
use Rattle.module_commands.proofs.AnswerLemmas.{move_explained}
use Rattle.module_commands.proofs.explaining.explained_move.Goals as goal

pub returns-in-Ok : goal.returns-in-Ok
returns-in-Ok g c =
    move_explained (g.T.Tree.agrees c.refused_words.new.tree) (g.T.Tree.agrees c.explain_words.new.tree) c.explain_words.ensures.reads.narrows c.args.asking.now c.args.env.now
    (command_view c.args.command.now) (texts_in c.in-Ok.words) c.explain_words.result c.in-Ok.ensures.words (rw c.as_slice.ensures.value at c.explain_words.ensures.explains)
