use Rattle.envvars.specs.Texts.{texts_in}
use Rattle.modules.specs.declared.done.RememberedMoves.{WithLast}
use Rattle.modules.specs.MoveViews.{move_view, moves_of}
use Rattle.modules.proofs.MoveLemmas.{moves_more, named_on}
use Rattle.modules.proofs.done.RequestResults.continue_with.Goals as goal

pub invariant_of-self-2 : goal.invariant_of-self-2
invariant_of-self-2 c = record {
  named = named_on (moves_of c.args.self.now.moves) (moves_of (WithLast c.of.result c.of-last.result)) (texts_in c.args.self.now.loaded) (texts_in c.push_loaded.new.names) (move_view c.args.new_move)
      c.args.self.now.named (moves_more c.of.result c.of-last.result c.args.self.now.moves c.args.new_move c.of.ensures c.of-last.ensures) c.in_ok-push_loaded.ensures.added;
}
