use Rattle.std.proofs.Common.{map}
use Rattle.std.proofs.lemmas.Result.{err_from_is_err_and}
use Rattle.envstate.specs.declared.paths.adding.End.TheVariants.{Back}
use Rattle.module_collections.specs.texts.Lines.{with_used}
use Rattle.module_collections.specs.texts.WordViews.{word_view}
use Rattle.module_collections.specs.texts.Views.{kept_view, line_reason}
use Rattle.module_collections.proofs.texts.Turns.{used_turn, used_stop, used_end}
use Rattle.module_collections.proofs.texts.collection.Collection.add_used.Goals as goal

pub loop-word-preserved : goal.loop-word-preserved
loop-word-preserved c =
    used_turn c.args.words.now c.loop-word.word-index c.word-item.result c.loop-word.end c.in_ok-end.end (kept_view c.loop-word.self) (kept_view c.add_used_word.new.self)
    (with_used (map word_view c.args.words.now) Back (kept_view c.args.self.now)) c.loop-word-test.true c.word-item.is c.in_ok-end.ensures c.loop-word.invariant

pub returns-in_err-end : goal.returns-in_err-end
returns-in_err-end c =
    let p = err_from_is_err_and c.from_residual.result c.from_residual.ensures.1 in
    rw (p.1, p.2) (used_stop c.args.words.now c.loop-word.word-index c.word-item.result c.loop-word.end (kept_view c.loop-word.self)
    (with_used (map word_view c.args.words.now) Back (kept_view c.args.self.now)) (line_reason c.in_err-end.field-0.0) c.loop-word-test.true c.word-item.is
    c.in_err-end.ensures c.loop-word.invariant)

pub returns : goal.returns
returns c =
    used_end c.args.words.now c.loop-word.word-index c.loop-word.end (kept_view c.loop-word.self)
    (with_used (map word_view c.args.words.now) Back (kept_view c.args.self.now)) c.loop-word-test.false c.loop-word.invariant
