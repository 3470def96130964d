use Rattle.std.proofs.Common.{map}
use Rattle.std.proofs.lemmas.Result.{err_from_is_err_and}
use Rattle.module_collections.specs.texts.Lines.{with_loaded}
use Rattle.module_collections.specs.texts.WordViews.{word_view}
use Rattle.module_collections.specs.texts.Views.{kept_view, line_reason}
use Rattle.module_collections.proofs.texts.Turns.{loaded_turn, loaded_stop, loaded_end}
use Rattle.module_collections.proofs.texts.collection.Collection.add_loaded.Goals as goal

pub loop-word-preserved : goal.loop-word-preserved
loop-word-preserved c =
    loaded_turn c.args.words.now c.loop-word.word-index c.word-item.result (kept_view c.loop-word.self) (kept_view c.add_loaded_word.new.self)
    (with_loaded (map word_view c.args.words.now) (kept_view c.args.self.now)) c.loop-word-test.true c.word-item.is c.in_ok-add_loaded_word.ensures c.loop-word.invariant

pub returns-in_err-add_loaded_word : goal.returns-in_err-add_loaded_word
returns-in_err-add_loaded_word c =
    let p = err_from_is_err_and c.from_residual.result c.from_residual.ensures.1 in
    rw (p.1, p.2) (loaded_stop c.args.words.now c.loop-word.word-index c.word-item.result (kept_view c.loop-word.self)
    (with_loaded (map word_view c.args.words.now) (kept_view c.args.self.now)) (line_reason c.in_err-add_loaded_word.field-0.0) c.loop-word-test.true c.word-item.is
    c.in_err-add_loaded_word.ensures c.loop-word.invariant)

pub returns : goal.returns
returns c =
    loaded_end c.args.words.now c.loop-word.word-index (kept_view c.loop-word.self)
    (with_loaded (map word_view c.args.words.now) (kept_view c.args.self.now)) c.loop-word-test.false c.loop-word.invariant
