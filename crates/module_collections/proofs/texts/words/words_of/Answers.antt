use Rattle.std.proofs.Common.{Result, List, subst}
use Rattle.std.proofs.lemmas.Result.{err_from_is_err_and}
use Rattle.message.specs.Answers.{Gives}
use Rattle.module_collections.specs.texts.Words.{Word, words_of}
use Rattle.module_collections.specs.texts.WordViews.{reading_view, word_reason, words_view}
use Rattle.module_collections.specs.declared.texts.words.WordFault.{WordFault}
use Rattle.module_collections.proofs.texts.Turns.{words_turn, words_stop, words_end}
use Rattle.module_collections.proofs.texts.words.words_of.Goals as goal

pub loop-byte-preserved : goal.loop-byte-preserved
loop-byte-preserved c =
    words_turn c.args.text.now c.loop-byte.byte-index 0 (reading_view c.loop-byte.reader) (reading_view c.read.new.self) (words_of c.args.text.now) c.loop-byte-test.true
    c.in_ok-read.ensures c.loop-byte.invariant

pub returns-in_err-read : goal.returns-in_err-read
returns-in_err-read c =
    let p = err_from_is_err_and c.from_residual.result c.from_residual.ensures.1 in
    rw (p.1, p.2) (words_stop c.args.text.now c.loop-byte.byte-index 0 (reading_view c.loop-byte.reader) (words_of c.args.text.now)
    (word_reason c.in_err-read.field-0.0) c.loop-byte-test.true c.in_err-read.ensures c.loop-byte.invariant)

pub returns : goal.returns
returns c =
    subst (λ (o : Result (List Word) WordFault). Gives word_reason words_view c.end.result o)
    (words_end c.args.text.now c.loop-byte.byte-index (reading_view c.loop-byte.reader) (words_of c.args.text.now) c.loop-byte-test.false c.loop-byte.invariant) c.end.ensures
