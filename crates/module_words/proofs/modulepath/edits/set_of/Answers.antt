use Rattle.std.proofs.Common.{ap}
use Rattle.envvars.specs.Texts.{slice_texts}
use Rattle.envvars.specs.Fields.{without_repeats}
use Rattle.envvars.proofs.FieldLemmas.{without_repeats-start, without_repeats-turn, slice_texts-insert_key}
use Rattle.module_words.proofs.modulepath.edits.set_of.Goals as goal

pub loop-text-init : goal.loop-text-init
loop-text-init c = without_repeats-start _ (without_repeats (slice_texts c.args.texts.now)) (ap slice_texts c.in_ok-set.ensures.empty)

pub loop-text-preserved : goal.loop-text-preserved
loop-text-preserved c =
    without_repeats-turn (slice_texts c.loop-text.set.keys) (slice_texts c.insert.new.self.keys)
    (without_repeats (slice_texts c.args.texts.now)) c.args.texts.now c.loop-text.text-index _ c.loop-text-test.true
    (slice_texts-insert_key c.loop-text.set.keys c.insert.new.self.keys _ c.in_ok-insert.ensures.keys) c.loop-text.invariant
