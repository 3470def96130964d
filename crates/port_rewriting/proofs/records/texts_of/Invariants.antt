use Rattle.std.proofs.Common.{take}
use Rattle.port_rewriting.specs.RecordViews.{AreTexts, texts_in}
use Rattle.port_rewriting.proofs.records.texts_of.Given as goal

abbrev pub invariant-loop-word : goal.invariant-loop-word
invariant-loop-word l = AreTexts (take l.word-index l.words) (texts_in l.texts)
