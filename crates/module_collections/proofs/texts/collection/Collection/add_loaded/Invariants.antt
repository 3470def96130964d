use Rattle.std.proofs.Common.{◌≡◌, drop, map}
use Rattle.module_collections.specs.texts.Lines.{with_loaded}
use Rattle.module_collections.specs.texts.Views.{kept_view}
use Rattle.module_collections.specs.texts.WordViews.{word_view}
use Rattle.module_collections.proofs.texts.collection.Collection.add_loaded.Given as goal

abbrev pub invariant-loop-word : goal.invariant-loop-word
invariant-loop-word l = with_loaded (map word_view (drop l.word-index l.words)) (kept_view l.self) ≡ with_loaded (map word_view l.words) (kept_view l.initial.self)
