use Rattle.std.proofs.Common.{◌≡◌, drop, map}
use Rattle.envstate.specs.declared.paths.adding.End.TheVariants.{Back}
use Rattle.module_collections.specs.texts.Lines.{with_used}
use Rattle.module_collections.specs.texts.Views.{kept_view}
use Rattle.module_collections.specs.texts.WordViews.{word_view}
use Rattle.module_collections.proofs.texts.collection.Collection.add_used.Given as goal

abbrev pub invariant-loop-word : goal.invariant-loop-word
invariant-loop-word l = with_used (map word_view (drop l.word-index l.words)) l.end (kept_view l.self) ≡ with_used (map word_view l.words) Back (kept_view l.initial.self)
