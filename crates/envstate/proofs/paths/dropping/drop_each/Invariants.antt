use Rattle.std.proofs.Common.{◌≡◌, List, false, drop}
use Rattle.envvars.specs.Texts.{Text, slice_texts}
use Rattle.envstate.specs.paths.Paths.{drop_all}
use Rattle.envstate.specs.paths.Tables.{counter_in, state_from_table, HaveSameElements, kept}
use Rattle.envstate.proofs.paths.dropping.drop_each.Given as goal

-- with the rest dropped too, all are; and none left where none may have
abbrev pub invariant-loop-element : goal.invariant-loop-element
invariant-loop-element l = record {
  dropped : (xs : List Text) → drop_all (state_from_table (kept xs (counter_in l.counters)) (counter_in l.counters))
      (slice_texts (drop l.element-index l.less)) ≡ drop_all
      (state_from_table (kept xs (counter_in l.fn.counters)) (counter_in l.fn.counters)) (slice_texts l.less);
  one_is_gone : l.one_is_gone ≡ false → HaveSameElements (counter_in l.fn.counters) (counter_in l.counters);
}
