use Rattle.std.proofs.Common.{◌≡◌, ◌++◌, List, drop, string_bytes}
use Rattle.std.specs.Prelude.{flat_map}
use Rattle.envvars.specs.Texts.{Text, slice_texts}
use Rattle.envvars.specs.Fields.{text_of_elements, without_repeats}
use Rattle.envstate.specs.paths.Tables.{counter_in, count_in, pair_fields, unless_empty}
use Rattle.envstate.proofs.paths.writing.counters_text.Given as goal

-- the text is of some fields, and those of the rest complete them
abbrev pub invariant-loop-element : goal.invariant-loop-element
invariant-loop-element l =
    (fs : List Text) × (unless_empty (string_bytes l.text) ≡ text_of_elements fs)
    × (fs ++ flat_map (pair_fields (count_in (counter_in l.counters)))
    (without_repeats (slice_texts (drop l.element-index l.elements))) ≡ flat_map
    (pair_fields (count_in (counter_in l.fn.counters))) (without_repeats (slice_texts l.elements)))
