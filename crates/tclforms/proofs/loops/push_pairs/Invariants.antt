use Rattle.std.proofs.Common.{◌≡◌, ◌++◌, map, drop, string_bytes}
use Rattle.std.specs.Slice.Iter.{iter_rest}
use Rattle.tclrules.specs.Rules as rules
use Rattle.tclforms.specs.ArgumentViews.{named_values}
use Rattle.tclforms.proofs.loops.push_pairs.Given as goal

abbrev pub invariant-loop-name : goal.invariant-loop-name
invariant-loop-name l = named_values l.out.items ++ rules.pairs (map string_bytes (drop l.name-index l.names)) (map string_bytes (iter_rest l.items)) ≡
    named_values l.initial.out.items ++ rules.pairs (map string_bytes l.names) (map string_bytes l.fn.items)
