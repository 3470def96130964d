use Rattle.std.proofs.Common.{◌≡◌, ◌++◌, length, map, string_bytes}
use Rattle.tclvalue.specs.Growing.{StaysWithin}
use Rattle.tclvalue.specs.Searches.{mapped}
use Rattle.tclvalue.specs.Views.{pair_view}
use Rattle.tclvalue.proofs.searches.push_mapped.Given as goal

abbrev pub invariant-loop-rest : goal.invariant-loop-rest
invariant-loop-rest l = record {
  limit_stays : l.out.limit ≡ l.fn.out.limit;
  is_within : StaysWithin l.fn.out l.out;
  is_so_far : string_bytes l.out.text ++ mapped (map pair_view l.replacements) 0 l.rest ≡ string_bytes l.fn.out.text ++ mapped (map pair_view l.replacements) 0 l.text;
}

abbrev pub decreases-loop-rest : goal.decreases-loop-rest
decreases-loop-rest l = length l.rest
