use Rattle.std.proofs.Common.{◌≡◌, ◌++◌, drop, map, string_bytes}
use Rattle.tclvalue.specs.Growing.{StaysWithin}
use Rattle.tclvalue.specs.Characters.{joined_rest}
use Rattle.tclvalue.proofs.lists.push_joined_rest.Given as goal

abbrev pub invariant-loop-text : goal.invariant-loop-text
invariant-loop-text l = record {
  limit_stays : l.out.limit ≡ l.fn.out.limit;
  is_within : StaysWithin l.fn.out l.out;
  is_so_far : string_bytes l.out.text ++ joined_rest l.separator (map string_bytes (drop l.text-index l.texts)) ≡ string_bytes l.fn.out.text ++ joined_rest l.separator (map string_bytes l.texts);
}
