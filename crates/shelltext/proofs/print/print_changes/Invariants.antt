use Rattle.std.proofs.Common.{◌≡◌, true, string_bytes, take}
use Rattle.std.specs.List.{flat_map, list_all}
use Rattle.envvars.specs.Changes.{new_value_of}
use Rattle.shelltext.specs.Printing.{is_sayable, printed_line}
use Rattle.shelltext.proofs.print.print_changes.Given as goal

abbrev pub invariant-loop-change : goal.invariant-loop-change
invariant-loop-change l = record {
  printed : string_bytes l.out ≡ flat_map (λ c. printed_line l.family (new_value_of c)) (take l.change-index l.changes);
  sayable : list_all (λ c. is_sayable l.family (new_value_of c)) (take l.change-index l.changes) ≡ true;
}
