use Rattle.std.proofs.Common.{◌≡◌, ◌+◌, ◌-◌, ◌≤◌, length}
use Rattle.std.specs.Option.{option_map}
use Rattle.tclvalue.specs.Searches.{first_position}
use Rattle.tclvalue.proofs.searches.first_position.Given as goal

abbrev pub invariant-loop-rest : goal.invariant-loop-rest
invariant-loop-rest l = record {
  is_within : length l.rest ≤ length l.text;
  is_so_far : first_position l.sought l.text ≡ option_map (λ k. length l.text - length l.rest + k) (first_position l.sought l.rest);
}

abbrev pub decreases-loop-rest : goal.decreases-loop-rest
decreases-loop-rest l = length l.rest
