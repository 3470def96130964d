use Rattle.std.proofs.Common.{◌≡◌, ◌+◌, ◌-◌, ◌≤◌, length}
use Rattle.std.specs.Option.{option_map, option_or}
use Rattle.tclvalue.specs.Searches.{last_position}
use Rattle.tclvalue.proofs.searches.last_position.Given as goal

abbrev pub invariant-loop-rest : goal.invariant-loop-rest
invariant-loop-rest l = record {
  is_within : length l.rest ≤ length l.text;
  is_so_far : last_position l.sought l.text ≡ option_or (option_map (λ k. length l.text - length l.rest + k) (last_position l.sought l.rest)) l.last;
}

abbrev pub decreases-loop-rest : goal.decreases-loop-rest
decreases-loop-rest l = length l.rest
