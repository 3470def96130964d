use Rattle.std.proofs.Common.{◌≡◌, ◌++◌, ◌-◌, ◌≤◌, take, drop, map, length, string_bytes}
use Rattle.tclrules.specs.Forms.{options}
use Rattle.tclforms.proofs.switch.split_options.Given as goal

abbrev pub invariant-loop-rest : goal.invariant-loop-rest
invariant-loop-rest l = record {
  within : length l.rest ≤ length l.fn.words;
  is : l.rest ≡ drop (length l.fn.words - length l.rest) l.fn.words;
  same : options (map string_bytes l.fn.words) ≡ (
    map string_bytes (take (length l.fn.words - length l.rest) l.fn.words)
        ++ (options (map string_bytes l.rest)).0,
    (options (map string_bytes l.rest)).1,
  );
}

abbrev pub decreases-loop-rest : goal.decreases-loop-rest
decreases-loop-rest l = length l.rest
