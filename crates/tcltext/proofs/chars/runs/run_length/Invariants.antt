use Rattle.std.proofs.Common.{◌≡◌, ◌+◌, drop}
use Rattle.std.specs.List.{prefix_len}
use Rattle.tcltext.specs.chars.Classes.{in_class}
use Rattle.tcltext.proofs.chars.runs.run_length.Given as goal

abbrev pub invariant-loop-n : goal.invariant-loop-n
invariant-loop-n l = prefix_len (in_class l.class) l.bytes ≡ l.n + prefix_len (in_class l.class) (drop l.n l.bytes)
