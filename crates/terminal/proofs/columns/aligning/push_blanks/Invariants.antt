use Rattle.std.proofs.Common.{◌≡◌, ◌++◌, replicate}
use Rattle.terminal.proofs.columns.aligning.push_blanks.Given as goal

abbrev pub invariant-loop : goal.invariant-loop
invariant-loop l = l.text.items ≡ l.initial.text.items ++ replicate l.counter 32
