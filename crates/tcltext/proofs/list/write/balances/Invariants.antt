use Rattle.std.proofs.Common.{◌≡◌, ◌≤◌, drop}
use Rattle.tcltext.specs.list.Lists.{balances}
use Rattle.tcltext.proofs.list.write.balances.Given as goal

abbrev pub invariant-loop-b : goal.invariant-loop-b
invariant-loop-b l = record {
  few : l.depth ≤ l.b-index;
  found : balances 0 l.bytes ≡ balances l.depth (drop l.b-index l.bytes);
}
