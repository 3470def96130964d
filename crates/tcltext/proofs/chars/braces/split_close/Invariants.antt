use Rattle.std.proofs.Common.{◌≡◌, ◌≤◌, take, drop, false}
use Rattle.tcltext.specs.chars.Braces.{braced_at}
use Rattle.tcltext.proofs.chars.BraceLemmas.{behind_all}
use Rattle.tcltext.proofs.chars.braces.split_close.Given as goal

abbrev pub invariant-loop-i : goal.invariant-loop-i
invariant-loop-i l = record {
  few : l.depth ≤ l.i;
  found : braced_at false 0 l.bytes ≡ behind_all (take l.i l.bytes) (braced_at l.escaped l.depth (drop l.i l.bytes));
}
