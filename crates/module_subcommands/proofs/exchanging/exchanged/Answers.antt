use Rattle.std.proofs.lemmas.Result.{err_from_is_err_and}
use Rattle.module_subcommands.proofs.exchanging.exchanged.Goals as goal

pub returns-in_err-text-clause-refused : goal.returns-in_err-text-clause-refused
returns-in_err-text-clause-refused g c =
    let p = err_from_is_err_and c.from_residual-in_err-text.result c.from_residual-in_err-text.ensures.1 in
    rw (p.1, p.2) (rw (c.as_slice-unloads.ensures.value, c.as_slice-loads.ensures.value) at c.in_err-text.ensures.refused)

pub returns-clause-accepted : goal.returns-clause-accepted
returns-clause-accepted g c = record {
  comes = rw (c.as_slice-unloads.ensures.value, c.as_slice-loads.ensures.value) at c.in_ok-text.ensures.exchanged;
  changes = c.in_ok-text.ensures.changes;
}
