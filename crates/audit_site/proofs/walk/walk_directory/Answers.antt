use Rattle.std.proofs.lemmas.Result.{err_from_is_err_and}
use Rattle.audit_site.proofs.walk.walk_directory.Goals as goal

pub returns-clause-walked : goal.returns-clause-walked
returns-clause-walked g c = λ alone files listings k.
    record {
      below = c.in_ok-below.below.items;
      evaluated = c.in_ok-below.ensures.evaluated alone files listings k;
      found = rw c.as_slice.ensures.value at c.in_ok-push_found.ensures;
      kept = c.in_ok-append.ensures.items;
    }

pub returns-in_err-push_found-clause-failed : goal.returns-in_err-push_found-clause-failed
returns-in_err-push_found-clause-failed g c =
    let p = err_from_is_err_and c.from_residual-in_err-push_found.result c.from_residual-in_err-push_found.ensures.1 in
    rw (p.1, p.2) c.in_ok-below.ensures.failed
