use Rattle.std.proofs.Common.{◌≡◌, ◌++◌, map}
use Rattle.envvars.specs.Changes.{new_value_of, new_values_in}
use Rattle.envvars.specs.Texts.{texts_in}
use Rattle.audit_dry_runs.proofs.dry_run.names_of.Given as goal

-- the names so far, and those of the changes that are left
abbrev pub invariant-loop-change : goal.invariant-loop-change
invariant-loop-change l =
    texts_in l.names ++ map (λ c. c.0) (map new_value_of l.change-iterator.rest.items)
    ≡ map (λ c. c.0) (new_values_in l.fn.changes)
