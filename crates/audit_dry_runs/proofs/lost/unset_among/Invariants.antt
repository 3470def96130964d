use Rattle.std.proofs.Common.{◌≡◌, map, string_bytes, take}
use Rattle.envvars.specs.Texts.{texts_in}
use Rattle.audit_dry_runs.specs.DryRuns.{unset_among}
use Rattle.audit_dry_runs.proofs.lost.unset_among.Given as goal

abbrev pub invariant-loop-name : goal.invariant-loop-name
invariant-loop-name l = texts_in l.unset ≡ unset_among l.env (map string_bytes (take l.name-index l.names))
