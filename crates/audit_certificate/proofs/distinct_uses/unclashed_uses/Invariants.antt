use Rattle.std.proofs.Common.{◌≡◌, List, map}
use Rattle.std.specs.Iterator.Adapters.{zip_first, zip_second}
use Rattle.std.specs.Slice.Iter.{iter_rest}
use Rattle.indexmap.specs.IndexSet.{insert_all}
use Rattle.reversal.specs.VariableUses.{UsedVariable}
use Rattle.audit_certificate.specs.EachOnce.{same_used, each_once}
use Rattle.audit_certificate.specs.UseKeys.{HasUses}
use Rattle.audit_certificate.specs.UsingModules.{candidate_in}
use Rattle.audit_certificate.proofs.OnceLemmas.{unclashed}
use Rattle.audit_certificate.proofs.distinct_uses.unclashed_uses.Given as goal

-- those so far, and those of the rest
abbrev pub invariant-loop-candidate : goal.invariant-loop-candidate
invariant-loop-candidate l =
    (ps : List UsedVariable) × HasUses l.once ps
    × (insert_all same_used ps (unclashed (map candidate_in (iter_rest (zip_first l.candidate-iterator))) (iter_rest (zip_second l.candidate-iterator)))
    ≡ each_once (unclashed (map candidate_in l.users) l.answers))
