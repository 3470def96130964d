use Rattle.std.proofs.Common.{◌≡◌, ◌++◌, map, take, string_bytes}
use Rattle.audit_certificate.specs.Candidates.{read_of}
use Rattle.audit_certificate.specs.UseViews.{used_view}
use Rattle.audit_certificate.proofs.uses.push_reads.Given as goal

abbrev pub invariant-loop-variable : goal.invariant-loop-variable
invariant-loop-variable l = map used_view l.used.items ≡ map used_view l.fn.used.items ++ map read_of (map string_bytes (take l.variable-index l.reads))
