use Rattle.std.proofs.Common.{flat_map, take}
use Rattle.json.specs.Tree.{json_tokens}
use Rattle.audit_report.specs.Documents.{used_value}
use Rattle.audit_report.specs.Tokens.{AddsTokens}
use Rattle.audit_report.proofs.tokens.write_all_used.Given as goal

abbrev pub invariant-loop-used : goal.invariant-loop-used
invariant-loop-used l = AddsTokens l.initial.writer l.writer (flat_map (λ x. json_tokens (used_value x)) (take l.used-index l.certificate))
