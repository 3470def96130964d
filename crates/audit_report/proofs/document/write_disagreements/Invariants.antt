use Rattle.std.proofs.Common.{flat_map, take}
use Rattle.json.specs.Tree.{json_tokens}
use Rattle.audit_report.specs.Documents.{disagreement_value}
use Rattle.audit_report.specs.Tokens.{AddsTokens}
use Rattle.audit_report.proofs.document.write_disagreements.Given as goal

abbrev pub invariant-loop-reason : goal.invariant-loop-reason
invariant-loop-reason l = AddsTokens l.initial.writer l.writer (flat_map (λ x. json_tokens (disagreement_value x)) (take l.reason-index l.reasons))
