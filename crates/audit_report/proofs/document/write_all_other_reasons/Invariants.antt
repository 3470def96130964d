use Rattle.std.proofs.Common.{flat_map, take}
use Rattle.json.specs.Tree.{json_tokens}
use Rattle.audit_report.specs.Documents.{other_reasons_value}
use Rattle.audit_report.specs.Tokens.{AddsTokens}
use Rattle.audit_report.proofs.document.write_all_other_reasons.Given as goal

abbrev pub invariant-loop-other_reasons : goal.invariant-loop-other_reasons
invariant-loop-other_reasons l = AddsTokens l.initial.writer l.writer (flat_map (λ x. json_tokens (other_reasons_value x)) (take l.other_reasons-index l.standings))
