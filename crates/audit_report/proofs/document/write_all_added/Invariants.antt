use Rattle.std.proofs.Common.{flat_map, take}
use Rattle.json.specs.Tree.{json_tokens}
use Rattle.audit_report.specs.Documents.{added_value}
use Rattle.audit_report.specs.Tokens.{AddsTokens}
use Rattle.audit_report.proofs.document.write_all_added.Given as goal

abbrev pub invariant-loop-added : goal.invariant-loop-added
invariant-loop-added l = AddsTokens l.initial.writer l.writer (flat_map (λ x. json_tokens (added_value x)) (take l.added-index l.dirs))
