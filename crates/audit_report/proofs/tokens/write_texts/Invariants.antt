use Rattle.std.proofs.Common.{flat_map, take}
use Rattle.json.specs.Tree.{json_tokens}
use Rattle.audit_report.specs.Documents.{text_value}
use Rattle.audit_report.specs.Tokens.{AddsTokens}
use Rattle.audit_report.proofs.tokens.write_texts.Given as goal

abbrev pub invariant-loop-text : goal.invariant-loop-text
invariant-loop-text l = AddsTokens l.initial.writer l.writer (flat_map (λ x. json_tokens (text_value x)) (take l.text-index l.texts))
