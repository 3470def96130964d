use Rattle.std.proofs.Common.{codes, string_bytes}
use Rattle.requests.specs.RequestViews.{action_view}
use Rattle.module_explain.specs.AdviceLines.{action_text}
use Rattle.module_explain.proofs.LineLemmas.{joined}
use Rattle.module_explain.proofs.advice_lines.push_try.Goals as goal

pub returns : goal.returns
returns c =
    joined (string_bytes c.args.text.now) (codes "Try: module ") (action_text (action_view c.args.action.now)) (string_bytes c.push_str.new.self) (string_bytes c.push_action.new.text)
    c.in_ok-push_str.ensures.bytes c.in_ok-push_action.ensures
