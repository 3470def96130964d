use Rattle.std.proofs.Common.{codes, map, string_bytes, String}
use Rattle.std.specs.declared.alloc.Global.{Global}
use Rattle.requests.specs.RequestViews.{action_view}
use Rattle.module_explain.specs.AdviceLines.{automated_text}
use Rattle.module_explain.proofs.LineLemmas.{joined}
use Rattle.module_explain.proofs.advice_lines.push_try_automated.Goals as goal

pub returns : goal.returns
returns c =
    joined (string_bytes c.args.text.now) (codes "Try: module ") (automated_text (map (λ (s : String Global). string_bytes s) c.args.asked.now) (action_view c.args.action.now)) (string_bytes c.push_str.new.self) (string_bytes c.push_automated.new.text)
    c.in_ok-push_str.ensures.bytes c.in_ok-push_automated.ensures
