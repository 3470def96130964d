use Rattle.std.proofs.Common.{arith, rules, tests}
use Rattle.std.proofs.lemmas.Iterator.Search.{any_from_yields_List}
use Rattle.std.proofs.lemmas.Iterator.Splits.{YieldsList-from_str_split}
use Rattle.module_reports.specs.descriptions.Mentions.{is_in_line}
use Rattle.module_reports.proofs.descriptions.mentions.is_mentioned.Goals as goal

pub returns : goal.returns
returns c =
    any_from_yields_List (is_in_line c.args.text.now) _ _ c.any.result c.any.ensures.ran
    (YieldsList-from_str_split {s = c.split.result} 10 c.args.report.now (omega arith) c.split.ensures.text c.split.ensures.has_more c.split.ensures.pattern)
    (λ x b q k. search (rules, tests))
