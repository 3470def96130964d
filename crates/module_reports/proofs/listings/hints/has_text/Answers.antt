use Rattle.std.proofs.Common.{not, rules, tests, string_bytes, String, ◌∙◌}
use Rattle.std.specs.declared.alloc.Global.{Global}
use Rattle.std.proofs.lemmas.Iterator.Search.{any_from_yields_List}
use Rattle.std.proofs.lemmas.Iterator.{YieldsList-from_slice}
use Rattle.envvars.specs.Texts.{Text}
use Rattle.module_words.specs.subcommands.Meanings.{is_option}
use Rattle.module_reports.proofs.listings.ListLemmas.{any_seen}
use Rattle.module_reports.proofs.listings.hints.has_text.Goals as goal

pub returns : goal.returns
returns c =
    any_from_yields_List (λ (x : String Global). not (is_option (string_bytes x))) _ _ c.any.result
    c.any.ensures.ran (YieldsList-from_slice c.args.words.now cc) (λ x b q k. search (rules, tests))
    ∙ any_seen (λ (x : Text). not (is_option x)) (λ (s : String Global). string_bytes s) c.args.words.now
