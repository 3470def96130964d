use Rattle.std.proofs.Common.{rules, tests, string_bytes, bytes_eq, String, ◌∙◌}
use Rattle.std.specs.declared.alloc.Global.{Global}
use Rattle.std.proofs.lemmas.Iterator.Search.{any_from_yields_List}
use Rattle.std.proofs.lemmas.Iterator.{YieldsList-from_slice}
use Rattle.envvars.specs.Texts.{Text}
use Rattle.requests.proofs.ListLemmas.{any_seen}
use Rattle.module_auto.proofs.spent.was_added.Goals as goal

pub returns : goal.returns
returns c =
    any_from_yields_List (λ (x : String Global). bytes_eq c.args.name.now (string_bytes x)) _ _ c.any.result
    c.any.ensures.ran (YieldsList-from_slice c.args.added.now cc) (λ x b q k. search (rules, tests))
    ∙ any_seen (λ (x : Text). bytes_eq c.args.name.now x) (λ (s : String Global). string_bytes s) c.args.added.now
