use Rattle.std.proofs.Common.{rules, tests, string_bytes, String, ◌∙◌}
use Rattle.std.specs.declared.alloc.Global.{Global}
use Rattle.std.proofs.lemmas.Iterator.Search.{any_from_yields_List}
use Rattle.std.proofs.lemmas.Iterator.{YieldsList-from_slice}
use Rattle.envvars.specs.Texts.{Text}
use Rattle.modulename.specs.ModuleName.{means}
use Rattle.requests.proofs.ListLemmas.{any_seen}
use Rattle.module_auto.proofs.said.is_meant.Goals as goal

pub returns : goal.returns
returns c =
    any_from_yields_List (λ (x : String Global). means (string_bytes x) c.args.full.now) _ _ c.any.result
    c.any.ensures.ran (YieldsList-from_slice c.args.names.now cc) (λ x b q k. search (rules, tests))
    ∙ any_seen (λ (x : Text). means x c.args.full.now) (λ (s : String Global). string_bytes s) c.args.names.now
