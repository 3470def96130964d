use Rattle.std.proofs.Common.{rules, tests, string_bytes, ◌∙◌}
use Rattle.std.proofs.lemmas.Iterator.Search.{any_from_yields_List}
use Rattle.std.proofs.lemmas.Iterator.{YieldsList-from_slice}
use Rattle.std.specs.declared.string.String.{String}
use Rattle.std.specs.declared.alloc.Global.{Global}
use Rattle.modulename.specs.ModuleName.{means}
use Rattle.envvars.specs.Texts.{Text}
use Rattle.requests.proofs.ListLemmas.{any_seen}
use Rattle.audit_site.proofs.excluded.is_excluded.Goals as goal

pub returns : goal.returns
returns c =
    any_from_yields_List (λ (x : String Global). means (string_bytes x) c.args.name.now) _ _ c.any.result
    c.any.ensures.ran (YieldsList-from_slice c.args.without.now cc) (λ x b q k. search (rules, tests))
    ∙ any_seen (λ (given : Text). means given c.args.name.now) (λ (s : String Global). string_bytes s) c.args.without.now
