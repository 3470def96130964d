use Rattle.std.proofs.Common.{rules, tests, string_bytes, ◌∙◌}
use Rattle.std.proofs.lemmas.Iterator.Search.{any_from_yields_List}
use Rattle.std.proofs.lemmas.Iterator.{YieldsList-from_slice}
use Rattle.std.specs.declared.string.String.{String}
use Rattle.std.specs.declared.alloc.Global.{Global}
use Rattle.audit_site.specs.Mentions.{known_in}
use Rattle.requests.proofs.ListLemmas.{any_seen}
use Rattle.audit_site.proofs.names.has_meaning.Goals as goal

pub returns : goal.returns
returns c =
    any_from_yields_List (λ (x : String Global). known_in c.args.meaning.now.keys (string_bytes x)) _ _ c.any.result
    c.any.ensures.ran (YieldsList-from_slice c.args.names.now cc) (λ x b q k. search (rules, tests))
    ∙ any_seen (known_in c.args.meaning.now.keys) (λ (s : String Global). string_bytes s) c.args.names.now
