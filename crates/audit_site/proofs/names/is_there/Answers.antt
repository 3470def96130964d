use Rattle.std.proofs.Common.{rules, tests, string_bytes, map, ◌∙◌}
use Rattle.std.proofs.lemmas.Iterator.Search.{any_from_yields_List}
use Rattle.std.proofs.lemmas.Iterator.{YieldsList-from_slice}
use Rattle.std.specs.declared.alloc.Global.{Global}
use Rattle.std.specs.declared.string.String.{String}
use Rattle.std.specs.declared.vec.Vec.{Vec}
use Rattle.envvars.specs.Texts.{texts_in}
use Rattle.requests.proofs.ListLemmas.{any_seen}
use Rattle.std.specs.Prelude.{bytes_eq}
use Rattle.audit_laws.specs.determinism.Contexts.{same_by}
use Rattle.audit_site.proofs.names.is_there.Goals as goal

pub returns : goal.returns
returns c =
    let is = same_by bytes_eq (map string_bytes c.args.names.now) in
    any_from_yields_List (λ (x : Vec (String Global) Global). is (texts_in x)) _ _ c.any.result
    c.any.ensures.ran (YieldsList-from_slice c.args.all.now cc) (λ x b q k. search (rules, tests))
    ∙ any_seen is texts_in c.args.all.now
