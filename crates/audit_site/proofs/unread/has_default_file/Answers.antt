use Rattle.std.proofs.Common.{Option, rules, tests, bytes_eq, string_bytes, sym, ap, ◌∙◌}
use Rattle.std.proofs.lemmas.Iterator.Search.{any_from_yields_List}
use Rattle.std.proofs.lemmas.Iterator.{YieldsList-from_slice}
use Rattle.std.specs.declared.string.String.{String}
use Rattle.std.specs.declared.alloc.Global.{Global}
use Rattle.envvars.specs.Texts.{Text}
use Rattle.requests.proofs.ListLemmas.{any_seen}
use Rattle.std.specs.declared.vec.Vec.{Vec}
use Rattle.filetree.specs.Agreement.{listing_answer}
use Rattle.audit_site.specs.Unread.{default_file, has_default_file}
use Rattle.audit_site.proofs.unread.has_default_file.Goals as goal

pub returns-in-Some : goal.returns-in-Some
returns-in-Some c =
    any_from_yields_List (λ (x : String Global). bytes_eq default_file (string_bytes x)) _ _ c.any.result
    c.any.ensures.ran (YieldsList-from_slice c.in-Some.names.items cc) (λ x b q k. search (rules, tests))
    ∙ (any_seen (λ (name : Text). bytes_eq default_file name) (λ (s : String Global). string_bytes s) c.in-Some.names.items
    ∙ sym (ap (λ (o : Option (Vec (String Global) Global)). has_default_file (listing_answer o)) c.in-Some.is))
