use Rattle.std.proofs.Common.{List, map, reverse, string_bytes, String, ap, ◌∙◌}
use Rattle.std.specs.declared.alloc.Global.{Global}
use Rattle.envvars.specs.Texts.{Text}
use Rattle.requests.proofs.ListLemmas.{names_reverse}
use Rattle.modules.proofs.step.names_in_reverse.Goals as goal

pub returns : goal.returns
returns c =
    ap (λ (xs : List (String Global)). map (λ (s : String Global). string_bytes s) xs) c.reverse.ensures.items
    ∙ (names_reverse c.in_ok-names.names.items ∙ ap (λ (ts : List Text). reverse ts) c.in_ok-names.ensures)
