use Rattle.std.proofs.Common.{◌≡◌, List, [], ◌∷◌, ◌||◌, map, bytes_eq, string_bytes, String, refl, ap, ◌∙◌, rules}
use Rattle.std.proofs.Common.{tests}
use Rattle.std.specs.List.{list_any}
use Rattle.std.specs.declared.alloc.Global.{Global}
use Rattle.std.proofs.lemmas.Iterator.{YieldsList-from_slice}
use Rattle.std.proofs.lemmas.Iterator.Search.{any_from_yields_List}
use Rattle.modulename.specs.ModuleName.{Text}
use Rattle.search.proofs.paths.has.Goals as goal

by_bytes : (name : Text) (names : List (String Global)) → list_any (λ other. bytes_eq name (string_bytes other)) names ≡ list_any (bytes_eq name) (map string_bytes names)
by_bytes name [] = refl
by_bytes name (x ∷ xs) = ap (λ b. bytes_eq name (string_bytes x) || b) (by_bytes name xs)

pub returns : goal.returns
returns c =
    any_from_yields_List (λ (other : String Global). bytes_eq c.args.name.now (string_bytes other)) _ _ c.any.result
    c.any.ensures.ran (YieldsList-from_slice c.args.names.now cc) (λ x b q k. search (rules, tests))
    ∙ by_bytes c.args.name.now c.args.names.now
