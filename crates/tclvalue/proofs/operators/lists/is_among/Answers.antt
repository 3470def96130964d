use Rattle.std.proofs.Common.{◌≡◌, List, [], ◌∷◌, ◌||◌, map, bytes_eq, string_bytes, String, refl, ap, ◌∙◌, rules}
use Rattle.std.proofs.Common.{tests}
use Rattle.std.specs.List.{list_any}
use Rattle.std.specs.declared.alloc.Global.{Global}
use Rattle.std.proofs.lemmas.Iterator.{YieldsList-from_slice}
use Rattle.std.proofs.lemmas.Iterator.Search.{any_from_yields_List}
use Rattle.tcltext.specs.chars.Runs.{Text}
use Rattle.tclvalue.proofs.operators.lists.is_among.Goals as goal

by_bytes : (sought : Text) (texts : List (String Global)) → list_any (λ text. bytes_eq sought (string_bytes text)) texts ≡ list_any (bytes_eq sought) (map string_bytes texts)
by_bytes sought [] = refl
by_bytes sought (x ∷ xs) = ap (λ b. bytes_eq sought (string_bytes x) || b) (by_bytes sought xs)

pub returns : goal.returns
returns c =
    any_from_yields_List (λ (text : String Global). bytes_eq c.args.sought.now (string_bytes text)) _ _ c.any.result
    c.any.ensures.ran (YieldsList-from_slice c.args.texts.now cc) (λ x b q k. search (rules, tests))
    ∙ by_bytes c.args.sought.now c.args.texts.now
