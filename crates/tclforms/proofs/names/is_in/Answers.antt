use Rattle.std.proofs.Common.{◌≡◌, List, [], ◌∷◌, ◌||◌, Bor, map, bytes_eq, refl, ap, ◌∙◌, rules, tests}
use Rattle.std.specs.List.{list_any}
use Rattle.std.proofs.lemmas.Iterator.{YieldsList-from_slice}
use Rattle.std.proofs.lemmas.Iterator.Search.{any_from_yields_List}
use Rattle.tcltext.specs.chars.Runs.{Text}
use Rattle.tclrules.specs.Names.{is_among}
use Rattle.tclforms.proofs.names.is_in.Goals as goal

by_text : (name : Text) (names : List (Bor Text)) → list_any (λ known. bytes_eq name known.now) names ≡ is_among (map (λ n. n.now) names) name
by_text name [] = refl
by_text name (n ∷ ns) = ap (λ b. bytes_eq name n.now || b) (by_text name ns)

pub returns : goal.returns
returns c =
    any_from_yields_List (λ (known : Bor Text). bytes_eq c.args.name.now known.now) _ _ c.any.result c.any.ensures.ran (YieldsList-from_slice c.args.names.now cc) (λ x b q k. search (rules, tests))
    ∙ by_text c.args.name.now c.args.names.now
