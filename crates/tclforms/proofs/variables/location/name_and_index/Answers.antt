use Rattle.std.proofs.Common.{◌≡◌, ◌++◌, ◌∷◌, [], sym, ap, ◌∙◌}
use Rattle.tclforms.proofs.variables.Apart.{apart_none, apart_whole, apart_at}
use Rattle.tclforms.proofs.variables.location.name_and_index.Goals as goal

pub returns-in_default : goal.returns-in_default
returns-in_default c = apart_none _ c.in_default.ensures.cases

pub returns-in-None : goal.returns-in-None
returns-in-None c =
    let s = c.in-Some.ensures.cases in
    let e : c.args.name.now ≡ c.in-Some.inside.now ++ 41 ∷ [] = s.1.1 ∙ ap (λ t. t ++ 41 ∷ []) (sym s.2) in
    apart_whole _ _ e c.in-None.ensures.cases

pub returns-in-Some-split_once : goal.returns-in-Some-split_once
returns-in-Some-split_once c =
    let s = c.in-Some.ensures.cases in
    let e : c.args.name.now ≡ c.in-Some.inside.now ++ 41 ∷ [] = s.1.1 ∙ ap (λ t. t ++ 41 ∷ []) (sym s.2) in
    apart_at _ _ c.in-Some-split_once.array c.in-Some-split_once.index e c.in-Some-split_once.ensures.cases
