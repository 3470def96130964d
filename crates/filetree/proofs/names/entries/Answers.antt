use Rattle.std.proofs.Common.{List, ℕ, Bool, not, map, filter, ap, ◌∙◌, rules, tests}
use Rattle.std.proofs.lemmas.Fn.{filter_same}
use Rattle.filetree.specs.Names.{is_dot_name}
use Rattle.filetree.proofs.NameLemmas.{map-kept, not_or}
use Rattle.filetree.proofs.names.entries.Goals as goal

pub returns : goal.returns
returns c =
    let p : List ℕ → Bool = λ name. not (is_dot_name name) in
    ap (map (λ x. x.now)) (filter_same _ (λ y. p y.now) _ (λ x b g k. search (rules, tests, not_or)) _ _ c.retain.ensures.filtered)
    ∙ (map-kept p c.in_ok-names.names.items ∙ ap (filter p) c.in_ok-names.ensures)
