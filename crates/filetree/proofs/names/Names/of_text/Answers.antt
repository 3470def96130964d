use Rattle.std.proofs.Common.{not, map, ap, ◌∙◌, sym, subst}
use Rattle.std.specs.List.{All}
use Rattle.std.specs.List.Sorted.{IsPermutation}
use Rattle.std.proofs.lemmas.List.Elements.{All-filter, All-same}
use Rattle.std.proofs.lemmas.List.Sorted.{IsPermutation-refl}
use Rattle.std.proofs.lemmas.Result.{IfOk-weaker}
use Rattle.filetree.specs.Names.{IsName, entries_of, is_dot_name, names_of}
use Rattle.filetree.proofs.NameLemmas.{names_of-IsName}
use Rattle.filetree.proofs.names.Names.of_text.Goals as goal

pub joined-requires-clause-names : goal.joined-requires-clause-names
joined-requires-clause-names c =
    let text = c.args.text.now in
    let all : All IsName (map (λ x. x.now) c.in_ok-names.names.items) =
    All-same IsName _ _ c.in_ok-names.ensures (All-filter (λ name. not (is_dot_name name)) IsName (names_of text) (names_of-IsName text)) in
    All-same IsName _ _ (ap (map (λ x. x.now)) c.deref.ensures.value) all

pub returns : goal.returns
returns c =
    IfOk-weaker c.joined.result _ _
    (λ names e. subst (IsPermutation (entries_of c.args.text.now)) (sym (e ∙ ap (map (λ x. x.now)) c.deref.ensures.value ∙ c.in_ok-names.ensures))
    (IsPermutation-refl (entries_of c.args.text.now)))
    c.joined.ensures
