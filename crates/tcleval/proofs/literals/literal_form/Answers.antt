use Rattle.std.proofs.Common.{◌≡◌, [], ◌∷◌, ap, ◌∙◌, arith}
use Rattle.std.proofs.lemmas.List.{drop_all}
use Rattle.tclforms.proofs.substitution.Trees.{first_and_rest}
use Rattle.tcleval.proofs.Running.{drop_here}
use Rattle.tcleval.proofs.LiteralWords.{form_found}
use Rattle.tcleval.proofs.literals.literal_form.Goals as goal

pub returns-in_ok-literal_text-in-len1 : goal.returns-in_ok-literal_text-in-len1
returns-in_ok-literal_text-in-len1 c =
    let ws = c.args.words.tree.now in
    let name = c.name-item.result in
    let e : ws ≡ name ∷ [] =
    first_and_rest ws name (omega (arith, c.in-len1.len_at_least)) c.name-item.is
    ∙ ap (λ l. name ∷ l) (drop_all 1 ws (omega (arith, c.in-len1.len_below))) in
    form_found
    c.args.limits.value_bytes
    c.args.words.source.now
    ws
    c.in_ok-literal_text-in-len1.field-0.now
    []
    _
    (λ remaining s k. rw e (c.in_ok-literal_text-in-len1.ensures remaining s _))
    c.form_alone.ensures

pub returns-in_ok-literal_text-in-len2-2 : goal.returns-in_ok-literal_text-in-len2-2
returns-in_ok-literal_text-in-len2-2 c =
    let ws = c.args.words.tree.now in
    let name = c.name-item-then-this-lt3.result in
    let word = c.word-item.result in
    let e : ws ≡ name ∷ word ∷ [] =
    first_and_rest ws name (omega (arith, c.in-len2.len_at_least)) c.name-item-then-this-lt3.is
    ∙ ap (λ l. name ∷ l) (drop_here ws 1 word (omega (arith, c.in-len2.len_at_least)) c.word-item.is ∙ ap (λ l. word ∷ l) (drop_all 2 ws (omega (arith, c.in-len2.len_below)))) in
    form_found
    c.args.limits.value_bytes
    c.args.words.source.now
    ws
    c.in_ok-literal_text-in-len2.field-0.now
    (c.in_ok-literal_text-in-len2-2.field-0.now ∷ [])
    _
    (λ remaining s k. rw e (c.in_ok-literal_text-in-len2.ensures remaining s _ ∙ c.in_ok-literal_text-in-len2-2.ensures remaining s _))
    c.form_of_one.ensures

pub returns-in_ok-literal_text-in-len3-3 : goal.returns-in_ok-literal_text-in-len3-3
returns-in_ok-literal_text-in-len3-3 c =
    let ws = c.args.words.tree.now in
    let name = c.name-item-then-this-lt4.result in
    let first = c.first-item.result in
    let second = c.second-item.result in
    let e : ws ≡ name ∷ first ∷ second ∷ [] =
    first_and_rest ws name (omega (arith, c.in-len3.len_at_least)) c.name-item-then-this-lt4.is
    ∙ ap (λ l. name ∷ l) (drop_here ws 1 first (omega (arith, c.in-len3.len_at_least)) c.first-item.is
    ∙ ap (λ l. first ∷ l) (drop_here ws 2 second (omega (arith, c.in-len3.len_at_least)) c.second-item.is
    ∙ ap (λ l. second ∷ l) (drop_all 3 ws (omega (arith, c.in-len3.len_below))))) in
    form_found
    c.args.limits.value_bytes
    c.args.words.source.now
    ws
    c.in_ok-literal_text-in-len3.field-0.now
    (c.in_ok-literal_text-in-len3-2.field-0.now ∷ c.in_ok-literal_text-in-len3-3.field-0.now ∷ [])
    _
    (λ remaining s k. rw e (c.in_ok-literal_text-in-len3.ensures remaining s _ ∙ c.in_ok-literal_text-in-len3-2.ensures remaining s _ ∙ c.in_ok-literal_text-in-len3-3.ensures remaining s _))
    c.form_of_two.ensures
