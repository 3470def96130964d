use Rattle.std.proofs.Common.{◌≡◌, map, [], ◌∷◌, ◌++◌, sym, ap, ◌∙◌}
use Rattle.std.specs.Prelude.{string_bytes}
use Rattle.std.proofs.lemmas.List.{map-append}
use Rattle.message.specs.Answers.{Gives}
use Rattle.tclvalue.specs.operators.Faults.{reason_of}
use Rattle.tclrules.specs.Forms.{branches, last_words}
use Rattle.tclforms.specs.Views.{form_view, pair_texts}
use Rattle.tclforms.specs.Branches.{prefixed_pairs, if_of}
use Rattle.tclforms.proofs.BranchLemmas.{goes_on, ends_there}
use Rattle.tclforms.proofs.conditional.if_form.Goals as goal

pub loop-branch-preserved : goal.loop-branch-preserved
loop-branch-preserved c =
    let b = c.in-Some.branch in
    let p : pair_texts c.push.new.self.items ≡ pair_texts c.loop-branch.branches.items
    ++ (b.condition.now, b.body.now) ∷ [] = ap pair_texts (c.in_ok-push.ensures.items)
    ∙ map-append _ c.loop-branch.branches.items _ in
    let q : branches (map string_bytes c.args.words.now) ≡ prefixed_pairs
    (pair_texts c.loop-branch.branches.items ++ (b.condition.now, b.body.now) ∷ [])
    (branches (map string_bytes c.in-Some-after_elseif.more.now)) =
    goes_on (map string_bytes c.args.words.now) (map string_bytes c.loop-branch.rest.now) (map string_bytes b.rest.now)
    (map string_bytes c.in-Some-after_elseif.more.now) (pair_texts c.loop-branch.branches.items) b.condition.now
    b.body.now c.loop-branch.invariant (sym c.in-Some.ensures.branch) (sym c.in-Some-after_elseif.ensures.rest) in
    rw p q

pub returns-in-None : goal.returns-in-None
returns-in-None c =
    let b = c.in-Some.branch in
    let p : pair_texts c.push.new.self.items ≡ pair_texts c.loop-branch.branches.items
    ++ (b.condition.now, b.body.now) ∷ [] = ap pair_texts (c.in_ok-push.ensures.items)
    ∙ map-append _ c.loop-branch.branches.items _ in
    let q : branches (map string_bytes c.args.words.now) ≡ prefixed_pairs (pair_texts c.loop-branch.branches.items ++ (b.condition.now, b.body.now) ∷ []) (last_words (map string_bytes b.rest.now)) =
    ends_there (map string_bytes c.args.words.now) (map string_bytes c.loop-branch.rest.now)
    (map string_bytes b.rest.now) (pair_texts c.loop-branch.branches.items) b.condition.now b.body.now
    c.loop-branch.invariant (sym c.in-Some.ensures.branch) (sym c.in-None.ensures.rest) in
    let r : Gives reason_of form_view c.last_words.result
    (if_of (prefixed_pairs (pair_texts c.loop-branch.branches.items ++ (b.condition.now, b.body.now) ∷ [])
    (last_words (map string_bytes b.rest.now)))) = rw p at c.last_words.ensures in
    rw q r
