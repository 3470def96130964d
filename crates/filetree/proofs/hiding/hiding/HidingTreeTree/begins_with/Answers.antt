use Rattle.std.proofs.Common.{◌≡◌, true, ap, sym, subst, map, string_bytes, vec_items, String, Global}
use Rattle.std.specs.declared.vec.Vec.{Vec}
use Rattle.filetree.specs.Agreement.{InEachPair, Narrows, is_device, begins_with}
use Rattle.filetree.proofs.hiding.HidingLemmas.{all_failed_too, some_failed_too, file_seen, file_hidden, fewer_left}
use Rattle.filetree.proofs.hiding.hiding.HidingTreeTree.begins_with.Goals as goal

pub returns-in_ok-keep_seen-in-Ok-true-clause-answer : goal.returns-in_ok-keep_seen-in-Ok-true-clause-answer
returns-in_ok-keep_seen-in-Ok-true-clause-answer g c =
    let tree = c.keep_seen.new.self in
    let is : c.in-Ok-true.field-0 ≡ true = cc in
    file_seen (map (λ (s : String Global). string_bytes s) tree.hidden.items) (map (λ (s : String Global). string_bytes s) c.args.self.now.seen.items) (map (λ (s : String Global). string_bytes s) tree.seen.items) (g.T.Tree.agrees tree.tree) c.args.path.now
    (λ x. begins_with c.args.prefix.now x ≡ true) (cc) c.in_ok-keep_seen-in-Ok-true.ensures.seen
    (subst (λ t. InEachPair (g.T.Tree.agrees t) (λ files folders. begins_with c.args.prefix.now (files c.args.path.now) ≡ true)) (sym c.keep_seen.ensures.tree) (subst (λ o. InEachPair (g.T.Tree.agrees c.begins_with.new.self) (λ files folders. begins_with c.args.prefix.now (files c.args.path.now) ≡ o)) is c.in-Ok-true.ensures.answer))

pub returns-in_ok-hide-in-Err-clause-narrows : goal.returns-in_ok-hide-in-Err-clause-narrows
returns-in_ok-hide-in-Err-clause-narrows g c =
    let tree = c.hide.new.self in
    fewer_left (map (λ (s : String Global). string_bytes s) c.args.self.now.hidden.items) (map (λ (s : String Global). string_bytes s) tree.hidden.items) (map (λ (s : String Global). string_bytes s) c.args.self.now.seen.items) (map (λ (s : String Global). string_bytes s) tree.seen.items)
    (g.T.Tree.agrees c.args.self.now.tree) (g.T.Tree.agrees tree.tree) c.args.path.now c.in_ok-hide-in-Err.ensures.hidden
    (ap (λ (v : Vec (String Global) Global). map (λ (s : String Global). string_bytes s) (vec_items v)) c.hide.ensures.seen) c.in_ok-hide-in-Err.ensures.unseen
    (subst (λ t. Narrows (g.T.Tree.agrees c.args.self.now.tree) (g.T.Tree.agrees t)) (sym c.hide.ensures.tree) c.in-Err.ensures.narrows)

pub returns-in_ok-hide-in-Err-clause-answer : goal.returns-in_ok-hide-in-Err-clause-answer
returns-in_ok-hide-in-Err-clause-answer g c =
    let tree = c.hide.new.self in
    λ files folders a. ap (begins_with c.args.prefix.now) (file_hidden (map (λ (s : String Global). string_bytes s) c.args.self.now.hidden.items) (map (λ (s : String Global). string_bytes s) tree.hidden.items) (map (λ (s : String Global). string_bytes s) tree.seen.items) (g.T.Tree.agrees tree.tree) c.args.path.now c.in_ok-hide-in-Err.ensures.hidden files folders a)

pub invariant_of-self-clause-failed : goal.invariant_of-self-clause-failed
invariant_of-self-clause-failed g c =
    all_failed_too is_device (g.T.Tree.failed c.args.self.now.tree) (g.T.Tree.failed c.begins_with.new.self) c.begins_with.result (λ at. at ≡ c.args.path.now) c.begins_with.ensures.failed
    (map (λ (s : String Global). string_bytes s) c.args.self.now.hidden.items) c.args.self.now.failed

pub invariant_of-self-clause-failed_there : goal.invariant_of-self-clause-failed_there
invariant_of-self-clause-failed_there g c =
    some_failed_too is_device (g.T.Tree.failed c.args.self.now.tree) (g.T.Tree.failed c.begins_with.new.self) c.begins_with.result (λ at. at ≡ c.args.path.now) c.begins_with.ensures.failed
    c.args.self.now.failed_at c.args.self.now.failed_there
