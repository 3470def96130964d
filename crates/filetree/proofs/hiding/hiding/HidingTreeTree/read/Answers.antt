use Rattle.std.proofs.Common.{◌≡◌, Some, ap, sym, subst, map, string_bytes, vec_items, String, Global}
use Rattle.std.specs.declared.vec.Vec.{Vec}
use Rattle.filetree.specs.Agreement.{InEachPair, Narrows, is_device, file_answer}
use Rattle.filetree.proofs.hiding.HidingLemmas.{all_failed_too, some_failed_too, file_seen, file_hidden, fewer_left}
use Rattle.filetree.proofs.hiding.hiding.HidingTreeTree.read.Goals as goal

pub returns-in_ok-keep_seen-in-Ok-Some-clause-answer : goal.returns-in_ok-keep_seen-in-Ok-Some-clause-answer
returns-in_ok-keep_seen-in-Ok-Some-clause-answer g c =
    let tree = c.keep_seen.new.self in
    let is : c.in-Ok-Some.field-0 ≡ Some c.in-Ok-Some.bytes = cc in
    file_seen (map (λ (s : String Global). string_bytes s) tree.hidden.items) (map (λ (s : String Global). string_bytes s) c.args.self.now.seen.items) (map (λ (s : String Global). string_bytes s) tree.seen.items) (g.T.Tree.agrees tree.tree) c.args.path.now
    (λ x. x ≡ Some (vec_items c.in-Ok-Some.bytes)) (cc) c.in_ok-keep_seen-in-Ok-Some.ensures.seen
    (subst (λ t. InEachPair (g.T.Tree.agrees t) (λ files folders. (files c.args.path.now) ≡ Some (vec_items c.in-Ok-Some.bytes))) (sym c.keep_seen.ensures.tree) (subst (λ o. InEachPair (g.T.Tree.agrees c.read.new.self) (λ files folders. (files c.args.path.now) ≡ file_answer o)) is c.in-Ok-Some.ensures.answer))

pub returns-in_ok-hide-in-Err-clause-narrows : goal.returns-in_ok-hide-in-Err-clause-narrows
returns-in_ok-hide-in-Err-clause-narrows g c =
    let tree = c.hide.new.self in
    fewer_left (map (λ (s : String Global). string_bytes s) c.args.self.now.hidden.items) (map (λ (s : String Global). string_bytes s) tree.hidden.items) (map (λ (s : String Global). string_bytes s) c.args.self.now.seen.items) (map (λ (s : String Global). string_bytes s) tree.seen.items)
    (g.T.Tree.agrees c.args.self.now.tree) (g.T.Tree.agrees tree.tree) c.args.path.now c.in_ok-hide-in-Err.ensures.hidden
    (ap (λ (v : Vec (String Global) Global). map (λ (s : String Global). string_bytes s) (vec_items v)) c.hide.ensures.seen) c.in_ok-hide-in-Err.ensures.unseen
    (subst (λ t. Narrows (g.T.Tree.agrees c.args.self.now.tree) (g.T.Tree.agrees t)) (sym c.hide.ensures.tree) c.in-Err.ensures.narrows)

pub returns-in_ok-hide-in-Err-clause-answer : goal.returns-in_ok-hide-in-Err-clause-answer
returns-in_ok-hide-in-Err-clause-answer g c =
    let tree = c.hide.new.self in
    file_hidden (map (λ (s : String Global). string_bytes s) c.args.self.now.hidden.items) (map (λ (s : String Global). string_bytes s) tree.hidden.items) (map (λ (s : String Global). string_bytes s) tree.seen.items) (g.T.Tree.agrees tree.tree) c.args.path.now c.in_ok-hide-in-Err.ensures.hidden

pub invariant_of-self-clause-failed : goal.invariant_of-self-clause-failed
invariant_of-self-clause-failed g c =
    all_failed_too is_device (g.T.Tree.failed c.args.self.now.tree) (g.T.Tree.failed c.read.new.self) c.read.result (λ at. at ≡ c.args.path.now) c.read.ensures.failed
    (map (λ (s : String Global). string_bytes s) c.args.self.now.hidden.items) c.args.self.now.failed

pub invariant_of-self-clause-failed_there : goal.invariant_of-self-clause-failed_there
invariant_of-self-clause-failed_there g c =
    some_failed_too is_device (g.T.Tree.failed c.args.self.now.tree) (g.T.Tree.failed c.read.new.self) c.read.result (λ at. at ≡ c.args.path.now) c.read.ensures.failed
    c.args.self.now.failed_at c.args.self.now.failed_there
