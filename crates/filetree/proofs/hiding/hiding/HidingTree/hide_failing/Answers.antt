use Rattle.std.proofs.Common.{◌≡◌, true, ◌∷◌, [], map, string_bytes, String, Global, List, sym, subst}
use Rattle.std.proofs.lemmas.List.{take_all}
use Rattle.message.specs.Messages.{Text}
use Rattle.filetree.specs.hiding.Hidden.{AreAllHidden, is_among}
use Rattle.filetree.proofs.hiding.FailingLemmas.{all_turn, among_item, hides_both, one_of_these, reads_both}
use Rattle.filetree.proofs.hiding.hiding.HidingTree.hide_failing.Goals as goal

abbrev texts : List (String Global) → List Text
texts l = map (λ (s : String Global). string_bytes s) l

pub returns-in_err-hide_if_failing-clause-hidden : goal.returns-in_err-hide_if_failing-clause-hidden
returns-in_err-hide_if_failing-clause-hidden g c =
    let failures = g.T.Tree.failures in
    let among : is_among (texts c.args.paths.now) c.as_str.result.now ≡ true =
    subst (λ p. is_among (texts c.args.paths.now) p ≡ true) (sym c.as_str.ensures.value) (among_item c.args.paths.now c.loop-path.path-index c.path-item.result c.loop-path-test.true c.path-item.is) in
    hides_both (texts c.args.paths.now) c.as_str.result.now (failures c.args.self.now.tree) (failures c.loop-path.self.tree) (failures c.hide_if_failing.new.self.tree)
    (texts c.args.self.now.hidden.items) (texts c.loop-path.self.hidden.items) (texts c.hide_if_failing.new.self.hidden.items) among c.loop-path.invariant.hidden c.hide_if_failing.ensures.hidden

pub returns-then-not-branch-clause-hidden : goal.returns-then-not-branch-clause-hidden
returns-then-not-branch-clause-hidden g c =
    let failures = g.T.Tree.failures in
    let among : is_among (texts c.args.paths.now) c.as_str.result.now ≡ true =
    subst (λ p. is_among (texts c.args.paths.now) p ≡ true) (sym c.as_str.ensures.value) (among_item c.args.paths.now c.loop-path.path-index c.path-item.result c.loop-path-test.true c.path-item.is) in
    hides_both (texts c.args.paths.now) c.as_str.result.now (failures c.args.self.now.tree) (failures c.loop-path.self.tree) (failures c.hide_if_failing.new.self.tree)
    (texts c.args.self.now.hidden.items) (texts c.loop-path.self.hidden.items) (texts c.hide_if_failing.new.self.hidden.items) among c.loop-path.invariant.hidden c.hide_if_failing.ensures.hidden

pub returns-then-not-branch-clause-fewer : goal.returns-then-not-branch-clause-fewer
returns-then-not-branch-clause-fewer g c = λ e.
    let failures = g.T.Tree.failures in
    let among : is_among (texts c.args.paths.now) c.as_str.result.now ≡ true =
    subst (λ p. is_among (texts c.args.paths.now) p ≡ true) (sym c.as_str.ensures.value) (among_item c.args.paths.now c.loop-path.path-index c.path-item.result c.loop-path-test.true c.path-item.is) in
    one_of_these (texts c.args.paths.now) c.as_str.result.now (g.T.Tree.failed c.hide_if_failing.new.self.tree) (failures c.args.self.now.tree) (failures c.loop-path.self.tree)
    (failures c.hide_if_failing.new.self.tree) (texts c.args.self.now.hidden.items) (texts c.loop-path.self.hidden.items) (texts c.hide_if_failing.new.self.hidden.items) among c.loop-path.invariant.hidden
    (c.in_ok-hide_if_failing.ensures.fewer c.if-not-branch.true)

pub loop-path-preserved : goal.loop-path-preserved
loop-path-preserved g c =
    let agrees = g.T.Tree.agrees in
    let failures = g.T.Tree.failures in
    let failed = g.T.Tree.failed in
    let paths = c.args.paths.now in
    let i = c.loop-path.invariant in
    let old = c.args.self.now in
    let mid = c.loop-path.self in
    let new = c.hide_if_failing.new.self in
    let among : is_among (texts paths) c.as_str.result.now ≡ true =
    subst (λ p. is_among (texts paths) p ≡ true) (sym c.as_str.ensures.value) (among_item paths c.loop-path.path-index c.path-item.result c.loop-path-test.true c.path-item.is) in
    record {
      seen = c.hide_if_failing.ensures.seen;
      reads = reads_both agrees failures old.tree mid.tree new.tree i.reads c.hide_if_failing.ensures.reads;
      hidden = hides_both (texts paths) c.as_str.result.now (failures old.tree) (failures mid.tree) (failures new.tree) (texts old.hidden.items) (texts mid.hidden.items) (texts new.hidden.items) among i.hidden
          c.hide_if_failing.ensures.hidden;
      all = all_turn paths c.loop-path.path-index c.path-item.result (agrees mid.tree) (agrees new.tree) (failed old.tree) (failed mid.tree) (failed new.tree) (texts mid.hidden.items)
          c.hide_if_failing.ensures.hidden.more (texts new.hidden.items) c.loop-path-test.true c.path-item.is c.hide_if_failing.ensures.hidden.order c.hide_if_failing.ensures.reads.narrows i.all
          (subst (λ p. AreAllHidden (p ∷ []) (agrees new.tree) (failed mid.tree) (failed new.tree) (texts new.hidden.items)) c.as_str.ensures.value (c.in_ok-hide_if_failing.ensures.all c.if-not-branch.false));
    }

pub returns-clause-all : goal.returns-clause-all
returns-clause-all g c = λ e.
    subst (λ ps. AreAllHidden (texts ps) (g.T.Tree.agrees c.loop-path.self.tree) (g.T.Tree.failed c.args.self.now.tree) (g.T.Tree.failed c.loop-path.self.tree) (texts c.loop-path.self.hidden.items))
    (take_all c.loop-path.path-index c.args.paths.now c.loop-path-test.false) c.loop-path.invariant.all
