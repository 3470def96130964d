use Rattle.std.proofs.Common.{◌≡◌, List, [], map, take, string_bytes, String, Global}
use Rattle.message.specs.Messages.{Text}
use Rattle.filetree.specs.Agreement.{ReadsOn}
use Rattle.filetree.specs.hiding.Hidden.{AreAllHidden, HidesMore}
use Rattle.filetree.proofs.hiding.hiding.HidingTree.hide_failing.Given as goal

-- those of the paths so far
abbrev pub invariant-loop-path : goal.invariant-loop-path
invariant-loop-path g l =
    let texts : List (String Global) → List Text = map (λ (s : String Global). string_bytes s) in record {
      seen : l.self.seen.items ≡ [];
      reads : ReadsOn g.T.Tree.agrees g.T.Tree.failures l.fn.self.tree l.self.tree;
      hidden : HidesMore (texts l.paths) (g.T.Tree.failures l.fn.self.tree) (g.T.Tree.failures l.self.tree) (texts l.fn.self.hidden.items) (texts l.self.hidden.items);
      all : AreAllHidden (texts (take l.path-index l.paths)) (g.T.Tree.agrees l.self.tree) (g.T.Tree.failed l.fn.self.tree) (g.T.Tree.failed l.self.tree) (texts l.self.hidden.items);
    }
