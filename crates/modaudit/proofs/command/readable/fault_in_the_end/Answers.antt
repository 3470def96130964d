use Rattle.std.proofs.Common.{◌≡◌, ◌≤◌, List, map, string_bytes, String, length, arith}
use Rattle.std.proofs.lemmas.List.{length-map}
use Rattle.std.specs.declared.alloc.Global.{Global}
use Rattle.envvars.specs.Texts.{Text}
use Rattle.modaudit.proofs.command.ReadableLemmas.{failed_often}
use Rattle.modaudit.proofs.command.readable.fault_in_the_end.Goals as goal

abbrev texts : List (String Global) → List Text
texts l = map (λ s. string_bytes s) l

pub returns-then-are_most : goal.returns-then-are_most
returns-then-are_most g c = λ is.
    let tree = c.args.tree.now in
    let paths = c.in-Ok.paths.items in
    let hidden = tree.hidden.items in
    let many : 1000 ≤ length paths = rw c.as_slice-2.ensures.value at (c.are_most.ensures c.if-are_most.true) in
    let as_many : length (texts paths) ≡ length paths = length-map paths (λ (s : String Global). string_bytes s) in
    let hidden_as_many : length (texts hidden) ≡ length hidden = length-map hidden (λ (s : String Global). string_bytes s) in
    failed_often (g.T.Tree.failed tree.tree) (g.T.Tree.failures tree.tree) (texts paths) (texts hidden) c.in-Ok.ensures.order
    (rw c.as_slice.ensures.value at c.in-Ok.ensures.same) tree.failed (omega (arith, hidden_as_many, tree.counted))
    (omega (arith, as_many, many))
