use Rattle.std.proofs.Common.{◌≡◌, ◌++◌, filter, map, string_bytes}
use Rattle.std.specs.Vec.Iter.{into_iter_items}
use Rattle.filetree.specs.Agreement.{InEachPair, ReadsOn}
use Rattle.search.specs.BelowFolder.{is_selected_module, AreAmong, HasAllFolders}
use Rattle.search.proofs.names.sort_out.Given as goal

abbrev pub invariant-loop-name : goal.invariant-loop-name
invariant-loop-name g l = record {
  reads : ReadsOn g.T.Tree.agrees g.T.Tree.failures l.initial.tree l.tree;
  so_far : InEachPair (g.T.Tree.agrees l.tree) (λ files folders.
      filter (is_selected_module files (map string_bytes l.texts) l.dir) (map string_bytes l.fn.names.items)
      ≡ map string_bytes l.sorted.modules.items ++ filter (is_selected_module files (map string_bytes l.texts) l.dir) (map string_bytes (into_iter_items l.name-iterator)));
  named : AreAmong (map string_bytes l.sorted.folders.items) (map string_bytes l.yielded);
  others : InEachPair (g.T.Tree.agrees l.tree) (λ files folders. HasAllFolders folders l.dir (map string_bytes l.yielded) (map string_bytes l.sorted.folders.items));
  unfailed : g.T.Tree.failed l.tree ≡ g.T.Tree.failed l.initial.tree;
  whole : l.yielded ++ into_iter_items l.name-iterator ≡ l.fn.names.items;
}
