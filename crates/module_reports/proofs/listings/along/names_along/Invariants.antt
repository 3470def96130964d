use Rattle.std.proofs.Common.{◌≡◌, ◌≤◌, take}
use Rattle.std.specs.Option.{option_map}
use Rattle.envvars.specs.Texts.{slice_texts, texts_in}
use Rattle.filetree.specs.Agreement.{InEachPair, Narrows}
use Rattle.module_reports.specs.listings.Along.{AreNamesAlong}
use Rattle.module_reports.proofs.listings.along.names_along.Given as goal

abbrev pub invariant-loop-directory : goal.invariant-loop-directory
invariant-loop-directory g l = record {
  narrows : Narrows (g.T.Tree.agrees l.initial.tree) (g.T.Tree.agrees l.tree);
  counts : g.T.Tree.failures l.initial.tree ≤ g.T.Tree.failures l.tree;
  failed : g.T.Tree.failed l.tree ≡ g.T.Tree.failed l.initial.tree;
  names : InEachPair (g.T.Tree.agrees l.tree) (λ files listings. AreNamesAlong listings (option_map (λ f. f.now) l.folder) (slice_texts (take l.directory-index l.directories)) (texts_in l.names));
}
