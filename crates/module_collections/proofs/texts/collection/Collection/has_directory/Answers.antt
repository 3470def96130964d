use Rattle.std.proofs.Common.{ℕ, List, rules, tests, string_bytes, String, Global, ◌∙◌}
use Rattle.std.specs.Prelude.{bytes_eq}
use Rattle.std.proofs.lemmas.Iterator.Search.{any_from_yields_List}
use Rattle.std.proofs.lemmas.Iterator.{YieldsList-from_slice}
use Rattle.module_collections.proofs.texts.Turns.{any_mapped}
use Rattle.module_collections.proofs.texts.collection.Collection.has_directory.Goals as goal

pub returns : goal.returns
returns c =
    any_from_yields_List (λ (s : String Global). bytes_eq (string_bytes s) c.args.path.now) _ _ c.any.result c.any.ensures.ran
    (YieldsList-from_slice c.args.self.now.directories.items cc) (λ x b q k. search (rules, tests))
    ∙ any_mapped (λ (w : List ℕ). bytes_eq w c.args.path.now) c.args.self.now.directories.items
