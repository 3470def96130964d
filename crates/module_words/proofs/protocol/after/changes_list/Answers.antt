use Rattle.std.proofs.Common.{rules, tests, string_bytes, ◌∙◌}
use Rattle.std.specs.Prelude.{bytes_eq, codes}
use Rattle.std.proofs.lemmas.Iterator.Search.{any_from_yields_List}
use Rattle.std.proofs.lemmas.Iterator.{YieldsList-from_slice}
use Rattle.envvars.specs.Changes.{NewValue, new_value_of}
use Rattle.envvars.specs.declared.change.Change.{Change}
use Rattle.module_words.proofs.function.ListLemmas.{any_seen}
use Rattle.module_words.proofs.protocol.after.changes_list.Goals as goal

pub returns : goal.returns
returns c =
    any_from_yields_List (λ (x : Change). bytes_eq (string_bytes x.name) (codes "LOADEDMODULES")) _ _ c.any.result
    c.any.ensures.ran (YieldsList-from_slice c.args.changes.now cc) (λ x b q k. search (rules, tests))
    ∙ any_seen (λ (x : NewValue). bytes_eq x.0 (codes "LOADEDMODULES")) new_value_of c.args.changes.now
