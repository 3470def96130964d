use Rattle.std.proofs.Common.{rules, tests, string_bytes, bytes_eq, ◌∙◌}
use Rattle.std.proofs.lemmas.Iterator.Search.{any_from_yields_List}
use Rattle.std.proofs.lemmas.Iterator.{YieldsList-from_slice}
use Rattle.envstate.specs.declared.loaded_list.entry.Loaded.{Loaded}
use Rattle.envstate.proofs.loaded_list.LoadedWriting.{loaded_is}
use Rattle.envstate.proofs.loaded_list.writing.is_loaded.Goals as goal

pub returns : goal.returns
returns c =
    any_from_yields_List (λ (x : Loaded). bytes_eq (string_bytes x.name) c.args.name.now) _ _ c.any.result
    c.any.ensures.ran (YieldsList-from_slice c.args.list.now cc) (λ x b q k. search (rules, tests))
    ∙ loaded_is c.args.list.now c.args.name.now
