use Rattle.std.proofs.Common.{rules, tests, string_bytes, bytes_eq}
use Rattle.std.proofs.lemmas.Iterator.Search.{find_from_yields_List}
use Rattle.std.proofs.lemmas.Iterator.{YieldsList-from_slice}
use Rattle.envstate.specs.declared.loaded_list.entry.Loaded.{Loaded}
use Rattle.envstate.proofs.loaded_list.LoadedWriting.{found_is}
use Rattle.envstate.proofs.loaded_list.list.find.Goals as goal

pub returns : goal.returns
returns c =
    found_is c.args.name.now c.args.list.now c.find.result
    (find_from_yields_List (λ (x : Loaded). bytes_eq c.args.name.now (string_bytes x.name)) _ _ c.find.result c.find.ensures.ran
    (YieldsList-from_slice c.args.list.now cc) (λ x b q k. search (rules, tests)))
