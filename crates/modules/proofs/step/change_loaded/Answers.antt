use Rattle.std.proofs.Common.{List, map, sym, ap, ◌∙◌}
use Rattle.envstate.specs.loaded_list.LoadedEntries.{entry_view}
use Rattle.envstate.specs.declared.loaded_list.entry.Loaded.{Loaded}
use Rattle.modules.specs.Parts.{may_lose}
use Rattle.modules.proofs.ListedLemmas.{listing}
use Rattle.modules.proofs.step.change_loaded.Goals as goal

pub change_each-requires : goal.change_each-requires
change_each-requires g c = ap (λ (es : List Loaded). listing (map entry_view es)) c.as_slice-entries.ensures.value ∙ c.requires

pub returns-then-may_lose-clause-done : goal.returns-then-may_lose-clause-done
returns-then-may_lose-clause-done g c = rw c.as_slice-entries.ensures.value at c.change_each.ensures.done

pub change_freely-requires-clause-listed : goal.change_freely-requires-clause-listed
change_freely-requires-clause-listed g c = c.requires

pub change_freely-requires-clause-free : goal.change_freely-requires-clause-free
change_freely-requires-clause-free g c =
    ap (λ (es : List Loaded). may_lose c.args.name_action (map entry_view es)) (sym c.as_slice-entries.ensures.value)
    ∙ (sym c.may_lose.ensures ∙ c.if-may_lose.false)

pub returns-clause-done : goal.returns-clause-done
returns-clause-done g c = c.change_freely.ensures.done
