use Rattle.std.proofs.Common.{◌≡◌, drop}
use Rattle.std.specs.Option.{option_or}
use Rattle.envvars.specs.Texts.{Text, slice_texts}
use Rattle.envstate.specs.loaded_list.LoadedEntries.{element_in}
use Rattle.envstate.specs.loaded_list.LoadedTexts.{first_element}
use Rattle.envstate.proofs.loaded_list.list.first_elements.Given as goal

-- the first elements so far, and then those of the rest
abbrev pub invariant-loop-element : goal.invariant-loop-element
invariant-loop-element l = (name : Text) → option_or (element_in l.table name) (first_element name (slice_texts (drop l.element-index l.elements))) ≡ first_element name (slice_texts l.elements)
