use Rattle.envstate.specs.loaded_list.LoadedEntries.{element_in}
use Rattle.envstate.proofs.loaded_list.LoadedReading.{first-turn, nothing_first, all_first}
use Rattle.envstate.proofs.loaded_list.list.first_elements.Goals as goal

pub loop-element-init : goal.loop-element-init
loop-element-init c = λ name. nothing_first c.new-table.result name c.args.elements.now c.new-table.ensures.empty

pub loop-element-preserved : goal.loop-element-preserved
loop-element-preserved c = λ name.
    first-turn (element_in c.loop-element.table name) (element_in c.enter_element.new.table name) _ name
    c.args.elements.now c.loop-element.element-index _ c.loop-element-test.true (c.in_ok-enter_element.ensures name)
    (c.loop-element.invariant name)

pub returns : goal.returns
returns c = λ name. all_first (element_in c.loop-element.table name) name c.args.elements.now c.loop-element.element-index _ c.loop-element-test.false (c.loop-element.invariant name)
