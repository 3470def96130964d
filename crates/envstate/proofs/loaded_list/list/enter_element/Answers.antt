use Rattle.std.proofs.lemmas.Result.{on_ok_weaker}
use Rattle.envstate.proofs.loaded_list.LoadedReading.{first_at, none_at}
use Rattle.envstate.proofs.loaded_list.list.enter_element.Goals as goal

pub returns-in_default : goal.returns-in_default
returns-in_default c = none_at c.args.table.now c.args.element c.in_default.ensures.cases

pub returns : goal.returns
returns c = on_ok_weaker c.enter_first_element.result
    (first_at c.args.table.now c.enter_first_element.new.table c.args.element c.in-Some.module c.in-Some.field-0-1
    c.in-Some.ensures.cases) c.enter_first_element.ensures
