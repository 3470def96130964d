use Rattle.std.specs.Prelude.{map}
use Rattle.std.proofs.Common.{◌≡◌}
use Rattle.std.specs.Vec.Iter.{into_iter_items}
use Rattle.tclrules.specs.Promise.{texts_of}
use Rattle.tclrules.specs.Variables.{initial_state, store_all}
use Rattle.tclcommands.proofs.initial.initial_variables.Given as goal

-- the variables so far, with those that are left
abbrev pub invariant-loop-name : goal.invariant-loop-name
invariant-loop-name l = record l.variables {
  globals = store_all l.variables.globals
      (texts_of (into_iter_items l.name-iterator));
} ≡ initial_state (map (λ n. n.now) l.fn.reserved)
    (texts_of l.fn.globals.items)
