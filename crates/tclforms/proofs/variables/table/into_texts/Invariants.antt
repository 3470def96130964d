use Rattle.std.proofs.Common.{◌≡◌, ◌++◌}
use Rattle.tclrules.specs.Promise as promise
use Rattle.tclforms.specs.variables.Views.{texts_of}
use Rattle.tclforms.proofs.variables.table.into_texts.Given as goal

-- the texts so far, and those of the remaining variables
abbrev pub invariant-loop-name : goal.invariant-loop-name
invariant-loop-name l = promise.texts_of l.texts.items ++ texts_of l.name-iterator ≡ texts_of l.fn.table.entries
