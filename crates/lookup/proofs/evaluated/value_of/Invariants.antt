use Rattle.std.proofs.Common.{◌≡◌, drop}
use Rattle.tclrules.specs.Promise.{texts_of}
use Rattle.tclrules.specs.Variables.{lookup}
use Rattle.lookup.proofs.evaluated.value_of.Given as goal

abbrev pub invariant-loop-key : goal.invariant-loop-key
invariant-loop-key l = lookup (texts_of l.globals) l.name ≡ lookup (texts_of (drop l.key-index l.globals)) l.name
