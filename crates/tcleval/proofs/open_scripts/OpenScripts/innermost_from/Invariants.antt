use Rattle.std.proofs.Common.{◌≡◌, drop, reverse}
use Rattle.tclrules.specs.Places.{innermost_from}
use Rattle.tcleval.proofs.open_scripts.OpenScripts.innermost_from.Given as goal

abbrev pub invariant-loop-index : goal.invariant-loop-index
invariant-loop-index l = innermost_from l.file l.outermost (drop 1 (reverse l.self)) ≡ innermost_from l.file l.place (drop l.index (reverse l.self))
