use Rattle.std.proofs.Common.{◌≡◌, take}
use Rattle.std.specs.Prelude.{fold}
use Rattle.process.specs.AbsolutePaths.{led, names_in}
use Rattle.process.proofs.absolute_paths.lead_each.Given as goal

abbrev pub invariant-loop-part : goal.invariant-loop-part
invariant-loop-part l = names_in l.place.items ≡ fold led (names_in l.initial.place.items) (names_in (take l.part-index l.parts))
