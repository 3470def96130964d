use Rattle.std.proofs.Common.{◌≡◌, take}
use Rattle.envvars.specs.Texts.{slice_texts}
use Rattle.module_explain.specs.Alike.{filled}
use Rattle.module_explain.proofs.alike.filled.Given as goal

abbrev pub invariant-loop-part : goal.invariant-loop-part
invariant-loop-part l = slice_texts l.found.items ≡ filled (slice_texts (take l.part-index l.parts))
