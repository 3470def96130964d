use Rattle.std.proofs.Common.{◌≡◌, take}
use Rattle.envvars.specs.Texts.{slice_texts}
use Rattle.module_explain.specs.Alike.{likes}
use Rattle.module_explain.proofs.alike.likes.Given as goal

abbrev pub invariant-loop-name : goal.invariant-loop-name
invariant-loop-name l = slice_texts l.found.items ≡ likes l.small (slice_texts (take l.name-index l.names))
