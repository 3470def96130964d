use Rattle.std.proofs.Common.{◌≡◌, ◌++◌, take}
use Rattle.envvars.specs.Texts.{slice_texts, texts_in}
use Rattle.modulefile.proofs.recording.push_copies.Given as goal

abbrev pub invariant-loop-part : goal.invariant-loop-part
invariant-loop-part l = texts_in l.elements ≡ texts_in l.fn.elements ++ slice_texts (take l.part-index l.parts)
