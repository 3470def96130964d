use Rattle.std.proofs.Common.{◌≡◌, map, string_bytes, take}
use Rattle.envvars.specs.Texts.{texts_in}
use Rattle.module_explain.specs.Alike.{others}
use Rattle.module_explain.proofs.alike.others.Given as goal

abbrev pub invariant-loop-name : goal.invariant-loop-name
invariant-loop-name l = texts_in l.found ≡ others l.typed (map string_bytes (take l.name-index l.names))
