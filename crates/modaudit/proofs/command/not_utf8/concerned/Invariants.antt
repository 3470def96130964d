use Rattle.std.proofs.Common.{◌≡◌, map, string_bytes, take}
use Rattle.envvars.specs.Texts.{texts_in}
use Rattle.modaudit.specs.command.NotUtf8.{concerned}
use Rattle.modaudit.proofs.command.not_utf8.concerned.Given as goal

abbrev pub invariant-loop-name : goal.invariant-loop-name
invariant-loop-name l = texts_in l.kept ≡ concerned l.certificate (map string_bytes (take l.name-index l.names))
