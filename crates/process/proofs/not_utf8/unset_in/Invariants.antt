use Rattle.std.proofs.Common.{◌≡◌, take}
use Rattle.envvars.specs.Texts.{slice_texts, texts_in}
use Rattle.process.specs.NotUtf8.{unset_in}
use Rattle.process.proofs.not_utf8.unset_in.Given as goal

abbrev pub invariant-loop-entry : goal.invariant-loop-entry
invariant-loop-entry l = texts_in l.names ≡ unset_in l.env (slice_texts (take l.entry-index l.entries))
