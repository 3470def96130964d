use Rattle.std.proofs.Common.{◌≡◌, ◌++◌, take}
use Rattle.envvars.specs.Texts.{texts_in, slice_texts}
use Rattle.audit_site.proofs.scripts.push_reads.Given as goal

abbrev pub invariant-loop-name : goal.invariant-loop-name
invariant-loop-name l = texts_in l.reads ≡ texts_in l.initial.reads ++ slice_texts (take l.name-index l.name-items)
