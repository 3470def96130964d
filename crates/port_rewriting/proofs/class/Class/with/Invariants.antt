use Rattle.std.proofs.Common.{◌≡◌, drop}
use Rattle.port_rewriting.specs.Classes.{worst}
use Rattle.port_rewriting.proofs.class.Class.with.Given as goal

abbrev pub invariant-loop-note : goal.invariant-loop-note
invariant-loop-note l = worst l.class (drop l.note-index l.notes) ≡ worst l.fn.self l.notes
