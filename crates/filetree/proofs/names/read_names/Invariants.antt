use Rattle.std.specs.Io.KnownBytes.{Consumes}
use Rattle.filetree.proofs.names.read_names.Given as goal

abbrev pub invariant-loop : goal.invariant-loop
invariant-loop g l = Consumes (g.D.Read.remaining l.initial.names) (g.D.Read.remaining l.names) l.text.items
