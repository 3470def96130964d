use Rattle.std.proofs.Common.{◌≡◌, length, map, string_bytes}
use Rattle.modaudit.specs.command.Arguments.{parted}
use Rattle.modaudit.specs.command.ArgumentViews.{parted_view}
use Rattle.modaudit.proofs.command.PartedLemmas.{before}
use Rattle.modaudit.proofs.command.arguments.parted.Given as goal

abbrev pub invariant-loop-rest : goal.invariant-loop-rest
invariant-loop-rest l = before (parted_view l.parted) (parted (map string_bytes l.rest)) ≡ parted (map string_bytes l.words)

abbrev pub decreases-loop-rest : goal.decreases-loop-rest
decreases-loop-rest l = length l.rest
