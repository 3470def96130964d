use Rattle.std.proofs.Common.{◌≡◌, length}
use Rattle.tcltext.specs.chars.Runs.{drop_while}
use Rattle.tcltext.specs.chars.Backslash.{is_blank_or_tab}
use Rattle.tcleval.proofs.places.after_blanks.Given as goal

abbrev pub invariant-loop-rest : goal.invariant-loop-rest
invariant-loop-rest l = drop_while is_blank_or_tab l.rest ≡ drop_while is_blank_or_tab l.bytes

abbrev pub decreases-loop-rest : goal.decreases-loop-rest
decreases-loop-rest l = length l.rest
