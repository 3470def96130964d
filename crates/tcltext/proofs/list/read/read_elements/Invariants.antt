use Rattle.std.proofs.Common.{length, map, string_bytes}
use denote.Text.{Utf8}
use denote.Shadow.{shadow}
use Rattle.tcltext.specs.chars.Bytes.{is_space}
use Rattle.tcltext.specs.chars.Runs.{drop_while}
use Rattle.tcltext.specs.list.ListReading.{text_ends, element_at}
use Rattle.tcltext.proofs.list.Loops.{SoFar}
use Rattle.tcltext.proofs.list.read.read_elements.Given as goal

abbrev pub invariant-loop-start : goal.invariant-loop-start
invariant-loop-start l = shadow (Utf8 l.rest) × SoFar (drop_while is_space) text_ends element_at l.text (map string_bytes l.elements.items) l.rest

abbrev pub decreases-loop-start : goal.decreases-loop-start
decreases-loop-start l = length l.rest
