use Rattle.std.proofs.Common.{◌++◌, length, string_bytes}
use denote.Text.{Utf8}
use denote.Shadow.{shadow}
use Rattle.tcltext.specs.chars.BracedText.{braced_text}
use Rattle.tcltext.proofs.chars.BracedTextLemmas.{SoFar}
use Rattle.tcltext.proofs.chars.braced_text.push_braced_text.Given as goal

abbrev pub invariant-loop-after : goal.invariant-loop-after
invariant-loop-after l = shadow (Utf8 l.rest) × SoFar (string_bytes l.initial.value ++ braced_text l.initial.rest) (string_bytes l.value) l.rest

abbrev pub decreases-loop-after : goal.decreases-loop-after
decreases-loop-after l = length l.rest
