use Rattle.std.proofs.Common.{◌≡◌, ◌++◌, drop, string_bytes}
use Rattle.std.specs.List.{join_with_byte}
use Rattle.envvars.specs.Texts.{slice_texts}
use Rattle.envvars.proofs.FieldLemmas.{after_separators}
use Rattle.envvars.proofs.fields.join.Given as goal

-- the text so far, and then what is left
abbrev pub invariant-loop-part : goal.invariant-loop-part
invariant-loop-part l = string_bytes l.text ++ after_separators l.separator (slice_texts (drop l.part-index l.later)) ≡ join_with_byte l.separator (slice_texts l.parts)
