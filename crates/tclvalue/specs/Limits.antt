-- The limit on the bytes of a value. Own.
use Rattle.std.specs.Prelude.{ℕ, length, nat_le, if◌then◌else◌, Ok, Err}
use Rattle.tcltext.specs.chars.Runs.{Text}
use Rattle.tclvalue.specs.operators.Faults.{Answer, value_too_long}

-- the text, or the reason that it has more bytes than the limit
abbrev pub limited : ℕ → Text → Answer Text
limited n t = if nat_le (length t) n then Ok t else Err value_too_long
