-- What a writer holds after a write that failed (std's `Write`).
use Rattle.std.specs.Prelude.{ℕ, ◌<◌, take, length, Option}
use Rattle.std.specs.Io.KnownBytes.{Appends}
use Rattle.envvars.specs.Texts.{Text}

-- known bytes grow by a first part of the text that is not the whole of it
abbrev pub AppendsPart : Option Text → Option Text → Text → Type 0
AppendsPart old new text = (k : ℕ) × (k < length text) × Appends old new (take k text)
