-- What is read of an input, and when reading it fails (own).
use Rattle.std.specs.Prelude.{◌≡◌, ◌⊎◌, ◌<◌, ◌≤◌, ◌+◌, ℕ, false, length, Option, Result, Ok, Err, string_bytes}
use Rattle.std.specs.declared.alloc.Global.{Global}
use Rattle.std.specs.declared.string.String.{String}
use Rattle.std.specs.Io.KnownBytes.{Consumes, IsAtEnd}
use Rattle.std.specs.Str.{is_utf8}
use Rattle.message.specs.Messages.{Text}
use Rattle.process.specs.declared.input.InputFault.{InputFault}
use Rattle.process.specs.declared.input.InputFault.TheVariants.{OutOfMemory, ReadFailed, BadInput}

-- the most bytes that an input may have
abbrev pub input_limit : ℕ
input_limit = 1048576

-- All the bytes that a reader had left were read, and they are this text.
abbrev pub ReadsAll : Option Text → Option Text → Text → Type 0
ReadsAll old new text = Consumes old new text × IsAtEnd new

-- the error is that of an input of which these bytes were read: the read after them failed, and they aren't too many;
-- there are more than an input may have; or they are all of it, and aren't UTF-8
abbrev pub IsInputFault : InputFault → Option Text → Text → Type 0
IsInputFault OutOfMemory new bytes = Unit {0}
IsInputFault ReadFailed new bytes = length bytes ≤ input_limit
IsInputFault BadInput new bytes = (input_limit < length bytes) ⊎ (IsAtEnd new × (is_utf8 bytes ≡ false))

-- Some bytes were read before the error, at most one more than an input may have.
abbrev pub FailsAfterReading : InputFault → Option Text → Option Text → Type 0
FailsAfterReading fault old new =
    (bytes : Text) × Consumes old new bytes × (length bytes ≤ input_limit + 1) × IsInputFault fault new bytes

-- The text of an input that has these bytes, unless they are too many or aren't UTF-8, which is bad input.
abbrev pub IsTextOf : Text → Result (String Global) InputFault → Type 0
IsTextOf bytes (Ok text) = (string_bytes text ≡ bytes) × (length bytes ≤ input_limit)
IsTextOf bytes (Err fault) = (fault ≡ BadInput)
    × ((input_limit < length bytes) ⊎ ((length bytes ≤ input_limit) × (is_utf8 bytes ≡ false)))
