-- How files are written (own).
use Rattle.std.specs.Prelude.{◌≡◌, false}
use Rattle.port_reading.specs.declared.file_text.SourceEncoding.{SourceEncoding}

-- in UTF-8 without a byte order mark, in lines that end in newlines, as far as the text differs else
abbrev pub IsPlain : SourceEncoding → Type 0
IsPlain s = (s.mark ≡ false) × (s.latin ≡ false) × (s.returns ≡ false)
