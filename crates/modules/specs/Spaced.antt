-- Names in one text, as a refusal shows them.
use Rattle.std.specs.Prelude.{List}
use Rattle.std.specs.List.{join_with_byte}
use Rattle.envvars.specs.Texts.{Text}

-- the names, with a space between two
abbrev pub spaced : List Text → Text
spaced names = join_with_byte 32 names
