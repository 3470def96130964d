-- What the values of the code stand for in the definitions (own).
use Rattle.std.specs.Prelude.{string_bytes}
use Rattle.envvars.specs.Texts.{texts_in}
use Rattle.module_reports.specs.completions.Lines.{Command}
use Rattle.module_reports.specs.declared.completions.line.Line.{Line}

-- a command that is typed
abbrev pub line_view : Line → Command
line_view line = (line.caller, (texts_in line.before, string_bytes line.word))
