-- The text of the increment of incr(n), which is 1 where no word says it (own).
use Rattle.std.specs.Prelude.{codes}
use Rattle.tcltext.specs.chars.Runs.{Text}
use Rattle.tclcommands.specs.declared.increment.Increment.{Increment}
use Rattle.tclcommands.specs.declared.increment.Increment.TheVariants as increments

abbrev pub increment_text : Increment → Text
increment_text increments.One = codes "1"
increment_text (increments.Word t) = t.now
