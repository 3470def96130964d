-- What the values of the code stand for, for the contracts of private functions (own).
use Rattle.std.specs.Prelude.{string_bytes, vec_items}
use Rattle.module_subcommands.specs.Completions.{Wanted}
use Rattle.module_subcommands.specs.declared.completing.Wanted as code

abbrev pub wanted_view : code.Wanted → Wanted
wanted_view w = (vec_items w.kinds, string_bytes w.word)
