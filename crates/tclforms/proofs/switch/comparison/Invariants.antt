use Rattle.std.proofs.Common.{◌≡◌, false, map, drop, string_bytes}
use Rattle.tclrules.specs.Forms.{by_glob}
use Rattle.tclforms.specs.Views.{is_glob}
use Rattle.tclforms.proofs.switch.comparison.Given as goal

abbrev pub invariant-loop-option : goal.invariant-loop-option
invariant-loop-option l = by_glob false (map string_bytes l.options) ≡ by_glob (is_glob l.comparison) (map string_bytes (drop l.option-index l.options))
