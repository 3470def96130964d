use Rattle.std.proofs.Common.{map, take}
use Rattle.tcltext.specs.chars.Runs.{Text}
use Rattle.tcltext.specs.script.Tree.{nesting, words_nesting, parts_nesting, commands_of}
use Rattle.tcltext.specs.script.View.{command_view, parts_view}
use Rattle.tcltext.specs.expr.View.{words_view}
use Rattle.tcltext.proofs.expr.Heights.{Tallest}
use Rattle.tcltext.proofs.expr.nesting.+nesting.Given as goal

abbrev pub invariant-parts_nesting-loop-part : goal.invariant-parts_nesting-loop-part
invariant-parts_nesting-loop-part g l = (shown : g.row.P.Denot → Text) → Tallest 18446744073709551615 l.height (parts_nesting (parts_view shown (take l.part-index l.part-items)))

abbrev pub invariant-script_nesting-loop-command : goal.invariant-script_nesting-loop-command
invariant-script_nesting-loop-command g l = (shown : g.row.P.Denot → Text)
    → Tallest 18446744073709551615 l.height (nesting
    (commands_of (map (command_view shown) (take l.command-index l.command-items))))

abbrev pub invariant-words_nesting-loop-word : goal.invariant-words_nesting-loop-word
invariant-words_nesting-loop-word g l = (shown : g.row.P.Denot → Text) → Tallest 18446744073709551615 l.height (words_nesting (words_view shown (take l.word-index l.word-items)))
