use Rattle.std.proofs.Common.{◌≤◌, length, map, ◌+◌, ◌*◌}
use denote.Text.{Utf8}
use denote.Shadow.{shadow}
use Rattle.tcltext.specs.script.Ends.{is_nested}
use Rattle.tcltext.specs.script.Pieces.{IsSuffixOf}
use Rattle.tcltext.specs.script.View.{command_view, word_view, part_view}
use Rattle.tcltext.proofs.script.Turns.{CommandsSoFar, WordsSoFar, PartsSoFar}
use Rattle.tcltext.proofs.script.reading.+read.Given as goal

abbrev pub decreases-read_bracket : goal.decreases-read_bracket
decreases-read_bracket g l = 11 * l.depth

abbrev pub decreases-read_index : goal.decreases-read_index
decreases-read_index g l = 11 * l.depth

abbrev pub decreases-read_dollar : goal.decreases-read_dollar
decreases-read_dollar g l = 11 * l.depth + 1

abbrev pub decreases-read_part : goal.decreases-read_part
decreases-read_part g l = 11 * l.depth + 2

abbrev pub decreases-read_parts : goal.decreases-read_parts
decreases-read_parts g l = 11 * l.depth + 3

abbrev pub decreases-read_quotes : goal.decreases-read_quotes
decreases-read_quotes g l = 11 * l.depth + 4

abbrev pub decreases-read_unexpanded_word : goal.decreases-read_unexpanded_word
decreases-read_unexpanded_word g l = 11 * l.depth + 7

abbrev pub decreases-read_word : goal.decreases-read_word
decreases-read_word g l = 11 * l.depth + 8

abbrev pub decreases-read_command : goal.decreases-read_command
decreases-read_command g l = 11 * l.depth + 9

abbrev pub decreases-read_script : goal.decreases-read_script
decreases-read_script g l = 11 * l.depth + 10

abbrev pub invariant-read_command-loop-alloc : goal.invariant-read_command-loop-alloc
invariant-read_command-loop-alloc g l = record {
  utf8 : shadow (Utf8 l.rest);
  end : IsSuffixOf (g.S.Source.text l.source) l.rest;
  so_far : WordsSoFar (is_nested l.nesting) l.depth l.text (g.S.Source.shown l.source l.first_text) (map (word_view (g.S.Source.shown l.source)) l.words.items) l.rest;
}

abbrev pub decreases-read_command-loop-alloc : goal.decreases-read_command-loop-alloc
decreases-read_command-loop-alloc g l = length l.rest

abbrev pub invariant-read_parts-loop-alloc : goal.invariant-read_parts-loop-alloc
invariant-read_parts-loop-alloc g l = record {
  utf8 : shadow (Utf8 l.rest);
  end : IsSuffixOf (g.S.Source.text l.source) l.rest;
  so_far : PartsSoFar l.context l.depth l.text (map (part_view (g.S.Source.shown l.source)) l.parts.items) l.rest;
}

abbrev pub decreases-read_parts-loop-alloc : goal.decreases-read_parts-loop-alloc
decreases-read_parts-loop-alloc g l = length l.rest

abbrev pub invariant-read_script-loop-alloc : goal.invariant-read_script-loop-alloc
invariant-read_script-loop-alloc g l = record {
  utf8 : shadow (Utf8 l.rest);
  end : IsSuffixOf (g.S.Source.text l.source) l.rest;
  shorter : length l.rest ≤ length l.text;
  so_far : CommandsSoFar (is_nested l.nesting) l.depth l.text (map (command_view (g.S.Source.shown l.source)) l.commands.items) l.rest;
}

abbrev pub decreases-read_script-loop-alloc : goal.decreases-read_script-loop-alloc
decreases-read_script-loop-alloc g l = length l.rest
