use Rattle.terminal.specs.columns.Views.{width_in}
use Rattle.terminal.proofs.columns.LineLemmas.{lines_join, on_ok_then}
use Rattle.terminal.proofs.columns.aligning.push_lines.Goals as goal

pub returns : goal.returns
returns c =
    on_ok_then c.push_later.result
    (lines_join (width_in c.args.widths.now) c.args.lines.now _ c.args.text.now.items c.push_line.new.text.items c.push_later.new.text.items c.in-len1-up.len_at_least c.in_ok-push_line.ensures)
    c.push_later.ensures
