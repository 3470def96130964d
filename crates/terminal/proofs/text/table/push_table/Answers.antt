use Rattle.std.proofs.Common.{◌≡◌, ◌++◌, [], ◌∷◌, List, ℕ, map, drop, string_bytes, sym, ap, ◌∙◌, arith}
use Rattle.terminal.specs.text.Tables.{Cell, row_line, row_text}
use Rattle.terminal.specs.text.CellViews.{cell_view}
use Rattle.terminal.proofs.text.TableLemmas.{map_drop, rows_join}
use Rattle.terminal.proofs.text.table.push_table.Goals as goal

pub loop-row-preserved : goal.loop-row-preserved
loop-row-preserved c =
    let layout = c.layout_of-layout.result in
    let cells = map cell_view c.args.cells.now in
    let row_of : List Cell → List ℕ = λ later. row_text layout.column layout.rows layout.cells 0 later in
    let there : map cell_view c.later.result.now ≡ drop c.loop-row.row cells =
    ap (map cell_view) c.later.ensures ∙ sym (map_drop cell_view c.loop-row.row c.args.cells.now) in
    rows_join (row_line layout.column layout.rows layout.cells cells) c.loop-row.row (string_bytes c.args.text.now) (string_bytes c.loop-row.text) (string_bytes c.push_row.new.text) (string_bytes c.push.new.self)
    (row_of (map cell_view c.later.result.now)) c.loop-row.invariant c.in_ok-push_row.ensures (c.in_ok-push.ensures.bytes ∙ ap (λ (l : List ℕ). string_bytes c.push_row.new.text ++ l) (c.in_ok-push.ensures.ascii (omega arith))) (ap (λ (later : List Cell). row_of later ++ 10 ∷ []) (sym there))
