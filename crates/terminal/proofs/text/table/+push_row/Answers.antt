use Rattle.std.proofs.Common.{◌≡◌, ◌++◌, ◌<◌, List, ℕ, string_bytes, length, ap, ◌∙◌, arith}
use Rattle.terminal.proofs.text.TableLemmas.{on_ok_then, row_turn, row_joins}
use Rattle.terminal.proofs.text.table.+push_row.Goals as goal

pub returns : goal.returns
returns t c =
    let cells = c.args.cells.now in
    let cell = c.cell-item.result in
    let some : 0 < c.args.count = omega arith in
    let there : 0 < length cells = omega arith in
    let turn = row_turn c.args.layout.column c.args.layout.rows c.args.count c.args.gap cells cell some there c.cell-item.is in
    let celled : string_bytes c.push_str.new.self ≡ string_bytes c.push_blanks.new.text ++ string_bytes cell.text =
    c.in_ok-push_str.ensures.bytes ∙ ap (λ (l : List ℕ). string_bytes c.push_blanks.new.text ++ l) c.deref.ensures in
    on_ok_then c.push_row.result (λ written. row_joins (string_bytes c.args.text.now) (string_bytes c.push_blanks.new.text) (string_bytes c.push_str.new.self) (string_bytes c.push_row.new.text) _ (string_bytes cell.text) _ _
    c.in_ok-push_blanks.ensures celled turn (rw (c.saturating_sub-after.ensures, c.later.ensures) at written)) c.push_row.ensures
