use Rattle.std.proofs.Common.{◌∷◌, ◌++◌}
use Rattle.std.specs.Prelude.{codes}
use Rattle.tclrules.specs.Shown.{standard, recorded, place_in, at_place}
use Rattle.tclrules.proofs.Computed as computed
use Rattle.tclrules.proofs.Seen.{shows}
use Rattle.tclrules.proofs.rows.place_rows.Goals as goal

pub returns-clause-in_if : goal.returns-clause-in_if
returns-clause-in_if c =
    let script = codes "if 1 {\nconflict b\n}" in
    shows (recorded standard script) (place_in script) (at_place 0 7 2) 300 computed.in_if_row

pub returns-clause-in_foreach : goal.returns-clause-in_foreach
returns-clause-in_foreach c =
    let script = codes "set x 1\nforeach i {1 2} {\nconflict b\n}" in
    shows (recorded standard script) (place_in script) (at_place 8 26 3) 300 computed.in_foreach_row

pub returns-clause-in_while : goal.returns-clause-in_while
returns-clause-in_while c =
    let script = codes "while 1 {conflict b}" in
    shows (recorded standard script) (place_in script) (at_place 0 9 1) 300 computed.in_while_row

pub returns-clause-in_switch : goal.returns-clause-in_switch
returns-clause-in_switch c =
    let script = codes "switch a {a {conflict b}}" in
    shows (recorded standard script) (place_in script) (at_place 0 13 1) 300 computed.in_switch_row

pub returns-clause-behind_catch : goal.returns-clause-behind_catch
returns-clause-behind_catch c =
    let script = codes "catch {error a}\nerror b" in
    shows (recorded standard script) (place_in script) (at_place 16 16 2) 300 computed.behind_catch_row

pub returns-clause-behind_loop : goal.returns-clause-behind_loop
returns-clause-behind_loop c =
    let script = codes "while 1 {break}\nerror e" in
    shows (recorded standard script) (place_in script) (at_place 16 16 2) 300 computed.behind_loop_row

pub returns-clause-in_second_call : goal.returns-clause-in_second_call
returns-clause-in_second_call c =
    let script = codes "proc f x {if $x {error e}}\nf 0\nf 1" in
    shows (recorded standard script) (place_in script) (at_place 31 17 1) 300 computed.in_second_call_row

pub returns-clause-at_break : goal.returns-clause-at_break
returns-clause-at_break c =
    let script = codes "proc f {} {break}\nf" in
    shows (recorded standard script) (place_in script) (at_place 18 11 1) 300 computed.at_break_row

pub returns-clause-in_quotes : goal.returns-clause-in_quotes
returns-clause-in_quotes c =
    let script = codes "if 1 \"error e\"" in
    shows (recorded standard script) (place_in script) (at_place 0 0 1) 300 computed.in_quotes_row

pub returns-clause-in_brackets : goal.returns-clause-in_brackets
returns-clause-in_brackets c =
    let script = codes "set x [error e]" in
    shows (recorded standard script) (place_in script) (at_place 0 0 1) 300 computed.in_brackets_row

pub returns-clause-behind_continuation : goal.returns-clause-behind_continuation
returns-clause-behind_continuation c =
    let script = codes "if 1 {set x \\\n  1; error e}" in
    shows (recorded standard script) (place_in script) (at_place 0 19 2) 300 computed.behind_continuation_row

pub returns-clause-behind_two_bytes : goal.returns-clause-behind_two_bytes
returns-clause-behind_two_bytes c =
    let script = codes "set x " ++ 195 ∷ 169 ∷ codes "\nif 1 {error e}" in
    shows (recorded standard script) (place_in script) (at_place 9 15 2) 300 computed.behind_two_bytes_row
