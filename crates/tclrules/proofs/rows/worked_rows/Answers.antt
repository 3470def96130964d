use Rattle.std.proofs.Common.{[], ◌∷◌, None}
use Rattle.std.specs.Prelude.{codes}
use Rattle.tcltext.specs.declared.chars.fault.TextFault.TheVariants as text
use Rattle.tclrules.specs.Derivation.{BadText, TooManyCommands, TooDeep, ValueTooLong, ByHost}
use Rattle.tclrules.specs.Shown.{standard, with_commands, with_depth, with_bytes, within, recorded, trace_of}
use Rattle.tclrules.specs.Shown.{setenv_words, asked_for_mode, Result, Fails, Halts}
use Rattle.tclrules.proofs.Computed as computed
use Rattle.tclrules.proofs.Seen.{shows, sights}
use Rattle.tclrules.proofs.rows.worked_rows.Goals as goal

pub returns-clause-three_turns : goal.returns-clause-three_turns
returns-clause-three_turns c = sights (within standard (codes "set i 0; while {$i < 3} {incr i}")) (Result [] 8) 200 computed.three_turns_row

pub returns-clause-three_turns_limit : goal.returns-clause-three_turns_limit
returns-clause-three_turns_limit c = sights (within (with_commands 7) (codes "set i 0; while {$i < 3} {incr i}")) (Halts TooManyCommands) 200 computed.three_turns_limit_row

pub returns-clause-counted_before_words : goal.returns-clause-counted_before_words
returns-clause-counted_before_words c = sights (within standard (codes "catch {set a $x}")) (Result (codes "1") 2) 300 computed.counted_before_words_row

pub returns-clause-catch : goal.returns-clause-catch
returns-clause-catch c = sights (within standard (codes "catch {expr {1/0}} m; set m")) (Result (codes "divide by zero") 3) 100 computed.catch_row

pub returns-clause-refused_in_catch : goal.returns-clause-refused_in_catch
returns-clause-refused_in_catch c = sights (recorded standard (codes "catch {conflict b}")) (Halts (ByHost 51)) 300 computed.refused_in_catch_row

pub returns-clause-body_parsed_late : goal.returns-clause-body_parsed_late
returns-clause-body_parsed_late c = sights (within standard (codes "catch {if 1 \"\\\"a\"}")) (Halts (BadText (text.OpenQuote 0))) 300 computed.body_parsed_late_row

pub returns-clause-bodies_count_for_depth : goal.returns-clause-bodies_count_for_depth
returns-clause-bodies_count_for_depth c = sights (within (with_depth 3) (codes "if 1 {if 1 {if 1 {}}}")) (Halts TooDeep) 300 computed.bodies_count_for_depth_row

pub returns-clause-appended : goal.returns-clause-appended
returns-clause-appended c = sights (within (with_bytes 10) (codes "set a 123456789; append a 12")) (Halts ValueTooLong) 300 computed.appended_row

pub returns-clause-foreach : goal.returns-clause-foreach
returns-clause-foreach c = sights (within standard (codes "foreach {x y} {1 2 3} {append s $x-$y,}; set s")) (Result (codes "1-2,3-,") 6) 200 computed.foreach_row

pub returns-clause-proc : goal.returns-clause-proc
returns-clause-proc c = sights (within standard (codes "proc f {a {b 2} args} {return $a$b$args}; f 1")) (Result (codes "12") 3) 100 computed.proc_row

pub returns-clause-shared_variable : goal.returns-clause-shared_variable
returns-clause-shared_variable c = sights (within standard (codes "set x 1; proc f {} {set x 3; global x; set x}; f")) (Result (codes "1") 6) 300 computed.shared_variable_row

pub returns-clause-asked_mode : goal.returns-clause-asked_mode
returns-clause-asked_mode c = shows (recorded standard (codes "if {[mode] eq \"unload\"} {setenv A 1}")) trace_of
    (record { records = (setenv_words (codes "A") (codes "1") ∷ []); messages = []; asked = asked_for_mode ∷ []; refused = None }) 300
    computed.asked_mode_row

pub returns-clause-in_a_procedure : goal.returns-clause-in_a_procedure
returns-clause-in_a_procedure c = sights (within standard (codes "proc f {} {\nset x\n}\nf")) (Fails (codes "can't read \"x\": no such variable") 4) 300 computed.in_a_procedure_row
