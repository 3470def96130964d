-- The worked examples, by computation.
use Rattle.std.proofs.Common.{◌≡◌, ℕ, ◌∷◌, Option, Some, None, refl}
use Rattle.std.specs.Prelude.{[], ◌++◌, codes}
use Rattle.std.specs.Str.{chars}
use Rattle.std.specs.Fmt.{digits}
use lib.Utf8.{encode}
use Rattle.tcltext.specs.declared.chars.fault.TextFault.TheVariants as text
use Rattle.tcltext.specs.chars.Braces.{braced_at}
use Rattle.tcltext.specs.script.ScanState.{scan}
use Rattle.tcltext.specs.script.Reading.{whole_script, script_with, command_at, word_at, unexpanded_word_at, braced_word_at}
use Rattle.tcltext.specs.script.Reading.{quoted_word_at, quotes_at, parts_with, part_at, dollar_at, backslash_at, bracket_at}
use Rattle.tcltext.specs.script.Reading.{after_expansion, inner_at}
use Rattle.tcltext.specs.expr.Marks.{mark_at, after_white}
use Rattle.tcltext.specs.expr.Operands.{operand_at, after_number, after_digits, quoted_at}
use Rattle.tcltext.specs.expr.Reading.{expr_at, whole_at, chain_at, climb_at, prefix_at, below_at}
use Rattle.tcltext.specs.chars.Numerals.{numeral}
use Rattle.tcltext.specs.list.ListReading.{list_of, list_at, element_at, piece_of, piece_at}
use Rattle.tclvalue.specs.operators.Messages.{divide_by_zero}
use Rattle.tclvalue.specs.Characters.{white_space}
use Rattle.tclrules.specs.Derivation.{EvaluationOutcome, World, BadText, TooManyCommands, TooDeep, ValueTooLong, ByHost}
use Rattle.tclrules.specs.Messages.{no_variable}
use Rattle.tclrules.specs.Names.{unsupported_commands, core_commands}
use Rattle.tclrules.specs.Recording.{commands_of_recorder}
use Rattle.tclrules.specs.Forms.{core_form}
use Rattle.tclrules.specs.Playing.{Played}
use Rattle.tclrules.specs.Plans.{Completion}
use Rattle.tclrules.specs.Meaning.{Setting, play_file}
use Rattle.tclrules.specs.Shown.{Shown, Result, Halts, Fails, standard, with_commands, with_depth, with_bytes, within}
use Rattle.tclrules.specs.Shown.{recorded, shown_of, trace_of, setenv_words, asked_for_mode, place_in, at_place}
use Rattle.tclrules.specs.declared.outcome.FaultPlace.{FaultPlace}
use Rattle.tcltext.specs.chars.Runs.{Text}

-- what a view shows of a playing
abbrev pub viewed : {A : Type 0} → (EvaluationOutcome Completion → World → A) → Played Completion → Option A
viewed view None = None
viewed view (Some (o, w)) = Some (view o w)

pub computed : {A : Type 0} → Setting → (EvaluationOutcome Completion → World → A) → ℕ → Option A
unfolding chars digits encode braced_at scan whole_script script_with command_at word_at unexpanded_word_at
    braced_word_at quoted_word_at quotes_at parts_with part_at dollar_at backslash_at bracket_at after_expansion
    inner_at mark_at after_white operand_at after_number after_digits quoted_at expr_at whole_at chain_at climb_at
    prefix_at below_at numeral list_of list_at element_at piece_of piece_at divide_by_zero white_space no_variable
    unsupported_commands core_commands commands_of_recorder core_form
computed s view steps = viewed view (play_file s steps)

pub is_viewed : {A : Type 0} (s : Setting) (view : EvaluationOutcome Completion → World → A) (steps : ℕ) → viewed view (play_file s steps) ≡ computed s view steps
unfolding computed
is_viewed s view steps = refl

abbrev sees : Setting → ℕ → Option Shown
sees s steps = computed s (shown_of s.script) steps

pub three_turns_row : sees (within standard (codes "set i 0; while {$i < 3} {incr i}")) 200 ≡ Some (Result [] 8)
unfolding computed
three_turns_row = refl

pub three_turns_limit_row : sees (within (with_commands 7) (codes "set i 0; while {$i < 3} {incr i}")) 200 ≡ Some (Halts TooManyCommands)
unfolding computed
three_turns_limit_row = refl

pub counted_before_words_row : sees (within standard (codes "catch {set a $x}")) 300 ≡ Some (Result (codes "1") 2)
unfolding computed
counted_before_words_row = refl

pub catch_row : sees (within standard (codes "catch {expr {1/0}} m; set m")) 100 ≡ Some (Result (codes "divide by zero") 3)
unfolding computed
catch_row = refl

pub refused_in_catch_row : sees (recorded standard (codes "catch {conflict b}")) 300 ≡ Some (Halts (ByHost 51))
unfolding computed
refused_in_catch_row = refl

pub body_parsed_late_row : sees (within standard (codes "catch {if 1 \"\\\"a\"}")) 300 ≡ Some (Halts (BadText (text.OpenQuote 0)))
unfolding computed
body_parsed_late_row = refl

pub bodies_count_for_depth_row : sees (within (with_depth 3) (codes "if 1 {if 1 {if 1 {}}}")) 300 ≡ Some (Halts TooDeep)
unfolding computed
bodies_count_for_depth_row = refl

pub appended_row : sees (within (with_bytes 10) (codes "set a 123456789; append a 12")) 300 ≡ Some (Halts ValueTooLong)
unfolding computed
appended_row = refl

pub foreach_row : sees (within standard (codes "foreach {x y} {1 2 3} {append s $x-$y,}; set s")) 200 ≡ Some (Result (codes "1-2,3-,") 6)
unfolding computed
foreach_row = refl

pub proc_row : sees (within standard (codes "proc f {a {b 2} args} {return $a$b$args}; f 1")) 100 ≡ Some (Result (codes "12") 3)
unfolding computed
proc_row = refl

pub shared_variable_row : sees (within standard (codes "set x 1; proc f {} {set x 3; global x; set x}; f")) 300 ≡ Some (Result (codes "1") 6)
unfolding computed
shared_variable_row = refl

pub asked_mode_row : computed (recorded standard (codes "if {[mode] eq \"unload\"} {setenv A 1}")) trace_of 300 ≡ Some
    (record { records = (setenv_words (codes "A") (codes "1") ∷ []); messages = []; asked = asked_for_mode ∷ []; refused = None })
unfolding computed
asked_mode_row = refl

pub in_a_procedure_row : sees (within standard (codes "proc f {} {\nset x\n}\nf")) 300 ≡ Some (Fails (codes "can't read \"x\": no such variable") 4)
unfolding computed
in_a_procedure_row = refl

-- where the evaluation of a file stood at its end
abbrev ends_at : Text → Option (Option FaultPlace)
ends_at script = computed (recorded standard script) (place_in script) 300

pub in_if_row : ends_at (codes "if 1 {\nconflict b\n}") ≡ Some (at_place 0 7 2)
unfolding computed
in_if_row = refl

pub in_foreach_row : ends_at (codes "set x 1\nforeach i {1 2} {\nconflict b\n}") ≡ Some (at_place 8 26 3)
unfolding computed
in_foreach_row = refl

pub in_while_row : ends_at (codes "while 1 {conflict b}") ≡ Some (at_place 0 9 1)
unfolding computed
in_while_row = refl

pub in_switch_row : ends_at (codes "switch a {a {conflict b}}") ≡ Some (at_place 0 13 1)
unfolding computed
in_switch_row = refl

pub behind_catch_row : ends_at (codes "catch {error a}\nerror b") ≡ Some (at_place 16 16 2)
unfolding computed
behind_catch_row = refl

pub behind_loop_row : ends_at (codes "while 1 {break}\nerror e") ≡ Some (at_place 16 16 2)
unfolding computed
behind_loop_row = refl

pub in_second_call_row : ends_at (codes "proc f x {if $x {error e}}\nf 0\nf 1") ≡ Some (at_place 31 17 1)
unfolding computed
in_second_call_row = refl

pub at_break_row : ends_at (codes "proc f {} {break}\nf") ≡ Some (at_place 18 11 1)
unfolding computed
at_break_row = refl

pub in_quotes_row : ends_at (codes "if 1 \"error e\"") ≡ Some (at_place 0 0 1)
unfolding computed
in_quotes_row = refl

pub in_brackets_row : ends_at (codes "set x [error e]") ≡ Some (at_place 0 0 1)
unfolding computed
in_brackets_row = refl

pub behind_continuation_row : ends_at (codes "if 1 {set x \\\n  1; error e}") ≡ Some (at_place 0 19 2)
unfolding computed
behind_continuation_row = refl

pub behind_two_bytes_row : ends_at (codes "set x " ++ 195 ∷ 169 ∷ codes "\nif 1 {error e}") ≡ Some (at_place 9 15 2)
unfolding computed
behind_two_bytes_row = refl
