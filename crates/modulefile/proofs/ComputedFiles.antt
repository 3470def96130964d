-- Worked files, by computation.
use Rattle.std.proofs.Common.{◌≡◌, ℕ, [], ◌∷◌, Option, Some, None, Result, Ok, Err, refl, ◌∙◌}
use Rattle.std.specs.Prelude.{codes}
use Rattle.std.specs.Str.{chars}
use Rattle.std.specs.Fmt.{digits}
use lib.Utf8.{encode}
use Rattle.tcltext.specs.chars.Runs.{Text}
use Rattle.tcltext.specs.chars.Braces.{braced_at}
use Rattle.tcltext.specs.script.ScanState.{scan}
use Rattle.tcltext.specs.script.Reading.{whole_script, script_with, command_at, word_at, unexpanded_word_at, braced_word_at}
use Rattle.tcltext.specs.script.Reading.{quoted_word_at, quotes_at, parts_with, part_at, dollar_at, backslash_at, bracket_at}
use Rattle.tcltext.specs.script.Reading.{index_at, braced_name_at, after_expansion, inner_at}
use Rattle.tcltext.specs.expr.Marks.{mark_at, after_white}
use Rattle.tcltext.specs.expr.Operands.{operand_at, after_number, after_digits, is_truth, quoted_at, braced_text_at}
use Rattle.tcltext.specs.expr.Operands as operands
use Rattle.tcltext.specs.expr.Reading.{expr_at, whole_at, chain_at, climb_at, prefix_at, below_at}
use Rattle.tcltext.specs.chars.Numerals.{numeral}
use Rattle.tcltext.specs.list.ListReading.{list_of, list_at, element_at, piece_of, piece_at}
use Rattle.tclvalue.specs.operators.Messages as value_messages
use Rattle.tclvalue.specs.Characters.{white_space, split_space}
use Rattle.tclrules.specs.Messages.{no_variable, no_command, outside_loop, cannot_unset, is_array, bad_option, no_body}
use Rattle.tclrules.specs.Messages.{no_loop_variable, cannot_redefine}
use Rattle.tclrules.specs.Names.{unsupported_commands, core_commands}
use Rattle.tclrules.specs.Forms.{core_form}
use Rattle.tclrules.specs.Derivation.{LeftOut}
use Rattle.envvars.specs.Environment.{Environment, with_value}
use Rattle.modulefile.specs.Records.{Set, Unset, Path, Conflict}
use Rattle.modulefile.specs.declared.records.PathEdit.TheVariants.{Front, Back}
use Rattle.modulefile.specs.Calls as calls
use Rattle.modulefile.specs.Answers.{FileContext}
use Rattle.modulefile.specs.Files.{Ran, FileReason, FileStop, halted, refused, failed, RunsFile, play}
use Rattle.modulefile.specs.Rows.{standard, file, loading, unloading, showing, asked_for}
use Rattle.modulefile.proofs.PlayedFiles.{played_runs}

pub computed : FileContext → Text → ℕ → Option (Result Ran FileReason)
unfolding chars digits encode braced_at scan whole_script script_with command_at word_at unexpanded_word_at
    braced_word_at quoted_word_at quotes_at parts_with part_at dollar_at backslash_at bracket_at index_at braced_name_at
    after_expansion inner_at mark_at after_white operand_at after_number after_digits is_truth quoted_at braced_text_at
    operands.word_at expr_at whole_at chain_at climb_at prefix_at below_at numeral list_of list_at element_at piece_of
    piece_at value_messages.divide_by_zero value_messages.negative_shift value_messages.not_a_list
    value_messages.not_numeric value_messages.not_a_boolean value_messages.not_a_whole_number value_messages.bad_index
    value_messages.wrong_words white_space split_space no_variable no_command outside_loop cannot_unset is_array
    bad_option no_body no_loop_variable cannot_redefine unsupported_commands core_commands calls.unsupported_commands
    calls.commands core_form calls.call_of
computed c text steps = play standard c text steps

is_played : (c : FileContext) (text : Text) (steps : ℕ) → play standard c text steps ≡ computed c text steps
unfolding computed
is_played c text steps = refl

-- the outcome of a file that was played in so many steps
pub comes : (c : FileContext) (text : Text) (steps : ℕ) (o : Result Ran FileReason) → computed c text steps ≡ Some o → RunsFile standard c text o
comes c text steps o e = played_runs standard c text steps o (is_played c text steps ∙ e)

pub file_load : (e : Environment) → computed (loading e) (file (codes "setenv K 1\nconflict k\n")) 400 ≡ Some
    (Ok (record {
      records = (Set (codes "K") (codes "1") ∷ Conflict (codes "k" ∷ []) ∷ []);
      messages = [];
      asked = [];
      env = (with_value e (codes "K") (Some (codes "1")));
    }))
unfolding computed
file_load e = refl

pub file_unload : (e : Environment) → computed (unloading e) (file (codes "setenv K 1\nconflict k\n")) 400 ≡ Some
    (Ok (record {
      records = (Set (codes "K") (codes "1") ∷ Conflict (codes "k" ∷ []) ∷ []);
      messages = [];
      asked = [];
      env = (with_value e (codes "K") None);
    }))
unfolding computed
file_unload e = refl

pub file_display : (e : Environment) → computed (showing e) (file (codes "setenv K 1\nconflict k\n")) 400 ≡ Some
    (Ok (record {
      records = (Set (codes "K") (codes "1") ∷ Conflict (codes "k" ∷ []) ∷ []);
      messages = [];
      asked = [];
      env = e;
    }))
unfolding computed
file_display e = refl

pub file_unset_back : (e : Environment) → computed (unloading e) (file (codes "unsetenv LANG C")) 400 ≡ Some
    (Ok (record {
      records = (Unset (codes "LANG") (Some (codes "C")) ∷ []);
      messages = [];
      asked = [];
      env =
          (with_value e (codes "LANG") (Some (codes "C")));
    }))
unfolding computed
file_unset_back e = refl

pub path_delimiters : (e : Environment) → computed (showing e)
    (file (codes "prepend-path -d {;} Q {a:b;c}\nappend-path --delim=: Q a:b")) 400 ≡ Some
    (Ok (record {
      records = (Path Front 59 (codes "Q") (codes "a:b" ∷ codes "c" ∷ []) ∷ Path Back 58 (codes "Q")
          (codes "a" ∷ codes "b" ∷ []) ∷ []);
      messages = [];
      asked = [];
      env = e;
    }))
unfolding computed
path_delimiters e = refl

pub path_value_behind : (e : Environment) → computed (showing e) (file (codes "prepend-path P -d a")) 400 ≡ Some
    (Ok (record {
      records = (Path Front 58 (codes "P") (codes "-d" ∷ codes "a" ∷ []) ∷ []);
      messages = [];
      asked = [];
      env
          = e;
    }))
unfolding computed
path_value_behind e = refl

pub question_mode_unload : (e : Environment) → computed (unloading e)
    (file (codes "if {[module-info mode load]} {setenv X 1}")) 400 ≡ Some
    (Ok (record { records = []; messages = []; asked = (asked_for (codes "module-info" ∷ codes "mode" ∷ codes "load" ∷ []) (codes "0") ∷ []); env = e }))
unfolding computed
question_mode_unload e = refl

pub question_loaded : (e : Environment) → computed (loading e)
    (file (codes "setenv A [is-loaded gcc][is-loaded gc][is-loaded x gcc/9][is-loaded]")) 400 ≡ Some
    (Ok (record {
      records = (Set (codes "A") (codes "1011") ∷ []);
      messages = [];
      asked = (asked_for (codes "is-loaded" ∷ codes "gcc" ∷ []) (codes "1") ∷ asked_for (codes "is-loaded" ∷ codes "gc" ∷ []) (codes "0")
          ∷ asked_for (codes "is-loaded" ∷ codes "x" ∷ codes "gcc/9" ∷ []) (codes "1") ∷ asked_for (codes "is-loaded" ∷ []) (codes "1") ∷ []);
      env =
          (with_value e (codes "A") (Some (codes "1011")));
    }))
unfolding computed
question_loaded e = refl

pub question_getenv_shown : (e : Environment) → computed (showing e) (file (codes "setenv H [getenv HOME]")) 400 ≡ Some
    (Ok (record { records = (Set (codes "H") (codes "$HOME") ∷ []); messages = []; asked = (asked_for (codes "getenv" ∷ codes "HOME" ∷ []) (codes "$HOME") ∷ []); env = e }))
unfolding computed
question_getenv_shown e = refl

pub ending_messages : (e : Environment) → computed (loading e)
    (file (codes "puts stderr hi\nputs -nonewline stderr ho")) 400 ≡ Some
    (Ok (record { records = []; messages = (codes "hi\n" ∷ codes "ho" ∷ []); asked = []; env = e }))
unfolding computed
ending_messages e = refl

pub ending_returns : (e : Environment) → computed (loading e) (file (codes "setenv A 1; return; setenv B 2")) 400 ≡ Some
    (Ok (record {
      records = (Set (codes "A") (codes "1") ∷ []);
      messages = [];
      asked = [];
      env =
          (with_value e (codes "A") (Some (codes "1")));
    }))
unfolding computed
ending_returns e = refl

-- the reason of the file of rows that stops so
abbrev stops_at : FileStop → (outermost innermost line : ℕ) → FileReason
stops_at stop outermost innermost line =
    record {
      stop = stop;
      name = codes "m/1";
      path = codes "/m/m/1";
      place = Some (record { outermost = outermost; innermost = innermost; line = line });
      messages = [];
    }

pub ending_error : (e : Environment) → computed (loading e) (file (codes "setenv A 1\n\nerror {no such thing}")) 400 ≡ Some
    (Err (stops_at (failed (codes "no such thing") 4) 21 21 4))
unfolding computed
ending_error e = refl

pub refused_protected : (e : Environment) → computed (loading e) (file (codes "catch {setenv LOADEDMODULES x}")) 400 ≡
    Some (Err (stops_at (refused (record { number = 33; name = Some (codes "LOADEDMODULES") })) 9 16 2))
unfolding computed
refused_protected e = refl

pub refused_field : (e : Environment) → computed (loading e) (file (codes "module-info nope x y")) 400 ≡ Some
    (Err (stops_at (halted (LeftOut (codes "module-info nope"))) 9 9 2))
unfolding computed
refused_field e = refl
