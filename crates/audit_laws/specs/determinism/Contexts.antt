-- The contexts in which a modulefile is evaluated, and files whose evaluations in all of them are equivalent (own;
-- module-info and is-loaded of modulefile(5)).
use Rattle.std.specs.Prelude.{Bool, true, false, not, ◌&&◌, ◌||◌, ◌==◌, List, [], ◌∷◌, ◌++◌, drop, flat_map, bytes_eq}
use Rattle.std.specs.Prelude.{Result, Ok, Err}
use Rattle.std.specs.List.{list_all}
use Rattle.std.specs.Option.{option_eq}
use Rattle.envvars.specs.Texts.{Text}
use Rattle.shelltext.specs.declared.shell.Shell.{Shell}
use Rattle.shelltext.specs.declared.shell.Shell.TheVariants.{Sh}
use Rattle.shelltext.specs.Shells.{all_shells}
use Rattle.tclrules.specs.Oracle.{Question}
use Rattle.modulefile.specs.Records.{Record, Set, Unset, Push, Path, conflict_names}
use Rattle.modulefile.specs.declared.records.PathEdit.{PathEdit}
use Rattle.modulefile.specs.declared.records.PathEdit.TheVariants.{Front, Back, Remove}
use Rattle.modulefile.specs.Effects.{Mode, load, unload, display, whatis}
use Rattle.modulefile.specs.Files.{Ran}
use Rattle.reversal.specs.VariableUses.{can_return, absent_in}
use Rattle.reversal.specs.Undone.{undo_of}
use Rattle.audit_laws.specs.determinism.StableInput.{is_stable_input, asks_context, asks_mode, asks_shell, variables_read}
pub use Rattle.audit_laws.specs.determinism.LoadedAnswers.{same_by}
use Rattle.audit_laws.specs.determinism.LoadedAnswers.{is_one_of, distinct_questions, are_few, questions_tried, loaded_lists}

-- How a file is evaluated: for what, as a half of a switch or not, for which shell, and with which modules loaded.
pub record EvaluationContext : Type 0 where
  pub mode : Mode
  pub in_switch : Bool
  pub shell : Shell
  pub loaded : List Text

-- for loading, in no switch, in this shell
abbrev pub loading_in : Shell → List Text → EvaluationContext
loading_in shell loaded = record { mode = load; in_switch = false; shell = shell; loaded = loaded }

-- the first context: in sh, with nothing loaded
abbrev pub first_context : EvaluationContext
first_context = loading_in Sh []

-- where the mode is asked for, the others of one shell: loading as a half of a switch, and unloading, alone and as one
abbrev pub more_in : Bool → Shell → List Text → List EvaluationContext
more_in false shell loaded = []
more_in true shell loaded =
    record { mode = load; in_switch = true; shell = shell; loaded = loaded }
    ∷ record { mode = unload; in_switch = false; shell = shell; loaded = loaded }
    ∷ record { mode = unload; in_switch = true; shell = shell; loaded = loaded } ∷ []

abbrev pub contexts_in : Bool → List Text → Shell → List EvaluationContext
contexts_in of_mode loaded shell = loading_in shell loaded ∷ more_in of_mode shell loaded

-- the shells but sh
abbrev pub other_shells : List Shell
other_shells = drop 1 all_shells

-- the contexts of the other shells, where the shell is asked for
abbrev pub contexts_elsewhere : Bool → Bool → List Text → List EvaluationContext
contexts_elsewhere of_mode false loaded = []
contexts_elsewhere of_mode true loaded = flat_map (contexts_in of_mode loaded) other_shells

-- the contexts with these modules loaded, beside that for loading in sh
abbrev pub more_with : Bool → Bool → List Text → List EvaluationContext
more_with of_mode of_shell loaded = more_in of_mode Sh loaded ++ contexts_elsewhere of_mode of_shell loaded

abbrev pub contexts_with : Bool → Bool → List Text → List EvaluationContext
contexts_with of_mode of_shell loaded = loading_in Sh loaded ∷ more_with of_mode of_shell loaded

-- The contexts that questions ask for, beside the first: those with nothing loaded, which answers no to what is asked
-- of what is loaded, and those with what is loaded by each other choice of answers.
abbrev pub other_contexts : List Question → List EvaluationContext
other_contexts asked =
    more_with (asks_mode asked) (asks_shell asked) []
    ++ flat_map (contexts_with (asks_mode asked) (asks_shell asked)) (loaded_lists (questions_tried asked))

-- What the evaluations of one file leave: the first, and in each of the other contexts that it asks for, or why they
-- are refused there.
pub record FileRuns (R : Type 0) : Type 0 where
  pub first : Ran
  pub others : List (Result Ran R)

-- ---- records that undo equivalently

-- the same end of a path
abbrev pub same_edit : PathEdit → PathEdit → Bool
same_edit Front Front = true
same_edit Front Back = false
same_edit Front Remove = false
same_edit Back Front = false
same_edit Back Back = true
same_edit Back Remove = false
same_edit Remove Front = false
same_edit Remove Back = false
same_edit Remove Remove = true

-- the same record, of the kinds that an unload sees
abbrev pub same_record : Record → Record → Bool
same_record (Set v x) (Set w y) = bytes_eq x y && bytes_eq v w
same_record (Unset v x) (Unset w y) = option_eq bytes_eq x y && bytes_eq v w
same_record (Push v x) (Push w y) = bytes_eq x y && bytes_eq v w
same_record (Path e d v xs) (Path f k w ys) = same_edit e f && (d == k && (bytes_eq v w && same_by bytes_eq xs ys))
same_record r q = false

-- `UndoEquivalently` as a test: an unload by the ones does what an unload by the others does
abbrev pub do_undo_equivalently : List Record → List Record → Bool
do_undo_equivalently rs qs = same_by same_record (undo_of rs) (undo_of qs)

-- ---- evaluations that are equivalent

-- the questions ask nothing of the context that the first ones don't ask
abbrev pub asks_no_more : List Question → List Question → Bool
asks_no_more first asked =
    (not (asks_mode asked) || asks_mode first)
    && ((not (asks_shell asked) || asks_shell first)
    && list_all (λ names. is_one_of names (distinct_questions first)) (distinct_questions asked))

-- Where a file is loaded, its records are of kinds after which the start can be back, keep the same variables absent as
-- those of the first evaluation, and are in conflict with the same names.
abbrev pub loads_equivalently : Mode → List Record → List Record → Bool
loads_equivalently load rs qs =
    list_all can_return qs && (same_by bytes_eq (absent_in rs) (absent_in qs)
    && same_by bytes_eq (conflict_names rs) (conflict_names qs))
loads_equivalently unload rs qs = true
loads_equivalently display rs qs = true
loads_equivalently whatis rs qs = true

-- Records undo the same as those of the first evaluation, and so it is of what is asked of loading.
abbrev pub are_records_equivalent : Mode → List Record → List Record → Bool
are_records_equivalent mode rs qs = do_undo_equivalently rs qs && loads_equivalently mode rs qs

-- What the evaluation for this mode left is like what the first left: each question has a stable input, it asks of the
-- context no more, and its records are equivalent.
abbrev pub is_run_equivalent : Ran → Mode → Ran → Bool
is_run_equivalent first mode ran =
    list_all (is_stable_input ran.records) ran.asked
    && (asks_no_more first.asked ran.asked && are_records_equivalent mode first.records ran.records)

-- The evaluation in a context is accepted, and leaves what is like it.
abbrev pub is_equivalent : {R : Type 0} → Ran → EvaluationContext → Result Ran R → Bool
is_equivalent first way (Ok ran) = is_run_equivalent first way.mode ran
is_equivalent first way (Err reason) = false

-- the evaluations in these contexts are like the first
abbrev pub are_equivalent : {R : Type 0} → Ran → List EvaluationContext → List (Result Ran R) → Bool
are_equivalent first [] [] = true
are_equivalent first [] (outcome ∷ outcomes) = false
are_equivalent first (way ∷ ways) [] = false
are_equivalent first (way ∷ ways) (outcome ∷ outcomes) = is_equivalent first way outcome && are_equivalent first ways outcomes

-- The evaluations of a file are equivalent, in all contexts that it asks for: it asks so few questions of what is
-- loaded that each choice of answers is tried.
abbrev pub are_runs_equivalent : {R : Type 0} → FileRuns R → Bool
are_runs_equivalent runs =
    are_few runs.first.asked && are_equivalent runs.first (other_contexts runs.first.asked) runs.others

-- A question of the first evaluation has a stable answer: what it asks for is stable, and where it is of the context,
-- the evaluations in the contexts that are asked for are equivalent.
abbrev pub has_stable_answer : Bool → List Record → Question → Bool
has_stable_answer alike records q = is_stable_input records q && (alike || not (asks_context q))

-- each of them does
abbrev pub have_stable_answers : {R : Type 0} → FileRuns R → Bool
have_stable_answers runs = list_all (has_stable_answer (are_runs_equivalent runs) runs.first.records) runs.first.asked

-- What the evaluations left is deterministic: each question has a stable answer, and after each record the start can be
-- back.
abbrev pub is_deterministic : {R : Type 0} → FileRuns R → Bool
is_deterministic runs = have_stable_answers runs && list_all can_return runs.first.records

-- the variables that an evaluation reads
abbrev pub read_in : {R : Type 0} → Result Ran R → List Text
read_in (Ok ran) = variables_read ran.asked
read_in (Err reason) = []

-- the variables that the evaluations read
abbrev pub reads_in : {R : Type 0} → FileRuns R → List Text
reads_in runs = variables_read runs.first.asked ++ flat_map read_in runs.others
