use Rattle.std.proofs.Common.{rules, arith, refl, sym, ap, ◌∙◌, ◌≡◌, ◌<◌, [], List, Bor, get_or, map, option_map}
use Rattle.std.proofs.Common.{string_bytes, ℕ, ◌+◌, ◌++◌, drop}
use Rattle.tcltext.specs.chars.Runs.{Text}
use Rattle.tcltext.specs.script.Tree.{words_of}
use Rattle.tcltext.specs.script.View.{word_view, content_view}
use Rattle.tclrules.specs.Derivation.{Runs, Counts}
use Rattle.tclrules.specs.Simulates.{point}
use Rattle.tclrules.specs.Variables.{State}
use Rattle.tclrules.specs.Plans as plans
use Rattle.tclrules.specs.Words as pieces
use Rattle.tclrules.specs.Plans.{Next, sized}
use Rattle.tclrules.specs.Rules.{rule, called, turn}
use Rattle.tclforms.specs.Views.{pair_texts, form_view}
use Rattle.tclforms.specs.substitution.Machine.{range_text}
use Rattle.tcleval.specs.Continues.{bounds_of, with_text}
use Rattle.tclcommands.specs.declared.completion.CaughtCompletion.{CaughtCompletion}
use Rattle.tclcommands.specs.Completions.{sized_next, guarded, condition_plan, loop_continuation}
use Rattle.tclforms.specs.substitution.Stops.{stop_of}
use Rattle.tclforms.proofs.substitution.AtHand.{from_same}
use Rattle.tclrules.specs.Rules as table
use Rattle.std.proofs.lemmas.Bool.{false≢true}
use Rattle.std.proofs.lemmas.Result.{err_from_is_err_and}
use Rattle.std.proofs.lemmas.List.{drop_all}
use Rattle.tcltext.specs.declared.script.tree.Word.{out-Word}
use Rattle.tcltext.specs.declared.script.piece.ByteRange.{ByteRange}
use Rattle.tcltext.specs.chars.Numerals.{numeral}
use Rattle.tclrules.specs.Plans.{given}
use Rattle.tclrules.specs.Words.{expanded}
use Rattle.tclrules.specs.Expressions.{normal}
use Rattle.tclrules.proofs.Leading.{stay, continue_with, starve, count_on, count_over, move_on, run_on, run_halts}
use Rattle.tclrules.proofs.Leading.{run_tail}
use Rattle.tclforms.proofs.substitution.Leading.{passed_on, starved_end, given_on, given_stops, value_stops, sized_on}
use Rattle.tclforms.proofs.substitution.Leading.{run_stops}
use Rattle.tclforms.proofs.substitution.Trees.{empty_of}
use Rattle.tclcommands.proofs.Stopping.{same_as}
use Rattle.tclcommands.proofs.CommandWordLemmas.{whole}
use Rattle.tcleval.proofs.Running.{run_known, run_normal, run_comes, run_turn, run_next, comes_stopped, comes_cut}
use Rattle.tcleval.proofs.Running.{comes_cut_before}
use Rattle.tcleval.proofs.Running.{begin_on, begin_stops, drop_here, script_commands, command_words, command_place}
use Rattle.tcleval.proofs.Running.{word_content}
use Rattle.tcleval.proofs.Running.{content_bare, content_braced, content_parts, later_refl, later_on, later_still}
use Rattle.tcleval.proofs.Running.{later_counted, later_beside, later_begun, later_parsed, text_stops, limited_stops}
use Rattle.tcleval.proofs.Running.{limited_on, ok_any, counted_on, core_stops, turned_some, turned_none, foreach_done}
use Rattle.tcleval.proofs.Running.{foreach_more, on_branch, branch_on}
use Rattle.tcleval.proofs.evaluator.Evaluator.+evaluate.Goals as goal

pub bracket-commands-requires : goal.bracket-commands-requires
bracket-commands-requires g t c κs within = search rules

pub bracket-returns-clause-evaluates_to : goal.bracket-returns-clause-evaluates_to
bracket-returns-clause-evaluates_to g t c = λ k.
    let i = c.in_ok-inside.ensures in
    let h = rw i.1 at c.commands.ensures.evaluates_to in
    run_normal k _ _ _ (h.0, h.1, continue_with (begin_on _ _ i.0) h.2)

pub bracket-returns-clause-only_grows : goal.bracket-returns-clause-only_grows
bracket-returns-clause-only_grows g t c = c.commands.ensures.only_grows

pub bracket-returns-in_err-inside-clause-evaluates_to : goal.bracket-returns-in_err-inside-clause-evaluates_to
bracket-returns-in_err-inside-clause-evaluates_to g t c = λ k.
    let i = c.in_err-inside.ensures in
    passed_on _ _ _ _ c.from_residual.ensures.1 (rw i.1 (run_halts (begin_stops _ _ i.0)))

pub bracket-returns-in_err-inside-clause-only_grows : goal.bracket-returns-in_err-inside-clause-only_grows
bracket-returns-in_err-inside-clause-only_grows g t c = later_refl

pub branches-decide-requires : goal.branches-decide-requires
branches-decide-requires g t c κs within = search rules

pub branches-loop-condition-init : goal.branches-loop-condition-init
branches-loop-condition-init g t c = record { evaluates_to = λ k. stay; only_grows = later_refl }

pub branches-loop-condition-preserved : goal.branches-loop-condition-preserved
branches-loop-condition-preserved g t c = record {
  evaluates_to = λ k.
      let b = bounds_of c.args.bounds in
      let i = c.loop-condition.condition-index in
      let d : Bor (List ℕ) × Bor (List ℕ) = (record { ref_ptr = (0, 0); now = [] }, record { ref_ptr = (0, 0); now = [] }) in
      let other = option_map (λ (t : Bor (List ℕ)). t.now) c.args.other in
      let next = on_branch b (get_or c.args.branches.now i d).1.now (pair_texts (drop (i + 1) c.args.branches.now)) other k in
      let l = branch_on b c.args.branches.now i d other c.loop-condition.self.variables k c.loop-condition-test.true (c.loop-condition.invariant.evaluates_to k) in
      let h = rw c.if-branch.false at (c.in_ok-decide.ensures.evaluates_to next) in
      continue_with l h;
  only_grows = later_on c.loop-condition.invariant.only_grows c.in_ok-decide.ensures.only_grows;
}

pub branches-loop-condition-smaller : goal.branches-loop-condition-smaller
branches-loop-condition-smaller g t c = omega arith

pub branches-offset_bounds-branches-condition-index : goal.branches-offset_bounds-branches-condition-index
branches-offset_bounds-branches-condition-index g t c = omega arith

pub branches-otherwise-requires : goal.branches-otherwise-requires
branches-otherwise-requires g t c κs within = search rules

pub branches-returns-clause-evaluates_to : goal.branches-returns-clause-evaluates_to
branches-returns-clause-evaluates_to g t c =
    let h = c.otherwise.ensures.evaluates_to in
    let d = drop_all _ _ c.loop-condition-test.false in
    (h.0, h.1, λ k. continue_with (rw d at (c.loop-condition.invariant.evaluates_to (sized_next c.args.bounds.limits.value_bytes k))) (h.2 k))

pub branches-returns-clause-only_grows : goal.branches-returns-clause-only_grows
branches-returns-clause-only_grows g t c = later_on c.loop-condition.invariant.only_grows c.otherwise.ensures.only_grows

pub branches-returns-in_err-decide-clause-evaluates_to : goal.branches-returns-in_err-decide-clause-evaluates_to
branches-returns-in_err-decide-clause-evaluates_to g t c =
    let b = bounds_of c.args.bounds in
    let i = c.loop-condition.condition-index in
    let d : Bor (List ℕ) × Bor (List ℕ) = (record { ref_ptr = (0, 0); now = [] }, record { ref_ptr = (0, 0); now = [] }) in
    let other = option_map (λ (t : Bor (List ℕ)). t.now) c.args.other in
    let next = λ (k : Next). on_branch b (get_or c.args.branches.now i d).1.now (pair_texts (drop (i + 1) c.args.branches.now)) other (sized_next c.args.bounds.limits.value_bytes k) in
    let l = λ (k : Next). branch_on b c.args.branches.now i d other c.loop-condition.self.variables
    (sized_next c.args.bounds.limits.value_bytes k) c.loop-condition-test.true
    (c.loop-condition.invariant.evaluates_to (sized_next c.args.bounds.limits.value_bytes k)) in
    comes_stopped _ _ _ _ _ c.from_residual.ensures.1 (λ k. continue_with (l k) (c.in_err-decide.ensures.evaluates_to (next k)))

pub branches-returns-in_err-decide-clause-only_grows : goal.branches-returns-in_err-decide-clause-only_grows
branches-returns-in_err-decide-clause-only_grows g t c = later_on c.loop-condition.invariant.only_grows c.in_err-decide.ensures.only_grows

pub branches-returns-then-branch-clause-evaluates_to : goal.branches-returns-then-branch-clause-evaluates_to
branches-returns-then-branch-clause-evaluates_to g t c =
    let b = bounds_of c.args.bounds in
    let i = c.loop-condition.condition-index in
    let d : Bor (List ℕ) × Bor (List ℕ) = (record { ref_ptr = (0, 0); now = [] }, record { ref_ptr = (0, 0); now = [] }) in
    let other = option_map (λ (t : Bor (List ℕ)). t.now) c.args.other in
    let next = λ (k : Next). on_branch b (get_or c.args.branches.now i d).1.now (pair_texts (drop (i + 1) c.args.branches.now)) other (sized_next c.args.bounds.limits.value_bytes k) in
    let l = λ (k : Next). branch_on b c.args.branches.now i d other c.loop-condition.self.variables
    (sized_next c.args.bounds.limits.value_bytes k) c.loop-condition-test.true
    (c.loop-condition.invariant.evaluates_to (sized_next c.args.bounds.limits.value_bytes k)) in
    let n = run_comes _ _ _ _ c.script.ensures.evaluates_to in
    (n.0, n.1, λ k. continue_with (continue_with (l k) (rw c.if-branch.true at (c.in_ok-decide.ensures.evaluates_to (next k)))) (n.2 k))

pub branches-returns-then-branch-clause-only_grows : goal.branches-returns-then-branch-clause-only_grows
branches-returns-then-branch-clause-only_grows g t c = later_on (later_on c.loop-condition.invariant.only_grows c.in_ok-decide.ensures.only_grows) c.script.ensures.only_grows

pub branches-script-requires : goal.branches-script-requires
branches-script-requires g t c κs within = search rules

pub branches-slice_bounds-decide-end : goal.branches-slice_bounds-decide-end
branches-slice_bounds-decide-end g t c = omega arith

pub branches-slice_bounds-script-end : goal.branches-slice_bounds-script-end
branches-slice_bounds-script-end g t c = omega arith

pub call-parameter_values-requires-text-name : goal.call-parameter_values-requires-text-name
call-parameter_values-requires-text-name g t c κs = search rules

pub call-returns-clause-evaluates_to : goal.call-returns-clause-evaluates_to
call-returns-clause-evaluates_to g t c = λ k.
    let b = bounds_of c.args.bounds in
    let next = λ (s' : State). table.body b (string_bytes c.args.procedure.now.body) s' (table.after_call b c.args.self.now.variables.frame k) in
    let v = rw (c.name.ensures, c.operands.ensures, c.deref.ensures.value) at c.in_ok-values.ensures in
    let a = rw c.enter-caller.ensures.entered at (c.in_ok-assign.ensures c.args.bounds.limits.commands
    c.args.bounds.remaining (rule c.args.bounds.limits.value_bytes) next
    (point (g.H.Host.oracle c.args.host.now) (g.H.Host.trace c.args.host.now) c.args.self.now.used c.args.self.now.scripts)) in
    let r = rw c.as_str.ensures.value at c.script-outcome.ensures.evaluates_to in
    let l = continue_with (continue_with (given_on _ _ _ _ v) a) (run_known _ _ _ _ r) in
    let n = rw (c.leave.ensures, c.enter-caller.ensures.caller) at (c.left.ensures.evaluates_to (with_text k)
    (g.H.Host.oracle c.script-outcome.new.host) (g.H.Host.trace c.script-outcome.new.host)) in
    continue_with (continue_with l (c.after_call.ensures _ _ b c.args.self.now.variables.frame k _ _)) n

pub call-returns-clause-only_grows : goal.call-returns-clause-only_grows
call-returns-clause-only_grows g t c = later_beside refl refl (sym c.left.ensures.used) (sym c.left.ensures.cache) c.script-outcome.ensures.only_grows

pub call-returns-in_err-assign-clause-evaluates_to : goal.call-returns-in_err-assign-clause-evaluates_to
call-returns-in_err-assign-clause-evaluates_to g t c = λ k.
    let b = bounds_of c.args.bounds in
    let next = λ (s' : State). table.body b (string_bytes c.args.procedure.now.body) s' (table.after_call b c.args.self.now.variables.frame k) in
    let v = rw (c.name.ensures, c.operands.ensures, c.deref.ensures.value) at c.in_ok-values.ensures in
    let a = rw c.enter-caller.ensures.entered at (c.in_err-assign.ensures c.args.bounds.limits.commands
    c.args.bounds.remaining (rule c.args.bounds.limits.value_bytes) next
    (point (g.H.Host.oracle c.args.host.now) (g.H.Host.trace c.args.host.now) c.args.self.now.used c.args.self.now.scripts)) in
    passed_on _ _ _ _ c.from_residual-in_err-assign.ensures.1 (continue_with (given_on _ _ _ _ v) a)

pub call-returns-in_err-assign-clause-only_grows : goal.call-returns-in_err-assign-clause-only_grows
call-returns-in_err-assign-clause-only_grows g t c = later_still refl refl

pub call-returns-in_err-values-clause-evaluates_to : goal.call-returns-in_err-values-clause-evaluates_to
call-returns-in_err-values-clause-evaluates_to g t c = λ k.
    let h = rw (c.name.ensures, c.operands.ensures, c.deref.ensures.value) at c.in_err-values.ensures in
    value_stops _ _ _ _ _ _ c.from_residual.ensures.1 h

pub call-returns-in_err-values-clause-only_grows : goal.call-returns-in_err-values-clause-only_grows
call-returns-in_err-values-clause-only_grows g t c = later_refl

pub call-script-outcome-requires : goal.call-script-outcome-requires
call-script-outcome-requires g t c κs within = search rules

pub called-core_command-requires : goal.called-core_command-requires
called-core_command-requires g t c κs within = search rules

pub called-returns-in-None-clause-evaluates_to : goal.called-returns-in-None-clause-evaluates_to
called-returns-in-None-clause-evaluates_to g t c =
    let command = c.in-Some.command in
    let e = ap (map string_bytes) (sym c.in-Some.ensures) ∙ whole command.words.now command.not_empty in
    let v = rw (e, c.in-None.is) at c.in_ok-value.ensures in
    let h = c.core_command.ensures.evaluates_to in
    (h.0, h.1, λ k. from_same (ap (λ ws. called (bounds_of c.args.bounds) ws c.args.self.now.variables (sized_next c.args.bounds.limits.value_bytes k)) e) (continue_with (given_on _ _ _ _ v) (h.2 k)))

pub called-returns-in-None-clause-only_grows : goal.called-returns-in-None-clause-only_grows
called-returns-in-None-clause-only_grows g t c = c.core_command.ensures.only_grows

pub called-returns-in-Some-2-clause-evaluates_to : goal.called-returns-in-Some-2-clause-evaluates_to
called-returns-in-Some-2-clause-evaluates_to g t c =
    let command = c.in-Some.command in
    let e = ap (map string_bytes) (sym c.in-Some.ensures) ∙ whole command.words.now command.not_empty in
    let h = rw (e, c.in-Some-2.is) at c.in_ok-value.ensures in
    let w = c.within.ensures c.args.result_use c.args.self.now.variables in (
      w.0,
      w.1,
      λ k. from_same (ap (λ ws. called (bounds_of c.args.bounds) ws c.args.self.now.variables
          (sized_next c.args.bounds.limits.value_bytes k)) e) (continue_with (given_on _ _ _ _ h) (w.2 _ _ k _)),
    )

pub called-returns-in-Some-2-clause-only_grows : goal.called-returns-in-Some-2-clause-only_grows
called-returns-in-Some-2-clause-only_grows g t c = later_refl

pub called-returns-in_default-clause-evaluates_to : goal.called-returns-in_default-clause-evaluates_to
called-returns-in_default-clause-evaluates_to g t c =
    ([], (omega arith, λ q. c.new.ensures.bytes), λ k. rw c.in_default.ensures (sized_on c.args.bounds.limits.value_bytes [] (k [] c.args.self.now.variables) (omega arith)))

pub called-returns-in_default-clause-only_grows : goal.called-returns-in_default-clause-only_grows
called-returns-in_default-clause-only_grows g t c = later_refl

pub called-returns-in_err-value-clause-evaluates_to : goal.called-returns-in_err-value-clause-evaluates_to
called-returns-in_err-value-clause-evaluates_to g t c =
    let command = c.in-Some.command in
    let e = ap (map string_bytes) (sym c.in-Some.ensures) ∙ whole command.words.now command.not_empty in
    let h = rw e at c.in_err-value.ensures in
    comes_stopped _ _ _ _ _ c.from_residual.ensures.1 (λ k. from_same
    (ap (λ ws. called (bounds_of c.args.bounds) ws c.args.self.now.variables
    (sized_next c.args.bounds.limits.value_bytes k)) e) (given_stops _ _ _ _ h))

pub called-returns-in_err-value-clause-only_grows : goal.called-returns-in_err-value-clause-only_grows
called-returns-in_err-value-clause-only_grows g t c = later_refl

pub catch-returns-clause-evaluates_to : goal.catch-returns-clause-evaluates_to
catch-returns-clause-evaluates_to g t c = λ k.
    let b = bounds_of c.args.bounds in
    let v = option_map (λ (v : Bor (List ℕ)). v.now) c.args.name in
    let n = same_as (c.catch_outcome-caught.ensures b v k _) (run_known _ _ _ _ c.script-outcome.ensures.evaluates_to) in
    let next = λ (caught : CaughtCompletion) (s : State). table.catch_into b v caught.code.now (string_bytes caught.value) s k in
    let l = c.in_ok-caught.ensures.evaluates_to next (g.H.Host.oracle c.script-outcome.new.host)
    (g.H.Host.trace c.script-outcome.new.host) in
    continue_with (continue_with n l) (c.store_caught.ensures _ c.args.bounds.remaining _ k _)

pub catch-returns-clause-only_grows : goal.catch-returns-clause-only_grows
catch-returns-clause-only_grows g t c = later_on c.script-outcome.ensures.only_grows (later_still c.in_ok-caught.ensures.used c.in_ok-caught.ensures.cache)

pub catch-returns-in_err-caught-clause-evaluates_to : goal.catch-returns-in_err-caught-clause-evaluates_to
catch-returns-in_err-caught-clause-evaluates_to g t c = λ k.
    let b = bounds_of c.args.bounds in
    let v = option_map (λ (v : Bor (List ℕ)). v.now) c.args.name in
    let n = same_as (c.catch_outcome-caught.ensures b v k _) (run_known _ _ _ _ c.script-outcome.ensures.evaluates_to) in
    let next = λ (caught : CaughtCompletion) (s : State). table.catch_into b v caught.code.now (string_bytes caught.value) s k in
    let l = c.in_err-caught.ensures.evaluates_to next (g.H.Host.oracle c.script-outcome.new.host)
    (g.H.Host.trace c.script-outcome.new.host) in
    passed_on _ _ _ _ c.from_residual.ensures.1 (continue_with n l)

pub catch-returns-in_err-caught-clause-only_grows : goal.catch-returns-in_err-caught-clause-only_grows
catch-returns-in_err-caught-clause-only_grows g t c = later_on c.script-outcome.ensures.only_grows (later_still c.in_err-caught.ensures.used c.in_err-caught.ensures.cache)

pub catch-script-outcome-requires : goal.catch-script-outcome-requires
catch-script-outcome-requires g t c κs within = search rules

pub command-called-requires : goal.command-called-requires
command-called-requires g t c κs within = search rules

pub command-returns-clause-evaluates_to : goal.command-returns-clause-evaluates_to
command-returns-clause-evaluates_to g t c =
    let b = bounds_of c.args.bounds in
    let h = c.in_ok-count.ensures in
    let v = command_words (range_text c.args.command.source.now) c.args.command.tree.now in
    let a = rw c.deref.ensures.value at c.called.ensures.evaluates_to in
    let w = λ (k : Next). rw (h.variables, h.counted.1, h.scripts, c.as_slice.ensures.value) at
    (c.in_ok-texts.ensures.evaluates_to (λ texts s1. called b texts s1
    (sized_next c.args.bounds.limits.value_bytes k))) in (
      a.0,
      a.1,
      λ k. from_same (ap (λ ws. Counts (pieces.words (bounds_of c.args.bounds) ws [] c.args.self.now.variables
          (λ texts s1. called (bounds_of c.args.bounds) texts s1 (sized_next c.args.bounds.limits.value_bytes k)))) v)
          (continue_with (continue_with (count_on h.counted.0) (w k)) (a.2 k)),
    )

pub command-returns-clause-only_grows : goal.command-returns-clause-only_grows
command-returns-clause-only_grows g t c = later_on (later_counted c.in_ok-count.ensures.counted.1 c.in_ok-count.ensures.cache) (later_on c.in_ok-texts.ensures.only_grows c.called.ensures.only_grows)

pub command-returns-in_err-count-clause-evaluates_to : goal.command-returns-in_err-count-clause-evaluates_to
command-returns-in_err-count-clause-evaluates_to g t c =
    let h = c.in_err-count.ensures.counted in
    comes_stopped _ _ _ _ _ c.from_residual.ensures.1 (λ k. rw (h.2, h.1, c.in_err-count.ensures.scripts) (count_over h.0))

pub command-returns-in_err-count-clause-only_grows : goal.command-returns-in_err-count-clause-only_grows
command-returns-in_err-count-clause-only_grows g t c = later_still c.in_err-count.ensures.counted.1 c.in_err-count.ensures.cache

pub command-returns-in_err-texts-clause-evaluates_to : goal.command-returns-in_err-texts-clause-evaluates_to
command-returns-in_err-texts-clause-evaluates_to g t c =
    let b = bounds_of c.args.bounds in
    let h = c.in_ok-count.ensures in
    let v = command_words (range_text c.args.command.source.now) c.args.command.tree.now in
    let w = λ (k : Next). rw (h.variables, h.counted.1, h.scripts, c.as_slice.ensures.value) at
    (c.in_err-texts.ensures.evaluates_to (λ texts s1. called b texts s1
    (sized_next c.args.bounds.limits.value_bytes k))) in
    comes_stopped _ _ _ _ _ c.from_residual-in_err-texts.ensures.1
    (λ k. from_same (ap (λ ws. Counts (pieces.words (bounds_of c.args.bounds) ws [] c.args.self.now.variables
    (λ texts s1. called (bounds_of c.args.bounds) texts s1 (sized_next c.args.bounds.limits.value_bytes k)))) v)
    (continue_with (count_on h.counted.0) (w k)))

pub command-returns-in_err-texts-clause-only_grows : goal.command-returns-in_err-texts-clause-only_grows
command-returns-in_err-texts-clause-only_grows g t c = later_on (later_counted c.in_ok-count.ensures.counted.1 c.in_ok-count.ensures.cache) c.in_err-texts.ensures.only_grows

pub command-words-requires : goal.command-words-requires
command-words-requires g t c κs within = search rules

pub commands-command-requires : goal.commands-command-requires
commands-command-requires g t c κs within = search rules

pub commands-loop-command-init : goal.commands-loop-command-init
commands-loop-command-init g t c = record {
  evaluates_to = (
    [],
    (omega arith, λ q. c.new-last.ensures.bytes),
    rw
        (script_commands (range_text c.args.script.source.now) c.args.script.tree.now) stay,
  );
  only_grows = later_refl;
}

pub commands-loop-command-preserved : goal.commands-loop-command-preserved
commands-loop-command-preserved g t c =
    let s = c.deref-command-items.ensures.value in
    let d = drop_here _ _ _ (rw s at c.loop-command-test.true) (rw s at c.command-item.is) in
    let l = rw d at c.loop-command.invariant.evaluates_to.2 in
    let a = c.in_ok-last.ensures.evaluates_to in
    record { evaluates_to = (a.0, a.1, continue_with l (a.2 _)); only_grows = later_on c.loop-command.invariant.only_grows c.in_ok-last.ensures.only_grows }

pub commands-loop-command-smaller : goal.commands-loop-command-smaller
commands-loop-command-smaller g t c = omega arith

pub commands-offset_bounds-command-items-command-index : goal.commands-offset_bounds-command-items-command-index
commands-offset_bounds-command-items-command-index g t c = omega arith

pub commands-returns-clause-evaluates_to : goal.commands-returns-clause-evaluates_to
commands-returns-clause-evaluates_to g t c =
    let s = c.deref-command-items.ensures.value in
    let d = drop_all _ _ (rw s at c.loop-command-test.false) in
    let i = c.loop-command.invariant.evaluates_to in
    (i.0, i.1, rw d at i.2)

pub commands-returns-clause-only_grows : goal.commands-returns-clause-only_grows
commands-returns-clause-only_grows g t c = c.loop-command.invariant.only_grows

pub commands-returns-in_err-last-clause-evaluates_to : goal.commands-returns-in_err-last-clause-evaluates_to
commands-returns-in_err-last-clause-evaluates_to g t c =
    let s = c.deref-command-items.ensures.value in
    let d = drop_here _ _ _ (rw s at c.loop-command-test.true) (rw s at c.command-item.is) in
    let l = rw d at c.loop-command.invariant.evaluates_to.2 in
    comes_cut _ _ _ _ _ c.from_residual.ensures.1 (continue_with l (c.in_err-last.ensures.evaluates_to.2 _))

pub commands-returns-in_err-last-clause-only_grows : goal.commands-returns-in_err-last-clause-only_grows
commands-returns-in_err-last-clause-only_grows g t c = later_on c.loop-command.invariant.only_grows c.in_err-last.ensures.only_grows

pub core_command-core_form-requires-text-name : goal.core_command-core_form-requires-text-name
core_command-core_form-requires-text-name g t c κs = search rules

pub core_command-form-requires : goal.core_command-form-requires
core_command-form-requires g t c κs within = search rules

pub core_command-other_command-requires : goal.core_command-other_command-requires
core_command-other_command-requires g t c κs within = search rules

pub core_command-returns-in-None-clause-evaluates_to : goal.core_command-returns-in-None-clause-evaluates_to
core_command-returns-in-None-clause-evaluates_to g t c =
    let h = rw (c.name.ensures, c.operands.ensures, c.in-None.is) at c.in_ok-form.ensures in
    let a = c.other_command.ensures.evaluates_to in
    (a.0, a.1, λ k. rw (turned_none _ h) (a.2 k))

pub core_command-returns-in-None-clause-only_grows : goal.core_command-returns-in-None-clause-only_grows
core_command-returns-in-None-clause-only_grows g t c = c.other_command.ensures.only_grows

pub core_command-returns-in-Some-clause-evaluates_to : goal.core_command-returns-in-Some-clause-evaluates_to
core_command-returns-in-Some-clause-evaluates_to g t c =
    let h = rw (c.name.ensures, c.operands.ensures, c.in-Some.is) at c.in_ok-form.ensures in
    let a = c.form.ensures.evaluates_to in
    (a.0, a.1, λ k. rw (turned_some _ _ h) (a.2 k))

pub core_command-returns-in-Some-clause-only_grows : goal.core_command-returns-in-Some-clause-only_grows
core_command-returns-in-Some-clause-only_grows g t c = c.form.ensures.only_grows

pub core_command-returns-in_err-form-clause-evaluates_to : goal.core_command-returns-in_err-form-clause-evaluates_to
core_command-returns-in_err-form-clause-evaluates_to g t c =
    let h = rw (c.name.ensures, c.operands.ensures) at c.in_err-form.ensures in
    comes_stopped _ _ _ _ _ c.from_residual.ensures.1 (λ k. core_stops (bounds_of c.args.bounds) _ _ c.args.self.now.variables (sized_next c.args.bounds.limits.value_bytes k) _ _ h)

pub core_command-returns-in_err-form-clause-only_grows : goal.core_command-returns-in_err-form-clause-only_grows
core_command-returns-in_err-form-clause-only_grows g t c = later_refl

pub for_loop-for_turns-requires : goal.for_loop-for_turns-requires
for_loop-for_turns-requires g t c κs within = search rules

pub for_loop-returns-clause-evaluates_to : goal.for_loop-returns-clause-evaluates_to
for_loop-returns-clause-evaluates_to g t c = λ k. continue_with (run_on c.in_ok-script.ensures.evaluates_to.2) (c.for_turns.ensures.evaluates_to k)

pub for_loop-returns-clause-only_grows : goal.for_loop-returns-clause-only_grows
for_loop-returns-clause-only_grows g t c = later_on c.in_ok-script.ensures.only_grows c.for_turns.ensures.only_grows

pub for_loop-returns-in_err-script-clause-evaluates_to : goal.for_loop-returns-in_err-script-clause-evaluates_to
for_loop-returns-in_err-script-clause-evaluates_to g t c = λ k. passed_on _ _ _ _ c.from_residual.ensures.1 (run_stops _ _ c.in_err-script.ensures.evaluates_to.2)

pub for_loop-returns-in_err-script-clause-only_grows : goal.for_loop-returns-in_err-script-clause-only_grows
for_loop-returns-in_err-script-clause-only_grows g t c = c.in_err-script.ensures.only_grows

pub for_loop-script-requires : goal.for_loop-script-requires
for_loop-script-requires g t c κs within = search rules

pub for_turns-guarded_turn-requires : goal.for_turns-guarded_turn-requires
for_turns-guarded_turn-requires g t c κs within = (search rules, (search rules, c.loop-next.invariant.body.1))

pub for_turns-loop-next-init : goal.for_turns-loop-next-init
for_turns-loop-next-init g t c = record { evaluates_to = λ k. stay; body = c.new-body.ensures; next = c.new-next.ensures; only_grows = later_begun refl c.in_ok-condition.ensures.begins }

pub for_turns-loop-next-preserved : goal.for_turns-loop-next-preserved
for_turns-loop-next-preserved g t c = record {
  evaluates_to = λ k.
      let again = λ (s3 : State). Runs (plans.For c.args.bounds.remaining c.args.parts.condition.now c.args.parts.next.now c.args.parts.body.now s3) plans.ended in
      let between = λ (s2 : State). table.body (bounds_of c.args.bounds) c.args.parts.next.now s2 (table.after_next (bounds_of c.args.bounds) again) in
      let h = rw c.if-not-branch.false at (continue_with
      (given_on _ _ c.loop-next.self.variables (λ e. condition_plan (bounds_of c.args.bounds) e
      c.loop-next.self.variables (guarded (bounds_of c.args.bounds) c.args.parts.body.now between))
      c.in_ok-condition.ensures.tree) (rw (c.deref.ensures, c.loop-next.invariant.body.0) at
      (c.in_ok-guarded_turn.ensures.evaluates_to between))) in
      let n = same_as (c.after_next-more.ensures (bounds_of c.args.bounds) again _) (continue_with h (run_next (bounds_of c.args.bounds) again _ _ _ (rw c.loop-next.invariant.next.0 at c.repeated_script.ensures.evaluates_to))) in
      let e = rw c.if-not-branch-2.false at (c.in_ok-left.ensures.evaluates_to (loop_continuation again)
      (g.H.Host.oracle c.repeated_script.new.host) (g.H.Host.trace c.repeated_script.new.host)) in
      continue_with (c.loop-next.invariant.evaluates_to k) (run_tail (continue_with n e));
  body = (c.in_ok-guarded_turn.ensures.kept.0 ∙ c.loop-next.invariant.body.0, c.in_ok-guarded_turn.ensures.kept.1);
  next = (c.repeated_script.ensures.kept.0 ∙ c.loop-next.invariant.next.0, c.repeated_script.ensures.kept.1);
  only_grows = later_on (later_on (later_on c.loop-next.invariant.only_grows c.in_ok-guarded_turn.ensures.only_grows) c.repeated_script.ensures.only_grows) (later_still c.in_ok-left.ensures.used c.in_ok-left.ensures.cache);
}

pub for_turns-loop-next-smaller : goal.for_turns-loop-next-smaller
for_turns-loop-next-smaller g t c =
    let h = c.in_ok-guarded_turn.ensures.counted c.if-not-branch.false in
    omega (arith, h.0, h.1, c.repeated_script.ensures.only_grows.rises, c.in_ok-left.ensures.used)

pub for_turns-returns-in_err-left-clause-evaluates_to : goal.for_turns-returns-in_err-left-clause-evaluates_to
for_turns-returns-in_err-left-clause-evaluates_to g t c = λ k.
    let again = λ (s3 : State). Runs (plans.For c.args.bounds.remaining c.args.parts.condition.now c.args.parts.next.now c.args.parts.body.now s3) plans.ended in
    let between = λ (s2 : State). table.body (bounds_of c.args.bounds) c.args.parts.next.now s2 (table.after_next (bounds_of c.args.bounds) again) in
    let h = rw c.if-not-branch.false at (continue_with
    (given_on _ _ c.loop-next.self.variables (λ e. condition_plan (bounds_of c.args.bounds) e
    c.loop-next.self.variables (guarded (bounds_of c.args.bounds) c.args.parts.body.now between))
    c.in_ok-condition.ensures.tree) (rw (c.deref.ensures, c.loop-next.invariant.body.0) at
    (c.in_ok-guarded_turn.ensures.evaluates_to between))) in
    let n = same_as (c.after_next-more.ensures (bounds_of c.args.bounds) again _) (continue_with h (run_next (bounds_of c.args.bounds) again _ _ _ (rw c.loop-next.invariant.next.0 at c.repeated_script.ensures.evaluates_to))) in
    let e = c.in_err-left.ensures.evaluates_to (loop_continuation again)
    (g.H.Host.oracle c.repeated_script.new.host) (g.H.Host.trace c.repeated_script.new.host) in
    passed_on _ _ _ _ c.from_residual-in_err-left.ensures.1 (continue_with (c.loop-next.invariant.evaluates_to k) (run_stops _ _ (continue_with n e)))

pub for_turns-returns-in_err-left-clause-only_grows : goal.for_turns-returns-in_err-left-clause-only_grows
for_turns-returns-in_err-left-clause-only_grows g t c = later_on (later_on (later_on c.loop-next.invariant.only_grows c.in_ok-guarded_turn.ensures.only_grows) c.repeated_script.ensures.only_grows) (later_still c.in_err-left.ensures.used c.in_err-left.ensures.cache)

pub for_turns-returns-in_err-guarded_turn-clause-evaluates_to : goal.for_turns-returns-in_err-guarded_turn-clause-evaluates_to
for_turns-returns-in_err-guarded_turn-clause-evaluates_to g t c = λ k.
    let again = λ (s3 : State). Runs (plans.For c.args.bounds.remaining c.args.parts.condition.now c.args.parts.next.now c.args.parts.body.now s3) plans.ended in
    let between = λ (s2 : State). table.body (bounds_of c.args.bounds) c.args.parts.next.now s2 (table.after_next (bounds_of c.args.bounds) again) in
    passed_on _ _ _ _ c.from_residual-in_err-guarded_turn.ensures.1
    (continue_with (c.loop-next.invariant.evaluates_to k)
    (run_stops _ _ (continue_with (given_on _ _ c.loop-next.self.variables
    (λ e. condition_plan (bounds_of c.args.bounds) e c.loop-next.self.variables
    (guarded (bounds_of c.args.bounds) c.args.parts.body.now between)) c.in_ok-condition.ensures.tree)
    (rw (c.deref.ensures, c.loop-next.invariant.body.0) at (c.in_err-guarded_turn.ensures.evaluates_to between)))))

pub for_turns-returns-in_err-guarded_turn-clause-only_grows : goal.for_turns-returns-in_err-guarded_turn-clause-only_grows
for_turns-returns-in_err-guarded_turn-clause-only_grows g t c = later_on c.loop-next.invariant.only_grows c.in_err-guarded_turn.ensures.only_grows

pub for_turns-returns-then-not-branch-2-clause-evaluates_to : goal.for_turns-returns-then-not-branch-2-clause-evaluates_to
for_turns-returns-then-not-branch-2-clause-evaluates_to g t c = λ k.
    let again = λ (s3 : State). Runs (plans.For c.args.bounds.remaining c.args.parts.condition.now c.args.parts.next.now c.args.parts.body.now s3) plans.ended in
    let between = λ (s2 : State). table.body (bounds_of c.args.bounds) c.args.parts.next.now s2 (table.after_next (bounds_of c.args.bounds) again) in
    let h = rw c.if-not-branch.false at (continue_with
    (given_on _ _ c.loop-next.self.variables (λ e. condition_plan (bounds_of c.args.bounds) e
    c.loop-next.self.variables (guarded (bounds_of c.args.bounds) c.args.parts.body.now between))
    c.in_ok-condition.ensures.tree) (rw (c.deref.ensures, c.loop-next.invariant.body.0) at
    (c.in_ok-guarded_turn.ensures.evaluates_to between))) in
    let n = same_as (c.after_next-more.ensures (bounds_of c.args.bounds) again _) (continue_with h (run_next (bounds_of c.args.bounds) again _ _ _ (rw c.loop-next.invariant.next.0 at c.repeated_script.ensures.evaluates_to))) in
    let e = rw c.if-not-branch-2.true at (c.in_ok-left.ensures.evaluates_to (loop_continuation again)
    (g.H.Host.oracle c.repeated_script.new.host) (g.H.Host.trace c.repeated_script.new.host)) in
    rw c.new-then-not-branch-2.ensures.bytes (continue_with (c.loop-next.invariant.evaluates_to k) (run_on (continue_with n e)))

pub for_turns-returns-then-not-branch-2-clause-only_grows : goal.for_turns-returns-then-not-branch-2-clause-only_grows
for_turns-returns-then-not-branch-2-clause-only_grows g t c = later_on (later_on (later_on c.loop-next.invariant.only_grows c.in_ok-guarded_turn.ensures.only_grows) c.repeated_script.ensures.only_grows) (later_still c.in_ok-left.ensures.used c.in_ok-left.ensures.cache)

pub for_turns-returns-then-not-branch-clause-evaluates_to : goal.for_turns-returns-then-not-branch-clause-evaluates_to
for_turns-returns-then-not-branch-clause-evaluates_to g t c = λ k.
    let again = λ (s3 : State). Runs (plans.For c.args.bounds.remaining c.args.parts.condition.now c.args.parts.next.now c.args.parts.body.now s3) plans.ended in
    let between = λ (s2 : State). table.body (bounds_of c.args.bounds) c.args.parts.next.now s2 (table.after_next (bounds_of c.args.bounds) again) in
    let h = rw c.if-not-branch.true at (continue_with
    (given_on _ _ c.loop-next.self.variables (λ e. condition_plan (bounds_of c.args.bounds) e
    c.loop-next.self.variables (guarded (bounds_of c.args.bounds) c.args.parts.body.now between))
    c.in_ok-condition.ensures.tree) (rw (c.deref.ensures, c.loop-next.invariant.body.0) at
    (c.in_ok-guarded_turn.ensures.evaluates_to between))) in
    rw c.new.ensures.bytes (continue_with (c.loop-next.invariant.evaluates_to k) (run_on h))

pub for_turns-returns-then-not-branch-clause-only_grows : goal.for_turns-returns-then-not-branch-clause-only_grows
for_turns-returns-then-not-branch-clause-only_grows g t c = later_on c.loop-next.invariant.only_grows c.in_ok-guarded_turn.ensures.only_grows

pub for_turns-repeated_script-requires : goal.for_turns-repeated_script-requires
for_turns-repeated_script-requires g t c κs within = (search rules, (search rules, c.loop-next.invariant.next.1))

pub foreach-foreach_turns-requires : goal.foreach-foreach_turns-requires
foreach-foreach_turns-requires g t c κs within = search rules

pub foreach-returns-clause-evaluates_to : goal.foreach-returns-clause-evaluates_to
foreach-returns-clause-evaluates_to g t c = λ k. continue_with (given_on _ _ _ _ c.in_ok-loops.ensures) (c.foreach_turns.ensures.evaluates_to k)

pub foreach-returns-clause-only_grows : goal.foreach-returns-clause-only_grows
foreach-returns-clause-only_grows g t c = c.foreach_turns.ensures.only_grows

pub foreach-returns-in_err-loops-clause-evaluates_to : goal.foreach-returns-in_err-loops-clause-evaluates_to
foreach-returns-in_err-loops-clause-evaluates_to g t c = λ k. value_stops _ _ _ _ _ _ c.from_residual.ensures.1 c.in_err-loops.ensures

pub foreach-returns-in_err-loops-clause-only_grows : goal.foreach-returns-in_err-loops-clause-only_grows
foreach-returns-in_err-loops-clause-only_grows g t c = later_refl

pub foreach_turns-loop-bounds-init : goal.foreach_turns-loop-bounds-init
foreach_turns-loop-bounds-init g t c = record { evaluates_to = λ k. stay; script = c.new-script.ensures; only_grows = later_refl }

pub foreach_turns-loop-bounds-preserved : goal.foreach_turns-loop-bounds-preserved
foreach_turns-loop-bounds-preserved g t c = record {
  evaluates_to = λ k.
      let b = bounds_of c.args.bounds in
      let e = sym c.are_done.ensures ∙ c.if-are_done.false in
      let again = λ (s2 : State). Runs (plans.Foreach c.args.bounds.remaining (table.shortened c.loop-bounds.loops) c.args.body.now s2) plans.ended in
      let next = λ (s1 : State). turn b c.args.body.now s1 again in
      let here = point (g.H.Host.oracle c.loop-bounds.host) (g.H.Host.trace c.loop-bounds.host) c.loop-bounds.self.used c.loop-bounds.self.scripts in
      let a = continue_with (foreach_more b c.loop-bounds.loops c.args.body.now c.loop-bounds.self.variables e)
      (c.in_ok-begin_turn.ensures.evaluates_to c.args.bounds.limits.commands c.args.bounds.remaining
      (rule c.args.bounds.limits.value_bytes) next here) in
      let h = rw (c.if-not-branch.false, c.loop-bounds.invariant.script.0) at (c.in_ok-turn.ensures.evaluates_to again) in
      rw c.in_ok-begin_turn.ensures.rest (continue_with (c.loop-bounds.invariant.evaluates_to k) (run_tail (continue_with a h)));
  script = (c.in_ok-turn.ensures.kept.0 ∙ c.loop-bounds.invariant.script.0, c.in_ok-turn.ensures.kept.1);
  only_grows = later_on c.loop-bounds.invariant.only_grows (later_beside refl refl refl refl c.in_ok-turn.ensures.only_grows);
}

pub foreach_turns-loop-bounds-smaller : goal.foreach_turns-loop-bounds-smaller
foreach_turns-loop-bounds-smaller g t c =
    let h = c.in_ok-turn.ensures.counted in
    omega (arith, h.0, h.1)

pub foreach_turns-returns-in_err-begin_turn-clause-evaluates_to : goal.foreach_turns-returns-in_err-begin_turn-clause-evaluates_to
foreach_turns-returns-in_err-begin_turn-clause-evaluates_to g t c = λ k.
    let b = bounds_of c.args.bounds in
    let e = sym c.are_done.ensures ∙ c.if-are_done.false in
    let again = λ (s2 : State). Runs (plans.Foreach c.args.bounds.remaining (table.shortened c.loop-bounds.loops) c.args.body.now s2) plans.ended in
    let next = λ (s1 : State). turn b c.args.body.now s1 again in
    let here = point (g.H.Host.oracle c.loop-bounds.host) (g.H.Host.trace c.loop-bounds.host) c.loop-bounds.self.used c.loop-bounds.self.scripts in
    let a = continue_with (foreach_more b c.loop-bounds.loops c.args.body.now c.loop-bounds.self.variables e)
    (c.in_err-begin_turn.ensures.evaluates_to c.args.bounds.limits.commands c.args.bounds.remaining
    (rule c.args.bounds.limits.value_bytes) next here) in
    passed_on _ _ _ _ c.from_residual.ensures.1 (continue_with (c.loop-bounds.invariant.evaluates_to k) (run_stops _ _ a))

pub foreach_turns-returns-in_err-begin_turn-clause-only_grows : goal.foreach_turns-returns-in_err-begin_turn-clause-only_grows
foreach_turns-returns-in_err-begin_turn-clause-only_grows g t c = later_beside refl refl refl refl c.loop-bounds.invariant.only_grows

pub foreach_turns-returns-in_err-turn-clause-evaluates_to : goal.foreach_turns-returns-in_err-turn-clause-evaluates_to
foreach_turns-returns-in_err-turn-clause-evaluates_to g t c = λ k.
    let b = bounds_of c.args.bounds in
    let e = sym c.are_done.ensures ∙ c.if-are_done.false in
    let again = λ (s2 : State). Runs (plans.Foreach c.args.bounds.remaining (table.shortened c.loop-bounds.loops) c.args.body.now s2) plans.ended in
    let next = λ (s1 : State). turn b c.args.body.now s1 again in
    let here = point (g.H.Host.oracle c.loop-bounds.host) (g.H.Host.trace c.loop-bounds.host) c.loop-bounds.self.used c.loop-bounds.self.scripts in
    let a = continue_with (foreach_more b c.loop-bounds.loops c.args.body.now c.loop-bounds.self.variables e)
    (c.in_ok-begin_turn.ensures.evaluates_to c.args.bounds.limits.commands c.args.bounds.remaining
    (rule c.args.bounds.limits.value_bytes) next here) in
    passed_on _ _ _ _ c.from_residual-in_err-turn.ensures.1
    (continue_with (c.loop-bounds.invariant.evaluates_to k)
    (run_stops _ _ (continue_with a (rw c.loop-bounds.invariant.script.0 at
    (c.in_err-turn.ensures.evaluates_to again)))))

pub foreach_turns-returns-in_err-turn-clause-only_grows : goal.foreach_turns-returns-in_err-turn-clause-only_grows
foreach_turns-returns-in_err-turn-clause-only_grows g t c = later_on c.loop-bounds.invariant.only_grows (later_beside refl refl refl refl c.in_err-turn.ensures.only_grows)

pub foreach_turns-returns-then-are_done-clause-evaluates_to : goal.foreach_turns-returns-then-are_done-clause-evaluates_to
foreach_turns-returns-then-are_done-clause-evaluates_to g t c = λ k.
    let b = bounds_of c.args.bounds in
    let e = sym c.are_done.ensures ∙ c.if-are_done.true in
    rw c.new.ensures.bytes (continue_with (c.loop-bounds.invariant.evaluates_to k) (run_on (foreach_done b c.loop-bounds.loops c.args.body.now c.loop-bounds.self.variables e)))

pub foreach_turns-returns-then-are_done-clause-only_grows : goal.foreach_turns-returns-then-are_done-clause-only_grows
foreach_turns-returns-then-are_done-clause-only_grows g t c = c.loop-bounds.invariant.only_grows

pub foreach_turns-returns-then-not-branch-clause-evaluates_to : goal.foreach_turns-returns-then-not-branch-clause-evaluates_to
foreach_turns-returns-then-not-branch-clause-evaluates_to g t c = λ k.
    let b = bounds_of c.args.bounds in
    let e = sym c.are_done.ensures ∙ c.if-are_done.false in
    let again = λ (s2 : State). Runs (plans.Foreach c.args.bounds.remaining (table.shortened c.loop-bounds.loops) c.args.body.now s2) plans.ended in
    let next = λ (s1 : State). turn b c.args.body.now s1 again in
    let here = point (g.H.Host.oracle c.loop-bounds.host) (g.H.Host.trace c.loop-bounds.host) c.loop-bounds.self.used c.loop-bounds.self.scripts in
    let a = continue_with (foreach_more b c.loop-bounds.loops c.args.body.now c.loop-bounds.self.variables e)
    (c.in_ok-begin_turn.ensures.evaluates_to c.args.bounds.limits.commands c.args.bounds.remaining
    (rule c.args.bounds.limits.value_bytes) next here) in
    let h = rw (c.if-not-branch.true, c.loop-bounds.invariant.script.0) at (c.in_ok-turn.ensures.evaluates_to again) in
    rw c.new-then-not-branch.ensures.bytes (continue_with (c.loop-bounds.invariant.evaluates_to k) (run_on (continue_with a h)))

pub foreach_turns-returns-then-not-branch-clause-only_grows : goal.foreach_turns-returns-then-not-branch-clause-only_grows
foreach_turns-returns-then-not-branch-clause-only_grows g t c = later_on c.loop-bounds.invariant.only_grows (later_beside refl refl refl refl c.in_ok-turn.ensures.only_grows)

pub foreach_turns-turn-requires : goal.foreach_turns-turn-requires
foreach_turns-turn-requires g t c κs within = (search rules, (search rules, c.loop-bounds.invariant.script.1))

pub form-branches-requires : goal.form-branches-requires
form-branches-requires g t c κs within = search rules

pub form-catch-requires : goal.form-catch-requires
form-catch-requires g t c κs within = search rules

pub form-chosen-body-requires-text-text : goal.form-chosen-body-requires-text-text
form-chosen-body-requires-text-text g t c κs = search rules

pub form-express_words-requires : goal.form-express_words-requires
form-express_words-requires g t c κs within = search rules

pub form-for_loop-requires : goal.form-for_loop-requires
form-for_loop-requires g t c κs within = search rules

pub form-foreach-requires : goal.form-foreach-requires
form-foreach-requires g t c κs within = search rules

pub form-otherwise-requires : goal.form-otherwise-requires
form-otherwise-requires g t c κs within = search rules

pub form-returns-in-Catch-clause-evaluates_to : goal.form-returns-in-Catch-clause-evaluates_to
form-returns-in-Catch-clause-evaluates_to g t c =
    let w = c.within-in-Catch.ensures c.args.result_use c.catch.new.self.variables in (
      w.0,
      w.1,
      λ k. from_same (ap (λ form. table.form (bounds_of c.args.bounds) (form_view form)
          c.args.self.now.variables (sized_next c.args.bounds.limits.value_bytes k)) c.in-Catch.is)
          (continue_with (c.catch.ensures.evaluates_to (sized_next c.args.bounds.limits.value_bytes k)) (w.2 _ _ k _)),
    )

pub form-returns-in-Catch-clause-only_grows : goal.form-returns-in-Catch-clause-only_grows
form-returns-in-Catch-clause-only_grows g t c = c.catch.ensures.only_grows

pub form-returns-in-For-clause-evaluates_to : goal.form-returns-in-For-clause-evaluates_to
form-returns-in-For-clause-evaluates_to g t c =
    let w = c.within-in-For.ensures c.args.result_use c.for_loop.new.self.variables in (
      w.0,
      w.1,
      λ k. from_same (ap (λ form. table.form (bounds_of c.args.bounds) (form_view form)
          c.args.self.now.variables (sized_next c.args.bounds.limits.value_bytes k)) c.in-For.is)
          (continue_with (c.for_loop.ensures.evaluates_to (sized_next c.args.bounds.limits.value_bytes k)) (w.2 _ _ k _)),
    )

pub form-returns-in-For-clause-only_grows : goal.form-returns-in-For-clause-only_grows
form-returns-in-For-clause-only_grows g t c = c.for_loop.ensures.only_grows

pub form-returns-in-Foreach-clause-evaluates_to : goal.form-returns-in-Foreach-clause-evaluates_to
form-returns-in-Foreach-clause-evaluates_to g t c =
    let w = c.within-in-Foreach.ensures c.args.result_use c.foreach.new.self.variables in (
      w.0,
      w.1,
      λ k.
          let h = rw c.as_slice-in-Foreach.ensures.value at (c.foreach.ensures.evaluates_to (sized_next c.args.bounds.limits.value_bytes k)) in
          from_same (ap (λ form. table.form (bounds_of c.args.bounds) (form_view form) c.args.self.now.variables
          (sized_next c.args.bounds.limits.value_bytes k)) c.in-Foreach.is) (continue_with h (w.2 _ _ k _)),
    )

pub form-returns-in-Foreach-clause-only_grows : goal.form-returns-in-Foreach-clause-only_grows
form-returns-in-Foreach-clause-only_grows g t c = c.foreach.ensures.only_grows

pub form-returns-in-If-clause-evaluates_to : goal.form-returns-in-If-clause-evaluates_to
form-returns-in-If-clause-evaluates_to g t c =
    let a = rw c.as_slice.ensures.value at c.branches.ensures.evaluates_to in
    (a.0, a.1, λ k. from_same (ap (λ form. table.form (bounds_of c.args.bounds) (form_view form) c.args.self.now.variables (sized_next c.args.bounds.limits.value_bytes k)) c.in-If.is) (a.2 k))

pub form-returns-in-If-clause-only_grows : goal.form-returns-in-If-clause-only_grows
form-returns-in-If-clause-only_grows g t c = c.branches.ensures.only_grows

pub form-returns-in-Switch-clause-evaluates_to : goal.form-returns-in-Switch-clause-evaluates_to
form-returns-in-Switch-clause-evaluates_to g t c =
    let e = rw c.as_slice-in-Switch.ensures at c.chosen-body.ensures in
    let a = c.otherwise.ensures.evaluates_to in
    (a.0, a.1, λ k. rw (c.in-Switch.is, ← e) (a.2 k))

pub form-returns-in-Switch-clause-only_grows : goal.form-returns-in-Switch-clause-only_grows
form-returns-in-Switch-clause-only_grows g t c = c.otherwise.ensures.only_grows

pub form-returns-in-While-clause-evaluates_to : goal.form-returns-in-While-clause-evaluates_to
form-returns-in-While-clause-evaluates_to g t c =
    let w = c.within-in-While.ensures c.args.result_use c.while_turns.new.self.variables in (
      w.0,
      w.1,
      λ k. from_same (ap (λ form. table.form (bounds_of c.args.bounds) (form_view form)
          c.args.self.now.variables (sized_next c.args.bounds.limits.value_bytes k)) c.in-While.is)
          (continue_with (c.while_turns.ensures.evaluates_to (sized_next c.args.bounds.limits.value_bytes k))
          (w.2 _ _ k _)),
    )

pub form-returns-in-While-clause-only_grows : goal.form-returns-in-While-clause-only_grows
form-returns-in-While-clause-only_grows g t c = c.while_turns.ensures.only_grows

pub form-returns-in-Simple-clause-evaluates_to : goal.form-returns-in-Simple-clause-evaluates_to
form-returns-in-Simple-clause-evaluates_to g t c =
    let a = c.simple.ensures.evaluates_to in
    (a.0, a.1, λ k. from_same (ap (λ form. table.form (bounds_of c.args.bounds) (form_view form) c.args.self.now.variables (sized_next c.args.bounds.limits.value_bytes k)) c.in-Simple.is) (a.2 k))

pub form-returns-in-Simple-clause-only_grows : goal.form-returns-in-Simple-clause-only_grows
form-returns-in-Simple-clause-only_grows g t c = c.simple.ensures.only_grows

pub form-while_turns-requires : goal.form-while_turns-requires
form-while_turns-requires g t c κs within = search rules

pub guarded_turn-holds-requires : goal.guarded_turn-holds-requires
guarded_turn-holds-requires g t c κs within = search rules

pub guarded_turn-returns-clause-evaluates_to : goal.guarded_turn-returns-clause-evaluates_to
guarded_turn-returns-clause-evaluates_to g t c = λ again.
    let g = guarded (bounds_of c.args.bounds) c.args.body.now.text.now again in
    rw c.if-branch.false at (c.in_ok-holds.ensures.evaluates_to g)

pub guarded_turn-returns-clause-counted : goal.guarded_turn-returns-clause-counted
guarded_turn-returns-clause-counted g t c = λ e. absurd (false≢true e)

pub guarded_turn-returns-clause-only_grows : goal.guarded_turn-returns-clause-only_grows
guarded_turn-returns-clause-only_grows g t c = c.in_ok-holds.ensures.only_grows

pub guarded_turn-returns-clause-kept : goal.guarded_turn-returns-clause-kept
guarded_turn-returns-clause-kept g t c = (refl, c.requires)

pub guarded_turn-returns-in_err-holds-clause-kept : goal.guarded_turn-returns-in_err-holds-clause-kept
guarded_turn-returns-in_err-holds-clause-kept g t c = (refl, c.requires)

pub guarded_turn-returns-then-branch-clause-kept : goal.guarded_turn-returns-then-branch-clause-kept
guarded_turn-returns-then-branch-clause-kept g t c = c.turn.ensures.kept

pub guarded_turn-returns-in_err-holds-clause-evaluates_to : goal.guarded_turn-returns-in_err-holds-clause-evaluates_to
guarded_turn-returns-in_err-holds-clause-evaluates_to g t c = λ again. passed_on _ _ _ _ c.from_residual.ensures.1 (c.in_err-holds.ensures.evaluates_to _)

pub guarded_turn-returns-in_err-holds-clause-counted : goal.guarded_turn-returns-in_err-holds-clause-counted
guarded_turn-returns-in_err-holds-clause-counted g t c =
    let p = err_from_is_err_and c.from_residual.result c.from_residual.ensures.1 in
    rw p.1 tt

pub guarded_turn-returns-in_err-holds-clause-only_grows : goal.guarded_turn-returns-in_err-holds-clause-only_grows
guarded_turn-returns-in_err-holds-clause-only_grows g t c = c.in_err-holds.ensures.only_grows

pub guarded_turn-returns-then-branch-clause-evaluates_to : goal.guarded_turn-returns-then-branch-clause-evaluates_to
guarded_turn-returns-then-branch-clause-evaluates_to g t c = λ again.
    let g = guarded (bounds_of c.args.bounds) c.args.body.now.text.now again in
    let h = rw c.if-branch.true at (c.in_ok-holds.ensures.evaluates_to g) in
    continue_with h (c.turn.ensures.evaluates_to again)

pub guarded_turn-returns-then-branch-clause-counted : goal.guarded_turn-returns-then-branch-clause-counted
guarded_turn-returns-then-branch-clause-counted g t c = counted_on c.args.bounds.limits.commands c.turn.new.self.used
    c.args.self.now.used c.holds.new.self.used c.turn.result c.in_ok-holds.ensures.only_grows.rises
    c.turn.ensures.counted

pub guarded_turn-returns-then-branch-clause-only_grows : goal.guarded_turn-returns-then-branch-clause-only_grows
guarded_turn-returns-then-branch-clause-only_grows g t c = later_on c.in_ok-holds.ensures.only_grows c.turn.ensures.only_grows

pub guarded_turn-turn-requires : goal.guarded_turn-turn-requires
guarded_turn-turn-requires g t c κs within = (search rules, (search rules, c.requires))

pub other_command-call-requires : goal.other_command-call-requires
other_command-call-requires g t c κs within = search rules

pub other_command-procedure-requires-text-name : goal.other_command-procedure-requires-text-name
other_command-procedure-requires-text-name g t c κs = search rules

pub other_command-returns-in-None-clause-evaluates_to : goal.other_command-returns-in-None-clause-evaluates_to
other_command-returns-in-None-clause-evaluates_to g t c =
    let a = c.unknown_command.ensures in
    let n = rw c.name.ensures at c.in-None.ensures in
    (a.0, a.1, λ k. rw (← n) (a.2 c.args.bounds.limits.commands c.args.self.now.used c.args.self.now.scripts (bounds_of c.args.bounds) (rule c.args.bounds.limits.value_bytes) k))

pub other_command-returns-in-None-clause-only_grows : goal.other_command-returns-in-None-clause-only_grows
other_command-returns-in-None-clause-only_grows g t c = later_refl

pub other_command-returns-in_err-procedure-in-Some-clause-evaluates_to : goal.other_command-returns-in_err-procedure-in-Some-clause-evaluates_to
other_command-returns-in_err-procedure-in-Some-clause-evaluates_to g t c =
    comes_stopped _ _ _ _ _ c.from_residual.ensures.1 (λ k. starve)

pub other_command-returns-in_err-procedure-in-Some-clause-only_grows : goal.other_command-returns-in_err-procedure-in-Some-clause-only_grows
other_command-returns-in_err-procedure-in-Some-clause-only_grows g t c = later_refl

pub other_command-returns-in_ok-procedure-in-Some-clause-evaluates_to : goal.other_command-returns-in_ok-procedure-in-Some-clause-evaluates_to
other_command-returns-in_ok-procedure-in-Some-clause-evaluates_to g t c =
    let d = c.deref.ensures in
    let n = rw c.name.ensures at c.in-Some.ensures in
    let q = c.in_ok-procedure-in-Some.ensures in
    let w = c.within.ensures c.args.result_use c.call.new.self.variables in (
      w.0,
      w.1,
      λ k.
          let h = rw (d, q.cases) at (c.call.ensures.evaluates_to (sized_next c.args.bounds.limits.value_bytes k)) in
          rw (← n) (continue_with h (w.2 _ _ k _)),
    )

pub other_command-returns-in_ok-procedure-in-Some-clause-only_grows : goal.other_command-returns-in_ok-procedure-in-Some-clause-only_grows
other_command-returns-in_ok-procedure-in-Some-clause-only_grows g t c = c.call.ensures.only_grows

pub otherwise-returns-in-None-clause-evaluates_to : goal.otherwise-returns-in-None-clause-evaluates_to
otherwise-returns-in-None-clause-evaluates_to g t c =
    ([], (omega arith, λ q. c.new.ensures.bytes), λ k. rw c.in-None.is (sized_on c.args.bounds.limits.value_bytes [] (k [] c.args.self.now.variables) (omega arith)))

pub otherwise-returns-in-None-clause-only_grows : goal.otherwise-returns-in-None-clause-only_grows
otherwise-returns-in-None-clause-only_grows g t c = later_refl

pub otherwise-returns-in-Some-clause-evaluates_to : goal.otherwise-returns-in-Some-clause-evaluates_to
otherwise-returns-in-Some-clause-evaluates_to g t c =
    let n = run_comes {j = plans.Script c.args.bounds.remaining c.in-Some.body.now c.args.self.now.variables} _ _ _ _ c.script.ensures.evaluates_to in
    (n.0, n.1, λ k. rw c.in-Some.is (n.2 k))

pub otherwise-returns-in-Some-clause-only_grows : goal.otherwise-returns-in-Some-clause-only_grows
otherwise-returns-in-Some-clause-only_grows g t c = c.script.ensures.only_grows

pub otherwise-script-requires : goal.otherwise-script-requires
otherwise-script-requires g t c κs within = search rules

pub script-parsed_script-requires : goal.script-parsed_script-requires
script-parsed_script-requires g t c κs within = search rules

pub script-returns-in-Err-clause-evaluates_to : goal.script-returns-in-Err-clause-evaluates_to
script-returns-in-Err-clause-evaluates_to g t c = ([], tt, rw c.from.ensures (continue_with (begin_on _ _ c.in_ok-inside.ensures.0) (text_stops _ _ _ _ c.in-Err.ensures.tree)))

pub script-returns-in-Err-clause-only_grows : goal.script-returns-in-Err-clause-only_grows
script-returns-in-Err-clause-only_grows g t c = later_begun refl c.script_tree.ensures.begins

pub script-returns-in-Ok-clause-evaluates_to : goal.script-returns-in-Ok-clause-evaluates_to
script-returns-in-Ok-clause-evaluates_to g t c =
    let i = c.in_ok-inside.ensures in
    let h = rw i.1 at c.parsed_script.ensures.evaluates_to in
    (h.0, h.1, rw (c.in-Ok.ensures.tree, ← c.in-Ok.ensures.text) (continue_with (begin_on _ _ i.0) h.2))

pub script-returns-in-Ok-clause-only_grows : goal.script-returns-in-Ok-clause-only_grows
script-returns-in-Ok-clause-only_grows g t c = later_parsed refl c.script_tree.ensures.begins c.parsed_script.ensures.only_grows

pub script-returns-in_err-inside-clause-evaluates_to : goal.script-returns-in_err-inside-clause-evaluates_to
script-returns-in_err-inside-clause-evaluates_to g t c =
    let i = c.in_err-inside.ensures in
    comes_cut _ _ _ _ _ c.from_residual.ensures.1 (rw i.1 (begin_stops _ _ i.0))

pub script-returns-in_err-inside-clause-only_grows : goal.script-returns-in_err-inside-clause-only_grows
script-returns-in_err-inside-clause-only_grows g t c = later_refl

pub script-script_tree-requires-text-text : goal.script-script_tree-requires-text-text
script-script_tree-requires-text-text g t c κs = search rules

pub repeated_script-tree-requires : goal.repeated_script-tree-requires
repeated_script-tree-requires g t c = c.requires

pub repeated_script-parsed_script-requires : goal.repeated_script-parsed_script-requires
repeated_script-parsed_script-requires g t c κs within = search rules

pub repeated_script-returns-in-Err-clause-evaluates_to : goal.repeated_script-returns-in-Err-clause-evaluates_to
repeated_script-returns-in-Err-clause-evaluates_to g t c = ([], tt, rw c.from.ensures (continue_with (begin_on _ _ c.in_ok-inside.ensures.0) (text_stops _ _ _ _ c.in-Err.ensures.tree)))

pub repeated_script-returns-in-Err-clause-kept : goal.repeated_script-returns-in-Err-clause-kept
repeated_script-returns-in-Err-clause-kept g t c = c.tree.ensures.kept

pub repeated_script-returns-in-Ok-clause-kept : goal.repeated_script-returns-in-Ok-clause-kept
repeated_script-returns-in-Ok-clause-kept g t c = c.tree.ensures.kept

pub repeated_script-returns-in_err-inside-clause-kept : goal.repeated_script-returns-in_err-inside-clause-kept
repeated_script-returns-in_err-inside-clause-kept g t c = (refl, c.requires)

pub repeated_script-returns-in-Err-clause-only_grows : goal.repeated_script-returns-in-Err-clause-only_grows
repeated_script-returns-in-Err-clause-only_grows g t c = later_begun refl c.tree.ensures.begins

pub repeated_script-returns-in-Ok-clause-evaluates_to : goal.repeated_script-returns-in-Ok-clause-evaluates_to
repeated_script-returns-in-Ok-clause-evaluates_to g t c =
    let i = c.in_ok-inside.ensures in
    let h = rw i.1 at c.parsed_script.ensures.evaluates_to in
    (h.0, h.1, rw (c.in-Ok.ensures.tree, ← c.in-Ok.ensures.text) (continue_with (begin_on _ _ i.0) h.2))

pub repeated_script-returns-in-Ok-clause-only_grows : goal.repeated_script-returns-in-Ok-clause-only_grows
repeated_script-returns-in-Ok-clause-only_grows g t c = later_parsed refl c.tree.ensures.begins c.parsed_script.ensures.only_grows

pub repeated_script-returns-in_err-inside-clause-evaluates_to : goal.repeated_script-returns-in_err-inside-clause-evaluates_to
repeated_script-returns-in_err-inside-clause-evaluates_to g t c =
    let i = c.in_err-inside.ensures in
    comes_cut _ _ _ _ _ c.from_residual.ensures.1 (rw i.1 (begin_stops _ _ i.0))

pub repeated_script-returns-in_err-inside-clause-only_grows : goal.repeated_script-returns-in_err-inside-clause-only_grows
repeated_script-returns-in_err-inside-clause-only_grows g t c = later_refl

pub turn-returns-clause-evaluates_to : goal.turn-returns-clause-evaluates_to
turn-returns-clause-evaluates_to g t c = λ again.
    let h = c.in_ok-count.ensures in
    let r = rw (h.variables, h.counted.1, h.scripts) at c.repeated_script.ensures.evaluates_to in
    let b = bounds_of c.args.bounds in
    continue_with (same_as (c.after_turn-more.ensures b again _) (continue_with (count_on h.counted.0) (run_turn b again _ _ _ r)))
    (c.left.ensures.evaluates_to (loop_continuation again) (g.H.Host.oracle c.repeated_script.new.host)
    (g.H.Host.trace c.repeated_script.new.host))

pub turn-returns-clause-counted : goal.turn-returns-clause-counted
turn-returns-clause-counted g t c =
    let h = c.in_ok-count.ensures.counted in
    let p : (c.args.self.now.used < c.args.bounds.limits.commands) × (c.args.self.now.used < c.left.new.self.used) = (h.0, omega (arith, h.1, c.repeated_script.ensures.only_grows.rises, c.left.ensures.used)) in
    ok_any c.left.result _ p

pub turn-returns-clause-only_grows : goal.turn-returns-clause-only_grows
turn-returns-clause-only_grows g t c = later_on (later_on (later_counted c.in_ok-count.ensures.counted.1 c.in_ok-count.ensures.cache) c.repeated_script.ensures.only_grows) (later_still c.left.ensures.used c.left.ensures.cache)

pub turn-returns-clause-kept : goal.turn-returns-clause-kept
turn-returns-clause-kept g t c = c.repeated_script.ensures.kept

pub turn-returns-in_err-count-clause-kept : goal.turn-returns-in_err-count-clause-kept
turn-returns-in_err-count-clause-kept g t c = (refl, c.requires)

pub turn-returns-in_err-count-clause-evaluates_to : goal.turn-returns-in_err-count-clause-evaluates_to
turn-returns-in_err-count-clause-evaluates_to g t c = λ again.
    let h = c.in_err-count.ensures.counted in
    passed_on _ _ _ _ c.from_residual.ensures.1 (rw (h.2, h.1, c.in_err-count.ensures.scripts) (count_over h.0))

pub turn-returns-in_err-count-clause-counted : goal.turn-returns-in_err-count-clause-counted
turn-returns-in_err-count-clause-counted g t c =
    let p = err_from_is_err_and c.from_residual.result c.from_residual.ensures.1 in
    rw p.1 tt

pub turn-returns-in_err-count-clause-only_grows : goal.turn-returns-in_err-count-clause-only_grows
turn-returns-in_err-count-clause-only_grows g t c = later_still c.in_err-count.ensures.counted.1 c.in_err-count.ensures.cache

pub turn-repeated_script-requires : goal.turn-repeated_script-requires
turn-repeated_script-requires g t c κs within = (search rules, (search rules, c.requires))

pub value-bracket-requires : goal.value-bracket-requires
value-bracket-requires g t c κs within = search rules

pub value-fact_in-source : goal.value-fact_in-source
value-fact_in-source g t c = search rules

pub value-loop-stack-init : goal.value-loop-stack-init
value-loop-stack-init g t c = record { evaluates_to = λ k. rw c.new-stack.ensures.items stay; only_grows = later_refl }

pub value-loop-stack-preserved : goal.value-loop-stack-preserved
value-loop-stack-preserved g t c =
    let h = rw c.in-Bracket.is at c.in_ok-next.ensures in
    record {
      evaluates_to = λ k. continue_with (continue_with (c.loop-stack.invariant.evaluates_to k)
          (h.0 _ c.loop-stack.self.used c.args.bounds.remaining c.loop-stack.self.scripts _ k)) (c.in_ok-value-in-Bracket.ensures.evaluates_to _);
      only_grows = later_on c.loop-stack.invariant.only_grows c.in_ok-value-in-Bracket.ensures.only_grows;
    }

pub value-loop-stack-preserved-in-Next : goal.value-loop-stack-preserved-in-Next
value-loop-stack-preserved-in-Next g t c =
    let h = rw c.in-Next.is at c.in_ok-next.ensures in
    record { evaluates_to = λ k. continue_with (c.loop-stack.invariant.evaluates_to k) (h.0 _ c.loop-stack.self.used c.args.bounds.remaining c.loop-stack.self.scripts _ k); only_grows = c.loop-stack.invariant.only_grows }

pub value-loop-stack-smaller : goal.value-loop-stack-smaller
value-loop-stack-smaller g t c =
    let h = rw c.in-Bracket.is at c.in_ok-next.ensures in
    omega (arith, h.1)

pub value-loop-stack-smaller-in-Next : goal.value-loop-stack-smaller-in-Next
value-loop-stack-smaller-in-Next g t c =
    let h = rw c.in-Next.is at c.in_ok-next.ensures in
    omega (arith, h.1)

pub value-returns-in-Done-clause-evaluates_to : goal.value-returns-in-Done-clause-evaluates_to
value-returns-in-Done-clause-evaluates_to g t c = λ k.
    let h = rw c.in-Done.is at c.in_ok-next.ensures in
    continue_with (c.loop-stack.invariant.evaluates_to k) (h.0 _ c.loop-stack.self.used c.args.bounds.remaining c.loop-stack.self.scripts _ k)

pub value-returns-in-Done-clause-only_grows : goal.value-returns-in-Done-clause-only_grows
value-returns-in-Done-clause-only_grows g t c = c.loop-stack.invariant.only_grows

pub value-returns-in_err-next-clause-evaluates_to : goal.value-returns-in_err-next-clause-evaluates_to
value-returns-in_err-next-clause-evaluates_to g t c = λ k. passed_on _ _ _ _ c.from_residual.ensures.1
    (continue_with (c.loop-stack.invariant.evaluates_to k)
    (c.in_err-next.ensures.0 _ c.loop-stack.self.used c.args.bounds.remaining c.loop-stack.self.scripts _ k))

pub value-returns-in_err-next-clause-only_grows : goal.value-returns-in_err-next-clause-only_grows
value-returns-in_err-next-clause-only_grows g t c = c.loop-stack.invariant.only_grows

pub value-returns-in_err-value-in-Bracket-clause-evaluates_to : goal.value-returns-in_err-value-in-Bracket-clause-evaluates_to
value-returns-in_err-value-in-Bracket-clause-evaluates_to g t c = λ k.
    let h = rw c.in-Bracket.is at c.in_ok-next.ensures in
    passed_on _ _ _ _ c.from_residual-in_err-value-in-Bracket.ensures.1
    (continue_with (continue_with (c.loop-stack.invariant.evaluates_to k)
    (h.0 _ c.loop-stack.self.used c.args.bounds.remaining c.loop-stack.self.scripts _ k)) (c.in_err-value-in-Bracket.ensures.evaluates_to _))

pub value-returns-in_err-value-in-Bracket-clause-only_grows : goal.value-returns-in_err-value-in-Bracket-clause-only_grows
value-returns-in_err-value-in-Bracket-clause-only_grows g t c = later_on c.loop-stack.invariant.only_grows c.in_err-value-in-Bracket.ensures.only_grows

pub while_turns-guarded_turn-requires : goal.while_turns-guarded_turn-requires
while_turns-guarded_turn-requires g t c κs within = (search rules, (search rules, c.loop-body.invariant.body.1))

pub while_turns-loop-body-init : goal.while_turns-loop-body-init
while_turns-loop-body-init g t c = record { evaluates_to = λ k. stay; body = c.new-body.ensures; only_grows = later_begun refl c.in_ok-condition.ensures.begins }

pub while_turns-loop-body-preserved : goal.while_turns-loop-body-preserved
while_turns-loop-body-preserved g t c = record {
  evaluates_to = λ k.
      let again = λ (s2 : State). Runs (plans.While c.args.bounds.remaining c.args.parts.condition.now c.args.parts.body.now s2) plans.ended in
      let h = rw c.if-not-branch.false at (continue_with
      (given_on _ _ c.loop-body.self.variables (λ e. condition_plan (bounds_of c.args.bounds) e
      c.loop-body.self.variables (guarded (bounds_of c.args.bounds) c.args.parts.body.now again))
      c.in_ok-condition.ensures.tree) (rw (c.deref.ensures, c.loop-body.invariant.body.0) at
      (c.in_ok-guarded_turn.ensures.evaluates_to again))) in
      continue_with (c.loop-body.invariant.evaluates_to k) (run_tail h);
  body = (c.in_ok-guarded_turn.ensures.kept.0 ∙ c.loop-body.invariant.body.0, c.in_ok-guarded_turn.ensures.kept.1);
  only_grows = later_on c.loop-body.invariant.only_grows c.in_ok-guarded_turn.ensures.only_grows;
}

pub while_turns-loop-body-smaller : goal.while_turns-loop-body-smaller
while_turns-loop-body-smaller g t c =
    let h = c.in_ok-guarded_turn.ensures.counted c.if-not-branch.false in
    omega (arith, h.0, h.1)

pub while_turns-returns-in_err-guarded_turn-clause-evaluates_to : goal.while_turns-returns-in_err-guarded_turn-clause-evaluates_to
while_turns-returns-in_err-guarded_turn-clause-evaluates_to g t c = λ k.
    let again = λ (s2 : State). Runs (plans.While c.args.bounds.remaining c.args.parts.condition.now c.args.parts.body.now s2) plans.ended in
    passed_on _ _ _ _ c.from_residual-in_err-guarded_turn.ensures.1
    (continue_with (c.loop-body.invariant.evaluates_to k)
    (run_stops _ _ (continue_with (given_on _ _ c.loop-body.self.variables
    (λ e. condition_plan (bounds_of c.args.bounds) e c.loop-body.self.variables
    (guarded (bounds_of c.args.bounds) c.args.parts.body.now again)) c.in_ok-condition.ensures.tree)
    (rw (c.deref.ensures, c.loop-body.invariant.body.0) at (c.in_err-guarded_turn.ensures.evaluates_to again)))))

pub while_turns-returns-in_err-guarded_turn-clause-only_grows : goal.while_turns-returns-in_err-guarded_turn-clause-only_grows
while_turns-returns-in_err-guarded_turn-clause-only_grows g t c = later_on c.loop-body.invariant.only_grows c.in_err-guarded_turn.ensures.only_grows

pub while_turns-returns-then-not-branch-clause-evaluates_to : goal.while_turns-returns-then-not-branch-clause-evaluates_to
while_turns-returns-then-not-branch-clause-evaluates_to g t c = λ k.
    let again = λ (s2 : State). Runs (plans.While c.args.bounds.remaining c.args.parts.condition.now c.args.parts.body.now s2) plans.ended in
    let h = rw c.if-not-branch.true at (continue_with
    (given_on _ _ c.loop-body.self.variables (λ e. condition_plan (bounds_of c.args.bounds) e
    c.loop-body.self.variables (guarded (bounds_of c.args.bounds) c.args.parts.body.now again))
    c.in_ok-condition.ensures.tree) (rw (c.deref.ensures, c.loop-body.invariant.body.0) at
    (c.in_ok-guarded_turn.ensures.evaluates_to again))) in
    rw c.new.ensures.bytes (continue_with (c.loop-body.invariant.evaluates_to k) (run_on h))

pub while_turns-returns-then-not-branch-clause-only_grows : goal.while_turns-returns-then-not-branch-clause-only_grows
while_turns-returns-then-not-branch-clause-only_grows g t c = later_on c.loop-body.invariant.only_grows c.in_ok-guarded_turn.ensures.only_grows

pub words-loop-word-init : goal.words-loop-word-init
words-loop-word-init g t c = record { evaluates_to = λ k. rw c.new-texts.ensures.items stay; only_grows = later_refl }

pub words-loop-word-preserved : goal.words-loop-word-preserved
words-loop-word-preserved g t c = record {
  evaluates_to = λ k.
      let b = bounds_of c.args.bounds in
      let d = drop_here _ _ _ c.loop-word-test.true c.word-item.is in
      let l = rw (d, word_content (range_text c.args.words.source.now) c.word-item.result) at (c.loop-word.invariant.evaluates_to k) in
      let item = out-Word ByteRange c.word-item.result in
      let rest = words_of (map (word_view (range_text c.args.words.source.now)) (drop (c.loop-word.word-index + 1) c.args.words.tree.now)) in
      let next = λ (t : Text) (s' : State). given (expanded item.expands t) s' (λ ts. pieces.words b rest (map string_bytes c.loop-word.texts.items ++ ts) s' k) in
      let w = c.in_ok-text.ensures.evaluates_to next in
      let p = c.in_ok-push_words.ensures in
      rw p.2 (continue_with (continue_with l w) (given_on _ _ _ _ p.1));
  only_grows = later_on c.loop-word.invariant.only_grows c.in_ok-text.ensures.only_grows;
}

pub words-loop-word-smaller : goal.words-loop-word-smaller
words-loop-word-smaller g t c = omega arith

pub words-offset_bounds-word-items-word-index : goal.words-offset_bounds-word-items-word-index
words-offset_bounds-word-items-word-index g t c = omega arith

pub words-returns-clause-evaluates_to : goal.words-returns-clause-evaluates_to
words-returns-clause-evaluates_to g t c = λ k.
    let d = drop_all _ _ c.loop-word-test.false in
    rw d at (c.loop-word.invariant.evaluates_to k)

pub words-returns-clause-only_grows : goal.words-returns-clause-only_grows
words-returns-clause-only_grows g t c = c.loop-word.invariant.only_grows

pub words-returns-in_err-push_words-clause-evaluates_to : goal.words-returns-in_err-push_words-clause-evaluates_to
words-returns-in_err-push_words-clause-evaluates_to g t c = λ k.
    let b = bounds_of c.args.bounds in
    let d = drop_here _ _ _ c.loop-word-test.true c.word-item.is in
    let l = rw (d, word_content (range_text c.args.words.source.now) c.word-item.result) at (c.loop-word.invariant.evaluates_to k) in
    let item = out-Word ByteRange c.word-item.result in
    let rest = words_of (map (word_view (range_text c.args.words.source.now)) (drop (c.loop-word.word-index + 1) c.args.words.tree.now)) in
    let next = λ (t : Text) (s' : State). given (expanded item.expands t) s' (λ ts. pieces.words b rest (map string_bytes c.loop-word.texts.items ++ ts) s' k) in
    let w = c.in_ok-text.ensures.evaluates_to next in
    continue_with (continue_with l w) (value_stops _ _ _ _ _ _ c.from_residual-in_err-push_words.ensures.1 c.in_err-push_words.ensures)

pub words-returns-in_err-push_words-clause-only_grows : goal.words-returns-in_err-push_words-clause-only_grows
words-returns-in_err-push_words-clause-only_grows g t c = later_on c.loop-word.invariant.only_grows c.in_ok-text.ensures.only_grows

pub words-returns-in_err-text-clause-evaluates_to : goal.words-returns-in_err-text-clause-evaluates_to
words-returns-in_err-text-clause-evaluates_to g t c = λ k.
    let b = bounds_of c.args.bounds in
    let d = drop_here _ _ _ c.loop-word-test.true c.word-item.is in
    let l = rw (d, word_content (range_text c.args.words.source.now) c.word-item.result) at (c.loop-word.invariant.evaluates_to k) in
    let item = out-Word ByteRange c.word-item.result in
    let rest = words_of (map (word_view (range_text c.args.words.source.now)) (drop (c.loop-word.word-index + 1) c.args.words.tree.now)) in
    let next = λ (t : Text) (s' : State). given (expanded item.expands t) s' (λ ts. pieces.words b rest (map string_bytes c.loop-word.texts.items ++ ts) s' k) in
    let w = c.in_err-text.ensures.evaluates_to next in
    passed_on _ _ _ _ c.from_residual.ensures.1 (continue_with l w)

pub words-returns-in_err-text-clause-only_grows : goal.words-returns-in_err-text-clause-only_grows
words-returns-in_err-text-clause-only_grows g t c = later_on c.loop-word.invariant.only_grows c.in_err-text.ensures.only_grows

pub words-word-requires : goal.words-word-requires
words-word-requires g t c κs within = search rules

pub branches-decide-requires-text-text : goal.branches-decide-requires-text-text
branches-decide-requires-text-text g t c κs within = search rules

pub branches-script-requires-text-text : goal.branches-script-requires-text-text
branches-script-requires-text-text g t c κs within = search rules

pub call-script-outcome-requires-text-text : goal.call-script-outcome-requires-text-text
call-script-outcome-requires-text-text g t c κs within = search rules

pub catch-script-outcome-requires-text-text : goal.catch-script-outcome-requires-text-text
catch-script-outcome-requires-text-text g t c κs within = search rules

pub for_loop-script-requires-text-text : goal.for_loop-script-requires-text-text
for_loop-script-requires-text-text g t c κs within = search rules

pub foreach-foreach_turns-requires-text-body : goal.foreach-foreach_turns-requires-text-body
foreach-foreach_turns-requires-text-body g t c κs within = search rules

pub form-foreach-requires-text-body : goal.form-foreach-requires-text-body
form-foreach-requires-text-body g t c κs within = search rules

pub form-catch-requires-text-body : goal.form-catch-requires-text-body
form-catch-requires-text-body g t c κs within = search rules

pub otherwise-script-requires-text-text : goal.otherwise-script-requires-text-text
otherwise-script-requires-text-text g t c κs within = search rules

pub word-joined_parts-requires : goal.word-joined_parts-requires
word-joined_parts-requires g t c κs within = search rules

pub word-of-requires-text-text : goal.word-of-requires-text-text
word-of-requires-text-text g t c κs = search rules

pub word-of-requires-in-Braced-text-text : goal.word-of-requires-in-Braced-text-text
word-of-requires-in-Braced-text-text g t c κs = search rules

pub word-copied-requires-text-text : goal.word-copied-requires-text-text
word-copied-requires-text-text g t c κs = search rules

pub word-braced_value-requires-text-inside : goal.word-braced_value-requires-text-inside
word-braced_value-requires-text-inside g t c κs = search rules

pub word-returns-in-Bare-clause-evaluates_to : goal.word-returns-in-Bare-clause-evaluates_to
word-returns-in-Bare-clause-evaluates_to g t c = λ k.
    let v = ap (content_view (range_text c.args.word.source.now)) c.in-Bare.is ∙ content_bare (range_text c.args.word.source.now) c.in-Bare.range in
    rw (v, ← c.of.ensures) (c.copied.ensures _ _ k _ _)

pub word-returns-in-Bare-clause-only_grows : goal.word-returns-in-Bare-clause-only_grows
word-returns-in-Bare-clause-only_grows g t c = later_refl

pub word-returns-in-Braced-clause-evaluates_to : goal.word-returns-in-Braced-clause-evaluates_to
word-returns-in-Braced-clause-evaluates_to g t c = λ k.
    let v = ap (content_view (range_text c.args.word.source.now)) c.in-Braced.is ∙ content_braced (range_text c.args.word.source.now) c.in-Braced.range in
    rw (v, ← c.of-in-Braced.ensures) (c.braced_value.ensures _ _ k _ _)

pub word-returns-in-Braced-clause-only_grows : goal.word-returns-in-Braced-clause-only_grows
word-returns-in-Braced-clause-only_grows g t c = later_refl

pub word-returns-in-Parts-clause-evaluates_to : goal.word-returns-in-Parts-clause-evaluates_to
word-returns-in-Parts-clause-evaluates_to g t c = λ k.
    let v = ap (content_view (range_text c.args.word.source.now)) c.in-Parts.is ∙ content_parts (range_text c.args.word.source.now) c.in-Parts.parts in
    rw v (rw c.as_slice.ensures.value at (c.joined_parts.ensures.evaluates_to k))

pub word-returns-in-Parts-clause-only_grows : goal.word-returns-in-Parts-clause-only_grows
word-returns-in-Parts-clause-only_grows g t c = c.joined_parts.ensures.only_grows

pub joined_parts-value-requires : goal.joined_parts-value-requires
joined_parts-value-requires g t c κs within = search rules

pub joined_parts-value-requires-text-source : goal.joined_parts-value-requires-text-source
joined_parts-value-requires-text-source g t c κs within = search rules

pub joined_parts-returns-clause-evaluates_to : goal.joined_parts-returns-clause-evaluates_to
joined_parts-returns-clause-evaluates_to g t c = λ k. rw c.new.ensures.bytes at (c.value.ensures.evaluates_to k)

pub joined_parts-returns-clause-only_grows : goal.joined_parts-returns-clause-only_grows
joined_parts-returns-clause-only_grows g t c = c.value.ensures.only_grows

pub joined_parts-returns-in-Some-clause-evaluates_to : goal.joined_parts-returns-in-Some-clause-evaluates_to
joined_parts-returns-in-Some-clause-evaluates_to g t c = λ k.
    rw (c.in-Some.ensures c.args.parts.source.now, ← c.of.ensures) (c.copied.ensures _ _ k _ _)

pub joined_parts-returns-in-Some-clause-only_grows : goal.joined_parts-returns-in-Some-clause-only_grows
joined_parts-returns-in-Some-clause-only_grows g t c = later_refl

pub joined_parts-of-requires-text-text : goal.joined_parts-of-requires-text-text
joined_parts-of-requires-text-text g t c κs = search rules

pub joined_parts-copied-requires-text-text : goal.joined_parts-copied-requires-text-text
joined_parts-copied-requires-text-text g t c κs = search rules

pub command-returns-in-Some-clause-evaluates_to : goal.command-returns-in-Some-clause-evaluates_to
command-returns-in-Some-clause-evaluates_to g t c =
    let h = c.in_ok-count.ensures in
    let v = command_words (range_text c.args.command.source.now) c.args.command.tree.now in
    let a = c.simple.ensures.evaluates_to in
    let e = λ (k : Next). rw c.as_slice.ensures.value at (c.in-Some.ensures c.args.bounds.remaining c.args.self.now.variables (sized_next c.args.bounds.limits.value_bytes k)) in
    let w = λ (k : Next). rw (h.variables, h.counted.1, h.scripts) at (a.2 k) in (
      a.0,
      a.1,
      λ k. from_same (ap (λ ws. Counts (pieces.words (bounds_of c.args.bounds) ws [] c.args.self.now.variables
          (λ texts s1. called (bounds_of c.args.bounds) texts s1 (sized_next c.args.bounds.limits.value_bytes k)))) v)
          (continue_with (count_on h.counted.0) (from_same (e k) (w k))),
    )

pub command-returns-in-Some-clause-only_grows : goal.command-returns-in-Some-clause-only_grows
command-returns-in-Some-clause-only_grows g t c = later_on (later_counted c.in_ok-count.ensures.counted.1 c.in_ok-count.ensures.cache) c.simple.ensures.only_grows

pub express-expression_tree-requires-text-text : goal.express-expression_tree-requires-text-text
express-expression_tree-requires-text-text g t c κs = search rules

pub express-expression_value-requires : goal.express-expression_value-requires
express-expression_value-requires g t c κs within = search rules

pub express-returns-clause-evaluates_to : goal.express-returns-clause-evaluates_to
express-returns-clause-evaluates_to g t c = λ k. continue_with (given_on _ _ _ _ c.in_ok-tree.ensures.tree) (rw c.deref.ensures at (c.expression_value.ensures.evaluates_to k))

pub express-returns-clause-only_grows : goal.express-returns-clause-only_grows
express-returns-clause-only_grows g t c = later_parsed refl c.in_ok-tree.ensures.begins c.expression_value.ensures.only_grows

pub express-returns-in_err-tree-clause-evaluates_to : goal.express-returns-in_err-tree-clause-evaluates_to
express-returns-in_err-tree-clause-evaluates_to g t c = λ k. value_stops _ _ _ _ _ _ c.from_residual.ensures.1 c.in_err-tree.ensures.tree

pub express-returns-in_err-tree-clause-only_grows : goal.express-returns-in_err-tree-clause-only_grows
express-returns-in_err-tree-clause-only_grows g t c = later_begun refl c.in_err-tree.ensures.begins

pub expression_value-value-requires : goal.expression_value-value-requires
expression_value-value-requires g t c κs within = search rules

pub expression_value-value-requires-text-source : goal.expression_value-value-requires-text-source
expression_value-value-requires-text-source g t c κs within = search rules

pub expression_value-returns-clause-evaluates_to : goal.expression_value-returns-clause-evaluates_to
expression_value-returns-clause-evaluates_to g t c = λ k.
    let h = rw c.as_str.ensures.value at (c.in_ok-value.ensures.evaluates_to (λ v s'. given (normal v (numeral v)) s' (λ u. sized c.args.bounds.limits.value_bytes u (k u s')))) in
    continue_with (continue_with h (given_on _ _ _ _ c.in_ok-value-2.ensures)) (c.sized.ensures.evaluates_to _ _ k _ _)

pub expression_value-returns-clause-only_grows : goal.expression_value-returns-clause-only_grows
expression_value-returns-clause-only_grows g t c = c.in_ok-value.ensures.only_grows

pub expression_value-returns-in_err-value-2-clause-evaluates_to : goal.expression_value-returns-in_err-value-2-clause-evaluates_to
expression_value-returns-in_err-value-2-clause-evaluates_to g t c = λ k.
    let h = rw c.as_str.ensures.value at (c.in_ok-value.ensures.evaluates_to (λ v s'. given (normal v (numeral v)) s' (λ u. sized c.args.bounds.limits.value_bytes u (k u s')))) in
    continue_with h (value_stops _ _ _ _ _ _ c.from_residual-in_err-value-2.ensures.1 c.in_err-value-2.ensures)

pub expression_value-returns-in_err-value-2-clause-only_grows : goal.expression_value-returns-in_err-value-2-clause-only_grows
expression_value-returns-in_err-value-2-clause-only_grows g t c = c.in_ok-value.ensures.only_grows

pub expression_value-returns-in_err-value-clause-evaluates_to : goal.expression_value-returns-in_err-value-clause-evaluates_to
expression_value-returns-in_err-value-clause-evaluates_to g t c = λ k.
    let h = rw c.as_str.ensures.value at (c.in_err-value.ensures.evaluates_to (λ v s'. given (normal v (numeral v)) s' (λ u. sized c.args.bounds.limits.value_bytes u (k u s')))) in
    passed_on _ _ _ _ c.from_residual.ensures.1 h

pub expression_value-returns-in_err-value-clause-only_grows : goal.expression_value-returns-in_err-value-clause-only_grows
expression_value-returns-in_err-value-clause-only_grows g t c = c.in_err-value.ensures.only_grows

pub decide-expression_tree-requires-text-text : goal.decide-expression_tree-requires-text-text
decide-expression_tree-requires-text-text g t c κs = search rules

pub decide-holds-requires : goal.decide-holds-requires
decide-holds-requires g t c κs within = search rules

pub decide-returns-clause-evaluates_to : goal.decide-returns-clause-evaluates_to
decide-returns-clause-evaluates_to g t c = λ k. continue_with (given_on _ _ _ _ c.in_ok-tree.ensures.tree) (rw c.deref.ensures at (c.holds.ensures.evaluates_to k))

pub decide-returns-clause-only_grows : goal.decide-returns-clause-only_grows
decide-returns-clause-only_grows g t c = later_parsed refl c.in_ok-tree.ensures.begins c.holds.ensures.only_grows

pub decide-returns-in_err-tree-clause-evaluates_to : goal.decide-returns-in_err-tree-clause-evaluates_to
decide-returns-in_err-tree-clause-evaluates_to g t c = λ k. value_stops _ _ _ _ _ _ c.from_residual.ensures.1 c.in_err-tree.ensures.tree

pub decide-returns-in_err-tree-clause-only_grows : goal.decide-returns-in_err-tree-clause-only_grows
decide-returns-in_err-tree-clause-only_grows g t c = later_begun refl c.in_err-tree.ensures.begins

pub holds-expression_value-requires : goal.holds-expression_value-requires
holds-expression_value-requires g t c κs within = search rules

pub holds-truth-requires-text-text : goal.holds-truth-requires-text-text
holds-truth-requires-text-text g t c κs = search rules

pub holds-returns-in_err-holds-clause-evaluates_to : goal.holds-returns-in_err-holds-clause-evaluates_to
holds-returns-in_err-holds-clause-evaluates_to g t c = λ k. passed_on _ _ _ _ c.from_residual.ensures.1 (c.in_err-holds.ensures.err _ _ _ k _)

pub holds-returns-in_err-holds-clause-only_grows : goal.holds-returns-in_err-holds-clause-only_grows
holds-returns-in_err-holds-clause-only_grows g t c = later_refl

pub holds-returns-in-Some-clause-evaluates_to : goal.holds-returns-in-Some-clause-evaluates_to
holds-returns-in-Some-clause-evaluates_to g t c =
    let h = rw c.in-Some.is at c.in_ok-holds.ensures.found in
    λ k. h _ _ _ k _

pub holds-returns-in-Some-clause-only_grows : goal.holds-returns-in-Some-clause-only_grows
holds-returns-in-Some-clause-only_grows g t c = later_refl

pub holds-returns-in_err-value-clause-evaluates_to : goal.holds-returns-in_err-value-clause-evaluates_to
holds-returns-in_err-value-clause-evaluates_to g t c = λ k. passed_on _ _ _ _ c.from_residual-in_err-value.ensures.1 (c.in_err-value.ensures.evaluates_to _)

pub holds-returns-in_err-value-clause-only_grows : goal.holds-returns-in_err-value-clause-only_grows
holds-returns-in_err-value-clause-only_grows g t c = c.in_err-value.ensures.only_grows

pub holds-returns-in_err-truth-clause-evaluates_to : goal.holds-returns-in_err-truth-clause-evaluates_to
holds-returns-in_err-truth-clause-evaluates_to g t c = λ k.
    let h = rw c.as_str.ensures.value at c.in_err-truth.ensures in
    continue_with (c.in_ok-value.ensures.evaluates_to _) (value_stops _ _ _ _ _ _ c.from_residual-in_err-truth.ensures.1 h)

pub holds-returns-in_err-truth-clause-only_grows : goal.holds-returns-in_err-truth-clause-only_grows
holds-returns-in_err-truth-clause-only_grows g t c = c.in_ok-value.ensures.only_grows

pub holds-returns-clause-evaluates_to : goal.holds-returns-clause-evaluates_to
holds-returns-clause-evaluates_to g t c = λ k.
    let h = rw c.as_str.ensures.value at c.in_ok-truth.ensures in
    continue_with (c.in_ok-value.ensures.evaluates_to _) (given_on _ _ _ _ h)

pub holds-returns-clause-only_grows : goal.holds-returns-clause-only_grows
holds-returns-clause-only_grows g t c = c.in_ok-value.ensures.only_grows

pub while_turns-expression_tree-requires-text-text : goal.while_turns-expression_tree-requires-text-text
while_turns-expression_tree-requires-text-text g t c κs = search rules

pub while_turns-returns-in_err-condition-clause-evaluates_to : goal.while_turns-returns-in_err-condition-clause-evaluates_to
while_turns-returns-in_err-condition-clause-evaluates_to g t c = λ k.
    let b = bounds_of c.args.bounds in
    let s = c.args.self.now.variables in
    let again = λ (s2 : State). Runs (plans.While c.args.bounds.remaining c.args.parts.condition.now c.args.parts.body.now s2) plans.ended in
    passed_on _ _ _ _ c.from_residual.ensures.1 (run_stops s (stop_of c.before.in_err-condition.field-0.0)
    (given_stops _ _ s (λ e. condition_plan b e s (guarded b c.args.parts.body.now again))
    c.in_err-condition.ensures.tree))

pub while_turns-returns-in_err-condition-clause-only_grows : goal.while_turns-returns-in_err-condition-clause-only_grows
while_turns-returns-in_err-condition-clause-only_grows g t c = later_begun refl c.in_err-condition.ensures.begins

pub for_turns-expression_tree-requires-text-text : goal.for_turns-expression_tree-requires-text-text
for_turns-expression_tree-requires-text-text g t c κs = search rules

pub for_turns-returns-in_err-condition-clause-evaluates_to : goal.for_turns-returns-in_err-condition-clause-evaluates_to
for_turns-returns-in_err-condition-clause-evaluates_to g t c = λ k.
    let b = bounds_of c.args.bounds in
    let s = c.args.self.now.variables in
    let again = λ (s3 : State). Runs (plans.For c.args.bounds.remaining c.args.parts.condition.now c.args.parts.next.now c.args.parts.body.now s3) plans.ended in
    let between = λ (s2 : State). table.body b c.args.parts.next.now s2 (table.after_next (bounds_of c.args.bounds) again) in
    passed_on _ _ _ _ c.from_residual.ensures.1 (run_stops s (stop_of c.before.in_err-condition.field-0.0)
    (given_stops _ _ s (λ e. condition_plan b e s (guarded b c.args.parts.body.now between))
    c.in_err-condition.ensures.tree))

pub for_turns-returns-in_err-condition-clause-only_grows : goal.for_turns-returns-in_err-condition-clause-only_grows
for_turns-returns-in_err-condition-clause-only_grows g t c = later_begun refl c.in_err-condition.ensures.begins

pub form-returns-in-Express-clause-evaluates_to : goal.form-returns-in-Express-clause-evaluates_to
form-returns-in-Express-clause-evaluates_to g t c =
    let w = c.within.ensures c.args.result_use c.express_words.new.self.variables in (
      w.0,
      w.1,
      λ k. from_same (ap (λ form. table.form (bounds_of c.args.bounds) (form_view form)
          c.args.self.now.variables (sized_next c.args.bounds.limits.value_bytes k)) c.in-Express.is)
          (continue_with (c.express_words.ensures.evaluates_to (sized_next c.args.bounds.limits.value_bytes k))
          (w.2 _ _ k _)),
    )

pub form-returns-in-Express-clause-only_grows : goal.form-returns-in-Express-clause-only_grows
form-returns-in-Express-clause-only_grows g t c = c.express_words.ensures.only_grows

pub express_words-express-requires : goal.express_words-express-requires
express_words-express-requires g t c κs within = search rules

pub express_words-express-requires-text-text : goal.express_words-express-requires-text-text
express_words-express-requires-text-text g t c κs within = search rules

pub express_words-returns-clause-evaluates_to : goal.express_words-returns-clause-evaluates_to
express_words-returns-clause-evaluates_to g t c = λ k.
    let q = limited_on _ _ _ c.in_ok-text.ensures in
    let h = rw (c.as_str.ensures.value, q.1) at (c.express.ensures.evaluates_to k) in
    continue_with (sized_on _ _ _ q.0) h

pub express_words-returns-clause-only_grows : goal.express_words-returns-clause-only_grows
express_words-returns-clause-only_grows g t c = c.express.ensures.only_grows

pub express_words-returns-in_err-text-clause-evaluates_to : goal.express_words-returns-in_err-text-clause-evaluates_to
express_words-returns-in_err-text-clause-evaluates_to g t c = λ k. passed_on _ _ _ _ c.from_residual.ensures.1 (limited_stops _ _ _ _ _ c.in_err-text.ensures)

pub express_words-returns-in_err-text-clause-only_grows : goal.express_words-returns-in_err-text-clause-only_grows
express_words-returns-in_err-text-clause-only_grows g t c = later_refl

pub command-fact_in-words : goal.command-fact_in-words
command-fact_in-words g t c = search rules

pub commands-fact_in-command : goal.commands-fact_in-command
commands-fact_in-command g t c = search rules

pub value-fact_in-source-in-Bracket : goal.value-fact_in-source-in-Bracket
value-fact_in-source-in-Bracket g t c = search rules

pub for_turns-new-body-requires-text-text : goal.for_turns-new-body-requires-text-text
for_turns-new-body-requires-text-text g t c κs = search rules

pub for_turns-new-next-requires-text-text : goal.for_turns-new-next-requires-text-text
for_turns-new-next-requires-text-text g t c κs = search rules

pub foreach_turns-new-script-requires-text-text : goal.foreach_turns-new-script-requires-text-text
foreach_turns-new-script-requires-text-text g t c κs = search rules

pub while_turns-new-body-requires-text-text : goal.while_turns-new-body-requires-text-text
while_turns-new-body-requires-text-text g t c κs = search rules

pub words-fact_in-content : goal.words-fact_in-content
words-fact_in-content g t c = search rules

pub word-fact_in-parts : goal.word-fact_in-parts
word-fact_in-parts g t c = search rules

pub parsed_script-script_commands-requires : goal.parsed_script-script_commands-requires
parsed_script-script_commands-requires g t c κs within = search rules

pub parsed_script-fact_in-script : goal.parsed_script-fact_in-script
parsed_script-fact_in-script g t c = search rules

pub parsed_script-returns-clause-evaluates_to : goal.parsed_script-returns-clause-evaluates_to
parsed_script-returns-clause-evaluates_to g t c =
    let h = rw (c.in_ok-begin.ensures.ok, c.as_str.ensures.value, c.deref.ensures, c.deref-2.ensures) at c.in_ok-last.ensures.evaluates_to in
    (h.0, h.1, rw c.end.ensures (continue_with (continue_with move_on h.2) move_on))

pub parsed_script-returns-clause-only_grows : goal.parsed_script-returns-clause-only_grows
parsed_script-returns-clause-only_grows g t c = later_beside refl refl refl refl c.in_ok-last.ensures.only_grows

pub parsed_script-returns-in_err-begin-clause-evaluates_to : goal.parsed_script-returns-in_err-begin-clause-evaluates_to
parsed_script-returns-in_err-begin-clause-evaluates_to g t c = rw c.in_err-begin.ensures.err (comes_cut _ _ _ _ _ c.from_residual.ensures.1 starve)

pub parsed_script-returns-in_err-begin-clause-only_grows : goal.parsed_script-returns-in_err-begin-clause-only_grows
parsed_script-returns-in_err-begin-clause-only_grows g t c = later_still refl refl

pub parsed_script-returns-in_err-last-clause-evaluates_to : goal.parsed_script-returns-in_err-last-clause-evaluates_to
parsed_script-returns-in_err-last-clause-evaluates_to g t c =
    let h = rw (c.in_ok-begin.ensures.ok, c.as_str.ensures.value, c.deref.ensures, c.deref-2.ensures) at c.in_err-last.ensures.evaluates_to in
    comes_cut _ _ _ _ _ c.from_residual-in_err-last.ensures.1 (continue_with move_on h.2)

pub parsed_script-returns-in_err-last-clause-only_grows : goal.parsed_script-returns-in_err-last-clause-only_grows
parsed_script-returns-in_err-last-clause-only_grows g t c = later_beside refl refl refl refl c.in_err-last.ensures.only_grows

pub script_commands-command-requires : goal.script_commands-command-requires
script_commands-command-requires g t c κs within = search rules

pub script_commands-fact_in-command : goal.script_commands-fact_in-command
script_commands-fact_in-command g t c = search rules

pub script_commands-loop-command-init : goal.script_commands-loop-command-init
script_commands-loop-command-init g t c = record {
  evaluates_to = (
    [],
    (omega arith, λ q. c.new-last.ensures.bytes),
    rw
        (script_commands (range_text c.args.script.source.now) c.args.script.tree.now) stay,
  );
  only_grows = later_refl;
}

pub script_commands-loop-command-preserved : goal.script_commands-loop-command-preserved
script_commands-loop-command-preserved g t c =
    let s = c.deref-command-items.ensures.value in
    let d = drop_here _ _ _ (rw s at c.loop-command-test.true) (rw s at c.command-item.is) in
    let l = rw (d, command_place (range_text c.args.script.source.now) c.command-item.result) at c.loop-command.invariant.evaluates_to.2 in
    let a = rw c.move_to.ensures at c.in_ok-last.ensures.evaluates_to in
    record {
      evaluates_to = (a.0, a.1, continue_with l (continue_with move_on (a.2 _)));
      only_grows = later_on c.loop-command.invariant.only_grows (later_beside refl refl refl refl c.in_ok-last.ensures.only_grows);
    }

pub script_commands-loop-command-smaller : goal.script_commands-loop-command-smaller
script_commands-loop-command-smaller g t c = omega arith

pub script_commands-offset_bounds-command-items-command-index : goal.script_commands-offset_bounds-command-items-command-index
script_commands-offset_bounds-command-items-command-index g t c = omega arith

pub script_commands-returns-clause-evaluates_to : goal.script_commands-returns-clause-evaluates_to
script_commands-returns-clause-evaluates_to g t c =
    let s = c.deref-command-items.ensures.value in
    let d = drop_all _ _ (rw s at c.loop-command-test.false) in
    let i = c.loop-command.invariant.evaluates_to in
    (i.0, i.1, rw d at i.2)

pub script_commands-returns-clause-only_grows : goal.script_commands-returns-clause-only_grows
script_commands-returns-clause-only_grows g t c = c.loop-command.invariant.only_grows

pub script_commands-returns-in_err-last-clause-evaluates_to : goal.script_commands-returns-in_err-last-clause-evaluates_to
script_commands-returns-in_err-last-clause-evaluates_to g t c =
    let s = c.deref-command-items.ensures.value in
    let d = drop_here _ _ _ (rw s at c.loop-command-test.true) (rw s at c.command-item.is) in
    let l = rw (d, command_place (range_text c.args.script.source.now) c.command-item.result) at c.loop-command.invariant.evaluates_to.2 in
    let a = rw c.move_to.ensures at c.in_err-last.ensures.evaluates_to in
    comes_cut_before _ _ _ _ _ _ c.from_residual.ensures.1 (continue_with l (continue_with move_on (a.2 _)))

pub script_commands-returns-in_err-last-clause-only_grows : goal.script_commands-returns-in_err-last-clause-only_grows
script_commands-returns-in_err-last-clause-only_grows g t c = later_on c.loop-command.invariant.only_grows (later_beside refl refl refl refl c.in_err-last.ensures.only_grows)
