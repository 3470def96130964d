use Rattle.std.proofs.Common.{◌≡◌, ◌-◌, ◌∷◌, length, Ok, map, sym, ap, subst, ◌∙◌, refl, arith, rules}
use Rattle.std.proofs.lemmas.Result.{err_from_is_err_and}
use Rattle.std.proofs.lemmas.List.{map_push}
use Rattle.tcltext.specs.script.ScanState.{Blanks, Gap, Name, skip_gap}
use Rattle.tcltext.specs.script.Pieces.{IsSuffixOf, IsPrefixOf}
use Rattle.tcltext.specs.script.Ends.{is_nested, script_ends, parts_end}
use Rattle.tcltext.specs.script.Reading.{part_at, command_in, inner_at}
use Rattle.tcltext.specs.script.View.{script_view, command_view, word_view, part_view, parts_view}
use Rattle.tcltext.proofs.script.Ends.{end_mark, end_through, end_no_longer}
use Rattle.tcltext.proofs.script.Passes.{pass_end, pass_front}
use Rattle.tcltext.proofs.script.Readers.{expanded_end, inner_leaves}
use Rattle.tcltext.proofs.script.Loops.{so_far-none}
use Rattle.tcltext.proofs.script.Turns.{script-end, script-fails, script-following, script-more, words-none, command-end}
use Rattle.tcltext.proofs.script.Turns.{command-fails, first-fails, first-end, command-following, command-more, parts-end}
use Rattle.tcltext.proofs.script.Turns.{parts-fails, parts-following, parts-more}
use Rattle.tcltext.proofs.script.Nested.{bracket-read, index-read, index-fails}
use Rattle.tcltext.proofs.script.Views.{view-Command, view-Script, view-Bracket}
use Rattle.tcltext.proofs.script.reading.+read.Goals as goal

pub read_bracket-returns : goal.read_bracket-returns
read_bracket-returns g t c =
    bracket-read c.args.depth c.remaining_with_mark.result c.args.text.now (script_view (g.S.Source.shown c.args.source.now) c.in_ok-script.script) c.in_ok-script.close.now c.in_ok-rest.rest.now
    (omega arith) c.remaining_with_mark.ensures c.in_ok-script.ensures c.in_ok-rest.ensures
    ∙ ap (λ p. Ok (p, c.in_ok-rest.rest.now)) (sym (view-Bracket (g.S.Source.shown c.args.source.now) c.in_ok-script.script))

pub read_index-returns : goal.read_index-returns
read_index-returns g t c =
    index-read c.args.depth c.remaining_with_mark.result c.args.text.now (parts_view (g.S.Source.shown c.args.source.now) c.in_ok-parts.parts.items) c.in_ok-parts.close.now c.in_ok-rest.rest.now
    (omega arith) c.remaining_with_mark.ensures c.in_ok-parts.ensures c.in_ok-rest.ensures

pub read_index-returns-in_err-rest : goal.read_index-returns-in_err-rest
read_index-returns-in_err-rest g t c =
    let p = err_from_is_err_and c.from_residual-in_err-rest.result c.from_residual-in_err-rest.ensures.1 in
    rw (p.1, p.2) (index-fails c.args.depth c.remaining_with_mark.result c.args.text.now
    (parts_view (g.S.Source.shown c.args.source.now) c.in_ok-parts.parts.items) c.in_ok-parts.close.now
    c.in_err-rest.field-0.0
    (omega arith) c.remaining_with_mark.ensures c.in_ok-parts.ensures c.in_err-rest.ensures)

pub read_command-returns-in_err-first : goal.read_command-returns-in_err-first
read_command-returns-in_err-first g t c =
    let p = err_from_is_err_and c.from_residual.result c.from_residual.ensures.1 in
    rw (p.1, p.2) (first-fails (is_nested c.args.nesting) c.args.depth c.args.offset c.args.text.now c.in_err-first.field-0.0 c.in_err-first.ensures)

pub read_command-taken-first_text-requires-clause-rest : goal.read_command-taken-first_text-requires-clause-rest
read_command-taken-first_text-requires-clause-rest g t c =
    first-end (is_nested c.args.nesting) c.args.depth c.args.text.now (word_view (g.S.Source.shown c.args.source.now) c.in_ok-first.first) c.in_ok-first.following.now c.in_ok-first.ensures

pub read_command-loop-alloc-init : goal.read_command-loop-alloc-init
read_command-loop-alloc-init g t c =
    let r : IsSuffixOf (g.S.Source.text c.args.source.now) c.args.text.now = search rules in
    let following = first-end (is_nested c.args.nesting) c.args.depth c.args.text.now
    (word_view (g.S.Source.shown c.args.source.now) c.in_ok-first.first) c.in_ok-first.following.now
    c.in_ok-first.ensures in
    record {
      utf8 = search rules;
      end = end_through (g.S.Source.text c.args.source.now) c.args.text.now c.in_ok-first.following.now r following;
      so_far =
          words-none (is_nested c.args.nesting) c.args.depth c.args.text.now
          (g.S.Source.shown c.args.source.now c.taken-first_text.result)
          (word_view (g.S.Source.shown c.args.source.now) c.in_ok-first.first)
          (map (word_view (g.S.Source.shown c.args.source.now)) c.push.new.self.items) c.in_ok-first.following.now c.in_ok-first.ensures c.taken-first_text.ensures
          (rw (c.in_ok-push.ensures.items, c.in_ok-words.ensures.items) refl);
    }

pub read_command-returns-then-command_ends : goal.read_command-returns-then-command_ends
read_command-returns-then-command_ends g t c =
    command-end (is_nested c.args.nesting) c.args.depth c.args.offset c.args.text.now
    (g.S.Source.shown c.args.source.now c.taken-first_text.result)
    (map (word_view (g.S.Source.shown c.args.source.now)) c.loop-alloc.words.items)
    c.loop-alloc.rest.now c.skip_blanks-start.result.now c.skip_blanks-start.ensures (sym c.command_ends.ensures ∙ c.if-command_ends.true) c.loop-alloc.invariant.so_far
    ∙ ap (λ x. Ok (x, c.skip_blanks-start.result.now)) (sym (view-Command (g.S.Source.shown c.args.source.now) c.args.offset c.taken-first_text.result c.loop-alloc.words))

pub read_command-read_word-requires-in-loop-alloc : goal.read_command-read_word-requires-in-loop-alloc
read_command-read_word-requires-in-loop-alloc g t c =
    let e : IsSuffixOf (g.S.Source.text c.args.source.now) c.skip_blanks-start.result.now =
    end_through (g.S.Source.text c.args.source.now) c.loop-alloc.rest.now c.skip_blanks-start.result.now c.loop-alloc.invariant.end
    (subst (IsSuffixOf c.loop-alloc.rest.now) (sym c.skip_blanks-start.ensures) (pass_end Blanks c.loop-alloc.rest.now))
    in
    search rules

pub read_command-returns-in_err-word : goal.read_command-returns-in_err-word
read_command-returns-in_err-word g t c =
    let p = err_from_is_err_and c.from_residual-in_err-word.result c.from_residual-in_err-word.ensures.1 in
    rw (p.1, p.2) (command-fails (is_nested c.args.nesting) c.args.depth c.args.offset c.args.text.now
    (g.S.Source.shown c.args.source.now c.taken-first_text.result)
    (map (word_view (g.S.Source.shown c.args.source.now)) c.loop-alloc.words.items)
    c.loop-alloc.rest.now c.skip_blanks-start.result.now c.in_err-word.field-0.0 c.skip_blanks-start.ensures
    (sym c.command_ends.ensures ∙ c.if-command_ends.false) c.in_err-word.ensures c.loop-alloc.invariant.so_far)

pub read_command-loop-alloc-smaller : goal.read_command-loop-alloc-smaller
read_command-loop-alloc-smaller g t c =
    (command-following (is_nested c.args.nesting) c.args.depth c.loop-alloc.rest.now c.skip_blanks-start.result.now
    (word_view (g.S.Source.shown c.args.source.now) c.in_ok-word.word) c.in_ok-word.after.now
    c.skip_blanks-start.ensures (sym c.command_ends.ensures ∙ c.if-command_ends.false) c.in_ok-word.ensures).1

pub read_command-loop-alloc-preserved : goal.read_command-loop-alloc-preserved
read_command-loop-alloc-preserved g t c =
    let following = command-following (is_nested c.args.nesting) c.args.depth c.loop-alloc.rest.now
    c.skip_blanks-start.result.now (word_view (g.S.Source.shown c.args.source.now) c.in_ok-word.word)
    c.in_ok-word.after.now
    c.skip_blanks-start.ensures (sym c.command_ends.ensures ∙ c.if-command_ends.false) c.in_ok-word.ensures
    in
    record {
      utf8 = search rules;
      end = end_through (g.S.Source.text c.args.source.now) c.loop-alloc.rest.now c.in_ok-word.after.now c.loop-alloc.invariant.end following.0;
      so_far =
          command-more (is_nested c.args.nesting) c.args.depth c.args.text.now
          (g.S.Source.shown c.args.source.now c.taken-first_text.result)
          (map (word_view (g.S.Source.shown c.args.source.now)) c.loop-alloc.words.items)
          (map (word_view (g.S.Source.shown c.args.source.now)) c.push-in-loop-alloc.new.self.items)
          c.loop-alloc.rest.now c.skip_blanks-start.result.now (word_view (g.S.Source.shown c.args.source.now) c.in_ok-word.word) c.in_ok-word.after.now
          c.skip_blanks-start.ensures (sym c.command_ends.ensures ∙ c.if-command_ends.false) c.in_ok-word.ensures
          (rw c.in_ok-push-2.ensures.items (map_push (word_view (g.S.Source.shown c.args.source.now)) c.loop-alloc.words.items c.in_ok-word.word)) c.loop-alloc.invariant.so_far;
    }

pub read_script-loop-alloc-init : goal.read_script-loop-alloc-init
read_script-loop-alloc-init g t c = record {
  utf8 = search rules;
  end = search rules;
  shorter = omega arith;
  so_far = rw c.new-commands.ensures.items (so_far-none skip_gap (script_ends (is_nested c.args.nesting))
      (command_in (length c.args.text.now) (is_nested c.args.nesting) (inner_at c.args.depth)) c.args.text.now);
}

pub read_script-overflow_sub-offset : goal.read_script-overflow_sub-offset
read_script-overflow_sub-offset g t c =
    let e : IsSuffixOf c.loop-alloc.rest.now c.skip_gap-start.result.now = subst (IsSuffixOf c.loop-alloc.rest.now) (sym c.skip_gap-start.ensures) (pass_end Gap c.loop-alloc.rest.now) in
    omega (arith, end_no_longer c.loop-alloc.rest.now c.skip_gap-start.result.now e, c.loop-alloc.invariant.shorter)

pub read_script-returns-then-script_ends : goal.read_script-returns-then-script_ends
read_script-returns-then-script_ends g t c =
    script-end (is_nested c.args.nesting) c.args.depth c.args.text.now (map (command_view (g.S.Source.shown c.args.source.now)) c.loop-alloc.commands.items)
    c.loop-alloc.rest.now c.skip_gap-start.result.now c.skip_gap-start.ensures (sym c.script_ends.ensures ∙ c.if-script_ends.true) c.loop-alloc.invariant.so_far
    ∙ ap (λ x. Ok (x, c.skip_gap-start.result.now)) (sym (view-Script (g.S.Source.shown c.args.source.now) c.loop-alloc.commands))

pub read_script-read_command-requires : goal.read_script-read_command-requires
read_script-read_command-requires g t c =
    let e : IsSuffixOf (g.S.Source.text c.args.source.now) c.skip_gap-start.result.now =
    end_through (g.S.Source.text c.args.source.now) c.loop-alloc.rest.now c.skip_gap-start.result.now c.loop-alloc.invariant.end
    (subst (IsSuffixOf c.loop-alloc.rest.now) (sym c.skip_gap-start.ensures) (pass_end Gap c.loop-alloc.rest.now))
    in
    search rules

pub read_script-returns-in_err-command : goal.read_script-returns-in_err-command
read_script-returns-in_err-command g t c =
    let p = err_from_is_err_and c.from_residual.result c.from_residual.ensures.1 in
    rw (p.1, p.2) (script-fails (is_nested c.args.nesting) c.args.depth c.args.text.now (map (command_view (g.S.Source.shown c.args.source.now)) c.loop-alloc.commands.items)
    c.loop-alloc.rest.now c.skip_gap-start.result.now c.in_err-command.field-0.0 c.skip_gap-start.ensures
    (sym c.script_ends.ensures ∙ c.if-script_ends.false) c.in_err-command.ensures c.loop-alloc.invariant.so_far)

pub read_script-loop-alloc-smaller : goal.read_script-loop-alloc-smaller
read_script-loop-alloc-smaller g t c =
    (script-following (is_nested c.args.nesting) c.args.depth
    (length c.args.text.now - length c.skip_gap-start.result.now) c.loop-alloc.rest.now c.skip_gap-start.result.now
    (command_view (g.S.Source.shown c.args.source.now) c.in_ok-command.command) c.in_ok-command.after.now
    c.skip_gap-start.ensures (sym c.script_ends.ensures ∙ c.if-script_ends.false) c.in_ok-command.ensures).1

pub read_script-loop-alloc-preserved : goal.read_script-loop-alloc-preserved
read_script-loop-alloc-preserved g t c =
    let following = script-following (is_nested c.args.nesting) c.args.depth
    (length c.args.text.now - length c.skip_gap-start.result.now) c.loop-alloc.rest.now c.skip_gap-start.result.now
    (command_view (g.S.Source.shown c.args.source.now) c.in_ok-command.command) c.in_ok-command.after.now
    c.skip_gap-start.ensures (sym c.script_ends.ensures ∙ c.if-script_ends.false) c.in_ok-command.ensures
    in
    record {
      utf8 = search rules;
      end = end_through (g.S.Source.text c.args.source.now) c.loop-alloc.rest.now c.in_ok-command.after.now c.loop-alloc.invariant.end following.0;
      shorter = omega (arith, following.1, c.loop-alloc.invariant.shorter);
      so_far =
          script-more (is_nested c.args.nesting) c.args.depth c.args.text.now (map (command_view (g.S.Source.shown c.args.source.now)) c.loop-alloc.commands.items)
          (map (command_view (g.S.Source.shown c.args.source.now)) c.push.new.self.items)
          c.loop-alloc.rest.now c.skip_gap-start.result.now (command_view (g.S.Source.shown c.args.source.now) c.in_ok-command.command) c.in_ok-command.after.now
          c.skip_gap-start.ensures (sym c.script_ends.ensures ∙ c.if-script_ends.false) c.in_ok-command.ensures
          (rw c.in_ok-push.ensures.items (map_push (command_view (g.S.Source.shown c.args.source.now)) c.loop-alloc.commands.items c.in_ok-command.command)) c.loop-alloc.invariant.so_far;
    }

pub read_parts-loop-alloc-init : goal.read_parts-loop-alloc-init
read_parts-loop-alloc-init g t c = record {
  utf8 = search rules;
  end = search rules;
  so_far = rw c.in_ok-parts.ensures.items (so_far-none (λ bs. bs) (parts_end c.args.context) (part_at c.args.context (inner_at c.args.depth)) c.args.text.now);
}

pub read_parts-returns-then-parts_end : goal.read_parts-returns-then-parts_end
read_parts-returns-then-parts_end g t c =
    parts-end c.args.context c.args.depth c.args.text.now (map (part_view (g.S.Source.shown c.args.source.now)) c.loop-alloc.parts.items) c.loop-alloc.rest.now
    (sym c.parts_end.ensures ∙ c.if-parts_end.true) c.loop-alloc.invariant.so_far

pub read_parts-returns-in_err-part : goal.read_parts-returns-in_err-part
read_parts-returns-in_err-part g t c =
    let p = err_from_is_err_and c.from_residual-in_err-part.result c.from_residual-in_err-part.ensures.1 in
    rw (p.1, p.2) (parts-fails c.args.context c.args.depth c.args.text.now (map (part_view (g.S.Source.shown c.args.source.now)) c.loop-alloc.parts.items) c.loop-alloc.rest.now c.in_err-part.field-0.0
    (sym c.parts_end.ensures ∙ c.if-parts_end.false) c.in_err-part.ensures c.loop-alloc.invariant.so_far)

pub read_parts-loop-alloc-smaller : goal.read_parts-loop-alloc-smaller
read_parts-loop-alloc-smaller g t c =
    (parts-following c.args.context c.args.depth c.loop-alloc.rest.now
    (part_view (g.S.Source.shown c.args.source.now) c.in_ok-part.part) c.in_ok-part.after.now
    (sym c.parts_end.ensures ∙ c.if-parts_end.false) c.in_ok-part.ensures).1

pub read_parts-loop-alloc-preserved : goal.read_parts-loop-alloc-preserved
read_parts-loop-alloc-preserved g t c =
    let following = parts-following c.args.context c.args.depth c.loop-alloc.rest.now
    (part_view (g.S.Source.shown c.args.source.now) c.in_ok-part.part) c.in_ok-part.after.now
    (sym c.parts_end.ensures ∙ c.if-parts_end.false) c.in_ok-part.ensures in
    record {
      utf8 = search rules;
      end = end_through (g.S.Source.text c.args.source.now) c.loop-alloc.rest.now c.in_ok-part.after.now c.loop-alloc.invariant.end following.0;
      so_far =
          parts-more c.args.context c.args.depth c.args.text.now
          (map (part_view (g.S.Source.shown c.args.source.now)) c.loop-alloc.parts.items)
          (map (part_view (g.S.Source.shown c.args.source.now)) c.push.new.self.items)
          c.loop-alloc.rest.now (part_view (g.S.Source.shown c.args.source.now) c.in_ok-part.part) c.in_ok-part.after.now (sym c.parts_end.ensures ∙ c.if-parts_end.false) c.in_ok-part.ensures
          (rw c.in_ok-push.ensures.items (map_push (part_view (g.S.Source.shown c.args.source.now)) c.loop-alloc.parts.items c.in_ok-part.part)) c.loop-alloc.invariant.so_far;
    }

pub read_dollar-read_braced_name-requires : goal.read_dollar-read_braced_name-requires
read_dollar-read_braced_name-requires g t c =
    let r : IsSuffixOf (g.S.Source.text c.args.source.now) c.args.text.now = search rules in
    let dollar : c.args.text.now ≡ 36 ∷ c.args.following.now = search rules in
    end_through (g.S.Source.text c.args.source.now) c.args.text.now c.in-Some.inner.now r
    (end_through c.args.text.now c.args.following.now c.in-Some.inner.now
    (end_mark c.args.text.now 36 c.args.following.now dollar)
    (end_mark c.args.following.now 123 c.in-Some.inner.now c.in-Some.ensures))

pub read_dollar-read_index-requires : goal.read_dollar-read_index-requires
read_dollar-read_index-requires g t c =
    let r : IsSuffixOf (g.S.Source.text c.args.source.now) c.args.text.now = search rules in
    let dollar : c.args.text.now ≡ 36 ∷ c.args.following.now = search rules in
    let following : IsSuffixOf c.args.text.now c.args.following.now = end_mark c.args.text.now 36 c.args.following.now dollar in
    let name : IsSuffixOf c.args.following.now c.split_name.result.1.now = subst (IsSuffixOf c.args.following.now) (sym c.split_name.ensures.rest) (pass_end Name c.args.following.now) in
    let index : IsSuffixOf c.split_name.result.1.now c.in-Some-after_mark.index.now = end_mark c.split_name.result.1.now 40 c.in-Some-after_mark.index.now c.in-Some-after_mark.ensures in
    let e : IsSuffixOf (g.S.Source.text c.args.source.now) c.in-Some-after_mark.index.now =
    end_through (g.S.Source.text c.args.source.now) c.args.text.now c.in-Some-after_mark.index.now r
    (end_through c.args.text.now c.args.following.now c.in-Some-after_mark.index.now following (end_through c.args.following.now c.split_name.result.1.now c.in-Some-after_mark.index.now name index))
    in
    search rules

pub read_dollar-indexed-requires-clause-text : goal.read_dollar-indexed-requires-clause-text
read_dollar-indexed-requires-clause-text g t c =
    let r : IsSuffixOf (g.S.Source.text c.args.source.now) c.args.text.now = search rules in
    let dollar : c.args.text.now ≡ 36 ∷ c.args.following.now = search rules in
    end_through (g.S.Source.text c.args.source.now) c.args.text.now c.args.following.now r (end_mark c.args.text.now 36 c.args.following.now dollar)

pub read_dollar-indexed-requires-clause-name : goal.read_dollar-indexed-requires-clause-name
read_dollar-indexed-requires-clause-name g t c = subst (IsPrefixOf c.args.following.now) (sym c.split_name.ensures.run) (pass_front Name c.args.following.now)

pub read_dollar-scalar_variable-requires-clause-name : goal.read_dollar-scalar_variable-requires-clause-name
read_dollar-scalar_variable-requires-clause-name g t c = subst (IsPrefixOf c.args.following.now) (sym c.split_name.ensures.run) (pass_front Name c.args.following.now)

pub read_part-read_bracket-requires : goal.read_part-read_bracket-requires
read_part-read_bracket-requires g t c =
    let r : IsSuffixOf (g.S.Source.text c.args.source.now) c.args.text.now = search rules in
    let e : IsSuffixOf (g.S.Source.text c.args.source.now) c.in-Some-after_mark.following.now =
    end_through (g.S.Source.text c.args.source.now) c.args.text.now c.in-Some-after_mark.following.now r (end_mark c.args.text.now 91 c.in-Some-after_mark.following.now c.in-Some-after_mark.ensures)
    in
    search rules

pub read_unexpanded_word-read_braced-requires : goal.read_unexpanded_word-read_braced-requires
read_unexpanded_word-read_braced-requires g t c =
    let r : IsSuffixOf (g.S.Source.text c.args.source.now) c.args.text.now = search rules in
    end_through (g.S.Source.text c.args.source.now) c.args.text.now c.in-Some.following.now r (end_mark c.args.text.now 123 c.in-Some.following.now c.in-Some.ensures)

pub read_unexpanded_word-read_quotes-requires : goal.read_unexpanded_word-read_quotes-requires
read_unexpanded_word-read_quotes-requires g t c =
    let r : IsSuffixOf (g.S.Source.text c.args.source.now) c.args.text.now = search rules in
    let e : IsSuffixOf (g.S.Source.text c.args.source.now) c.in-Some-after_mark.following.now =
    end_through (g.S.Source.text c.args.source.now) c.args.text.now c.in-Some-after_mark.following.now r (end_mark c.args.text.now 34 c.in-Some-after_mark.following.now c.in-Some-after_mark.ensures)
    in
    search rules

pub read_word-read_unexpanded_word-requires : goal.read_word-read_unexpanded_word-requires
read_word-read_unexpanded_word-requires g t c =
    let r : IsSuffixOf (g.S.Source.text c.args.source.now) c.args.text.now = search rules in
    let e : IsSuffixOf (g.S.Source.text c.args.source.now) c.in-Some.following.now =
    end_through (g.S.Source.text c.args.source.now) c.args.text.now c.in-Some.following.now r
    (expanded_end (inner_at 0) (inner_leaves 0) (is_nested c.args.nesting) c.args.text.now c.in-Some.following.now
    c.in-Some.ensures)
    in
    search rules
