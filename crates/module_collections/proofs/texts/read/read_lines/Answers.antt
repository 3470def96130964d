use Rattle.std.proofs.Common.{arith}
use Rattle.std.proofs.lemmas.Result.{err_from_is_err_and}
use Rattle.envvars.specs.Texts.{slice_texts}
use Rattle.module_collections.specs.texts.Collections.{nothing, with_lines}
use Rattle.module_collections.specs.texts.Views.{kept_view, reason_of}
use Rattle.module_collections.proofs.texts.Turns.{lines_turn, lines_stop, lines_end}
use Rattle.module_collections.proofs.texts.read.read_lines.Goals as goal

pub loop-line-preserved : goal.loop-line-preserved
loop-line-preserved c = record {
  same = lines_turn c.args.lines.now c.loop-line.line-index c.loop-line.number _ (kept_view c.loop-line.found) (kept_view c.read_line.new.found)
      (with_lines (slice_texts c.args.lines.now) 1 nothing) c.loop-line-test.true c.in_ok-read_line.ensures c.loop-line.invariant.same;
  number = omega arith;
}

pub returns-in_err-read_line : goal.returns-in_err-read_line
returns-in_err-read_line c =
    let p = err_from_is_err_and c.from_residual.result c.from_residual.ensures.1 in
    rw (p.1, p.2) (lines_stop c.args.lines.now c.loop-line.line-index c.loop-line.number _ (kept_view c.loop-line.found)
    (with_lines (slice_texts c.args.lines.now) 1 nothing) (reason_of c.in_err-read_line.field-0.0) c.loop-line-test.true
    c.in_err-read_line.ensures c.loop-line.invariant.same)

pub returns : goal.returns
returns c =
    lines_end c.args.lines.now c.loop-line.line-index c.loop-line.number (kept_view c.loop-line.found)
    (with_lines (slice_texts c.args.lines.now) 1 nothing) c.loop-line-test.false c.loop-line.invariant.same
