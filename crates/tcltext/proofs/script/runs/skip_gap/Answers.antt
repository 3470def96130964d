use Rattle.std.proofs.Common.{◌∙◌, sym, ap, arith, rules, length}
use Rattle.tcltext.specs.chars.Bytes.{is_gap}
use Rattle.tcltext.proofs.chars.BracedTextLemmas.{back_no_longer}
use Rattle.tcltext.specs.script.ScanState.{skip_gap}
use Rattle.tcltext.proofs.script.Skips.{run_stops, gap_run, gap_end}
use Rattle.tcltext.proofs.script.runs.skip_gap.Goals as goal

pub loop-next-init : goal.loop-next-init
loop-next-init c = record {
  utf8 = search rules;
  stops = rw c.split_run.ensures.rest (run_stops is_gap c.args.text.now);
  same = gap_run c.args.text.now ∙ ap skip_gap (sym c.split_run.ensures.rest);
}

pub loop-next-smaller : goal.loop-next-smaller
loop-next-smaller c =
    omega (arith, ap length c.split_run-in-Some.ensures.rest, c.in-Some.ensures.1, back_no_longer is_gap c.in-Some.next.now)

pub loop-next-preserved : goal.loop-next-preserved
loop-next-preserved c = record {
  utf8 = search rules;
  stops = rw c.split_run-in-Some.ensures.rest (run_stops is_gap c.in-Some.next.now);
  same = c.loop-next.invariant.same ∙ c.in-Some.ensures.0 ∙ gap_run c.in-Some.next.now ∙ ap skip_gap (sym c.split_run-in-Some.ensures.rest);
}

pub returns : goal.returns
returns c = gap_end c.loop-next.rest.now c.loop-next.invariant.stops c.in_default.ensures.0 c.in_default.ensures.1 ∙ sym c.loop-next.invariant.same
