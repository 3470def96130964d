use Rattle.std.proofs.Common.{◌∙◌, sym, ap, arith, rules, length}
use Rattle.tcltext.specs.chars.Bytes.{is_blank}
use Rattle.tcltext.proofs.chars.BracedTextLemmas.{back_no_longer}
use Rattle.tcltext.specs.script.ScanState.{skip_blanks}
use Rattle.tcltext.proofs.script.Skips.{run_stops, blanks_run, blanks_joined, blanks_end}
use Rattle.tcltext.proofs.script.runs.skip_blanks.Goals as goal

pub loop-next-init : goal.loop-next-init
loop-next-init c = record {
  utf8 = search rules;
  stops = rw c.split_run.ensures.rest (run_stops is_blank c.args.text.now);
  same = blanks_run c.args.text.now ∙ ap skip_blanks (sym c.split_run.ensures.rest);
}

pub loop-next-smaller : goal.loop-next-smaller
loop-next-smaller c =
    omega (arith, ap length c.split_run-in-Some.ensures.rest, ap length c.in-Some.ensures, back_no_longer is_blank c.in-Some.next.now)

pub loop-next-preserved : goal.loop-next-preserved
loop-next-preserved c = record {
  utf8 = search rules;
  stops = rw c.split_run-in-Some.ensures.rest (run_stops is_blank c.in-Some.next.now);
  same =
      c.loop-next.invariant.same ∙ blanks_joined c.loop-next.rest.now c.in-Some.next.now c.in-Some.ensures ∙ blanks_run c.in-Some.next.now
      ∙ ap skip_blanks (sym c.split_run-in-Some.ensures.rest);
}

pub returns : goal.returns
returns c = blanks_end c.loop-next.rest.now c.loop-next.invariant.stops c.in_default.ensures ∙ sym c.loop-next.invariant.same
