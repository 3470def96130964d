use Rattle.std.proofs.Common.{◌++◌, sym, ap, ◌∙◌, subst, arith, rules, length, string_bytes}
use Rattle.tcltext.specs.chars.Runs.{Text}
use Rattle.tcltext.specs.chars.Classes.{in_class}
use Rattle.tcltext.specs.declared.chars.runs.Class.TheVariants.{Unescaped}
use Rattle.tcltext.specs.chars.BracedText.{braced_text}
use Rattle.tcltext.proofs.chars.BracedTextLemmas.{SoFar, so_far-none, so_far-run, so_far-escape, so_far-end, back_no_longer}
use Rattle.tcltext.proofs.chars.BracedTextLemmas.{run_added}
use Rattle.tcltext.proofs.chars.braced_text.push_braced_text.Goals as goal

pub loop-after-init : goal.loop-after-init
loop-after-init c = (search rules, so_far-none (string_bytes c.push_str.new.self) c.split_run.result.1.now c.args.inside.now c.split_run.ensures.rest)

pub loop-after-smaller : goal.loop-after-smaller
loop-after-smaller c =
    let less = back_no_longer (in_class Unescaped) c.in_ok-following.following.now in
    omega (arith, ap length c.split_run-in-Some.ensures.rest, ap length c.in-Some.ensures, c.in_ok-following.ensures.shorter, less)

pub loop-after-preserved : goal.loop-after-preserved
loop-after-preserved c =
    let whole = string_bytes c.push_str.new.self ++ braced_text c.split_run.result.1.now in
    let escaped = so_far-escape whole (string_bytes c.loop-after.value) c.loop-after.rest.now c.in-Some.after.now c.in-Some.ensures c.loop-after.invariant.1 in (
      search rules,
      subst (λ (xs : Text). SoFar whole xs c.split_run-in-Some.result.1.now) (sym c.in_ok-push_str-2.ensures.bytes)
          (so_far-run whole (string_bytes c.push_escape.new.value) c.split_run-in-Some.result.0.now c.split_run-in-Some.result.1.now c.in_ok-following.following.now
          c.split_run-in-Some.ensures.run c.split_run-in-Some.ensures.rest (c.in_ok-following.ensures.text ∙ escaped)),
    )

pub returns : goal.returns
returns c =
    so_far-end (string_bytes c.push_str.new.self ++ braced_text c.split_run.result.1.now) (string_bytes c.loop-after.value) c.loop-after.rest.now c.in_default.ensures c.loop-after.invariant.1
    ∙ ap (λ (xs : Text). xs ++ braced_text c.split_run.result.1.now) c.in_ok-push_str.ensures.bytes
    ∙ run_added (string_bytes c.args.value.now) c.split_run.result.0.now c.split_run.result.1.now c.args.inside.now c.split_run.ensures.run c.split_run.ensures.rest
