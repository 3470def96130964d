use Rattle.std.proofs.Common.{sym, ◌∙◌, arith}
use Rattle.std.proofs.lemmas.List.Sums.{prefix_len-drop_yes, prefix_len-drop_no, prefix_len-drop_all}
use Rattle.tcltext.specs.chars.Classes.{in_class}
use Rattle.tcltext.proofs.chars.runs.run_length.Goals as goal

pub loop-n-init : goal.loop-n-init
loop-n-init c = omega arith

pub loop-n-preserved : goal.loop-n-preserved
loop-n-preserved c =
    omega (arith, c.loop-n.invariant, prefix_len-drop_yes (in_class c.args.class) c.args.bytes.now c.loop-n.n 0 (omega arith) (sym c.in_class.ensures ∙ c.if-not-in_class.false))

pub returns-then-not-in_class : goal.returns-then-not-in_class
returns-then-not-in_class c =
    omega (arith, c.loop-n.invariant, prefix_len-drop_no (in_class c.args.class) c.args.bytes.now c.loop-n.n 0 (omega arith) (sym c.in_class.ensures ∙ c.if-not-in_class.true))

pub returns : goal.returns
returns c = omega (arith, c.loop-n.invariant, prefix_len-drop_all (in_class c.args.class) c.args.bytes.now c.loop-n.n (omega arith))
