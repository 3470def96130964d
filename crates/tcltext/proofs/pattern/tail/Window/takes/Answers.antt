use Rattle.std.proofs.Common.{◌∙◌, sym, arith}
use Rattle.std.proofs.lemmas.Bool.{eqb-true}
use Rattle.tcltext.proofs.pattern.TextLemmas.{no_way}
use Rattle.tcltext.proofs.pattern.TakeLemmas.{then_iff, star-now, star-later, any_takes, set_takes, escape_takes}
use Rattle.tcltext.proofs.pattern.TakeLemmas.{escape_none, itself_takes, itself_none}
use Rattle.tcltext.proofs.pattern.tail.Window.takes.Goals as goal

pub returns-then-self : goal.returns-then-self
returns-then-self c xs cs k e = (λ t. star-now c.args.p c.args.c xs cs c.in-42.is (k.takes.0 t), λ m. c.if-self.true)

pub returns-else-self : goal.returns-else-self
returns-else-self c xs cs k e = then_iff e (star-later c.args.p c.args.c xs cs c.in-42.is (no_way c.args.self.now.takes c.if-self.false k.takes))

pub returns-in-63 : goal.returns-in-63
returns-in-63 c xs cs k e = then_iff k.here.matches (any_takes c.args.p c.args.c xs cs c.in-63.is)

pub returns-in-91 : goal.returns-in-91
returns-in-91 c xs cs k e = then_iff k.here.holds (set_takes c.args.p c.args.c xs cs c.in-91.is)

pub returns-then-begins_with : goal.returns-then-begins_with
returns-then-begins_with c xs cs k e =
    then_iff k.next.matches (escape_takes c.args.p c.args.c xs cs c.in-92.is (sym k.here.first ∙ c.begins_with.ensures.0 c.if-begins_with.true))

pub returns-else-begins_with : goal.returns-else-begins_with
returns-else-begins_with c xs cs k e =
    rw c.if-begins_with.false (escape_none c.args.p c.args.c xs cs c.in-92.is (λ f. no_way c.begins_with.result c.if-begins_with.false c.begins_with.ensures (k.here.first ∙ f)))

pub returns-then-p-c : goal.returns-then-p-c
returns-then-p-c c xs cs k e =
    then_iff k.here.matches (itself_takes c.args.p c.args.c xs cs (λ e. omega arith) (λ e. omega arith) (λ e. omega arith) (λ e. omega arith) c.if-p-c.true)

pub returns-else-p-c : goal.returns-else-p-c
returns-else-p-c c xs cs k e = (
  λ t. absurd (c.if-p-c.false (eqb-true c.args.p c.args.c t)),
  λ m. absurd (itself_none c.args.p c.args.c xs cs (λ e. omega arith) (λ e. omega arith) (λ e. omega arith) (λ e. omega arith) c.if-p-c.false m),
)
