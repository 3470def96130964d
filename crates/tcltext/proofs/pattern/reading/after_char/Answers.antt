use Rattle.std.proofs.Common.{arith}
use Rattle.std.specs.Str.{chars}
use Rattle.tcltext.proofs.pattern.StepLemmas.{any_steps, set_step_answer, escape_step_answer, itself_steps}
use Rattle.tcltext.proofs.pattern.reading.after_char.Goals as goal

pub returns-in-63-clause-steps : goal.returns-in-63-clause-steps
returns-in-63-clause-steps c = any_steps c.args.first c.args.c (chars c.args.rest.now) c.in-63.is

pub returns-in-91-clause-steps : goal.returns-in-91-clause-steps
returns-in-91-clause-steps c = set_step_answer c.args.first c.args.c (chars c.args.rest.now) c.after_set.result c.in-91.is c.after_set.ensures.holds

pub returns-in-92-clause-steps : goal.returns-in-92-clause-steps
returns-in-92-clause-steps c = escape_step_answer c.args.first c.args.c (chars c.args.rest.now) c.after_escaped.result c.in-92.is c.after_escaped.ensures.is

pub returns-in_default-clause-steps : goal.returns-in_default-clause-steps
returns-in_default-clause-steps c = itself_steps c.args.first c.args.c (chars c.args.rest.now) c.requires (λ e. omega arith) (λ e. omega arith) (λ e. omega arith) c.if-first-c.true
