use Rattle.tclrules.specs.Rules.{rule}
use Rattle.tclrules.specs.Meaning.{plan_of, first}
use Rattle.tclrules.proofs.Plays.{derived}
use Rattle.tclrules.proofs.Plenty.{enough}
use Rattle.tclrules.proofs.laws.played.Goals as goal

pub returns-clause-derived : goal.returns-clause-derived
returns-clause-derived c = λ s steps o w e. derived s.oracle s.limits.commands (rule s.limits.value_bytes) steps (plan_of s.limits s.script s.oracle.reserved s.globals) (first s.trace) o w e

pub returns-clause-enough : goal.returns-clause-enough
returns-clause-enough c = λ s o w d. enough d
