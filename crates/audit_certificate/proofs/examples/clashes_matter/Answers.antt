use Rattle.audit_certificate.proofs.Lost.{by_delimiters, by_path_and_stack, by_set_and_push, by_unset_and_push}
use Rattle.audit_certificate.proofs.Lost.{by_both_set, by_set_and_absent, starts_agree}
use Rattle.audit_certificate.proofs.OneModule.{leave_value}
use Rattle.audit_certificate.proofs.examples.clashes_matter.Goals as goal

pub returns-clause-delimiters : goal.returns-clause-delimiters
returns-clause-delimiters c = by_delimiters c.uses.ensures.two_delimiters

pub returns-clause-path_and_stack : goal.returns-clause-path_and_stack
returns-clause-path_and_stack c = by_path_and_stack c.uses.ensures.added_and_pushed

pub returns-clause-set_and_push : goal.returns-clause-set_and_push
returns-clause-set_and_push c = by_set_and_push c.uses.ensures.set_and_pushed

pub returns-clause-unset_and_push : goal.returns-clause-unset_and_push
returns-clause-unset_and_push c = by_unset_and_push c.uses.ensures.unset_and_pushed

pub returns-clause-both_set : goal.returns-clause-both_set
returns-clause-both_set c = by_both_set c.uses.ensures.set_by_two

pub returns-clause-set_and_absent : goal.returns-clause-set_and_absent
returns-clause-set_and_absent c = by_set_and_absent c.uses.ensures.set_and_absent

pub returns-clause-starts : goal.returns-clause-starts
returns-clause-starts c = starts_agree

pub returns-clause-two_uses : goal.returns-clause-two_uses
returns-clause-two_uses c = leave_value
