use Rattle.audit_laws.proofs.returns.PlainUnload.{unloads_end, unloads_are_accepted, purges_return, plain_modules_load_plainly}
use Rattle.audit_laws.proofs.returns.PlainUnload.{judged_unloads_are_accepted}
use Rattle.audit_laws.proofs.returns.OnePlain.{one_plain_is_unloaded}
use Rattle.audit_laws.proofs.returns.laws.plain_unloads_are_accepted.Goals as goal

pub returns-clause-end : goal.returns-clause-end
returns-clause-end c = unloads_end (record { allows = c.files.ensures.allowed; outcome = c.outcomes.ensures.one; preserve = c.steps.ensures })

pub returns-clause-accepted : goal.returns-clause-accepted
returns-clause-accepted c =
    unloads_are_accepted (record { allows = c.files.ensures.allowed; outcome = c.outcomes.ensures.one; preserve = c.steps.ensures })

pub returns-clause-purge : goal.returns-clause-purge
returns-clause-purge c = purges_return (record { allows = c.files.ensures.allowed; outcome = c.outcomes.ensures.one; preserve = c.steps.ensures })

pub returns-clause-loaded : goal.returns-clause-loaded
returns-clause-loaded c = plain_modules_load_plainly c.plain.ensures

pub returns-clause-judged : goal.returns-clause-judged
returns-clause-judged c = judged_unloads_are_accepted
    (record { allows = c.files.ensures.allowed; outcome = c.outcomes.ensures.one; preserve = c.steps.ensures })
    c.plain.ensures c.verdicts.ensures.file c.sessions_return.ensures

pub returns-clause-one : goal.returns-clause-one
returns-clause-one c = one_plain_is_unloaded c.files.ensures.allowed c.outcomes.ensures.one
