use Rattle.tclcommands.proofs.writing.write_at.Goals as goal

pub returns-clause-continues : goal.returns-clause-continues
returns-clause-continues c = rw c.of_text.ensures at c.put_at.ensures.continues

pub returns-clause-written : goal.returns-clause-written
returns-clause-written c = rw c.of_text.ensures at c.put_at.ensures.written
