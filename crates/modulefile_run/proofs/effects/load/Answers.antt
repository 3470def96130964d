use Rattle.std.proofs.Common.{sym}
use Rattle.modulefile_run.proofs.effects.load.Goals as goal

pub returns-in-Push-clause-edits : goal.returns-in-Push-clause-edits
returns-in-Push-clause-edits g c = rw c.in-Push.is (rw (sym c.deref-in-Push.ensures, sym c.deref-in-Push-2.ensures) c.push_value.ensures.edits)

pub returns-in-Front-clause-edits : goal.returns-in-Front-clause-edits
returns-in-Front-clause-edits g c = rw (c.in-Path.is, c.in-Front.is) (rw (sym c.deref-in-Front.ensures, sym c.as_slice.ensures.value) c.add.ensures.edits)

pub returns-in-Back-clause-edits : goal.returns-in-Back-clause-edits
returns-in-Back-clause-edits g c = rw (c.in-Path.is, c.in-Back.is) (rw (sym c.deref-in-Back.ensures, sym c.as_slice-in-Back.ensures.value) c.add-in-Back.ensures.edits)

pub returns-in-Remove-clause-edits : goal.returns-in-Remove-clause-edits
returns-in-Remove-clause-edits g c = rw (c.in-Path.is, c.in-Remove.is) (rw (sym c.deref-in-Remove.ensures, sym c.as_slice-in-Remove.ensures.value) c.drop.ensures.edits)
