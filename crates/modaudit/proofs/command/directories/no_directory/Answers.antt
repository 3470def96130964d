use Rattle.std.proofs.Common.{refl, inl}
use Rattle.modaudit.proofs.command.directories.no_directory.Goals as goal

pub returns-in-Ok : goal.returns-in-Ok
returns-in-Ok c = inl (c.in-Ok.dir, refl, c.in-Ok.ensures.ok)
