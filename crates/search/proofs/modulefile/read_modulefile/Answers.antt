-- The check would find these by itself. Written, they are all that is tried where an edit that must fail breaks them.
use Rattle.std.proofs.Common.{rules}
use Rattle.search.proofs.modulefile.read_modulefile.Goals as goal

pub returns-in-None-clause-answer : goal.returns-in-None-clause-answer
returns-in-None-clause-answer g c = search rules

pub returns-in-None-clause-failed : goal.returns-in-None-clause-failed
returns-in-None-clause-failed g c = search rules
