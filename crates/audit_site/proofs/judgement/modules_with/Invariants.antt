use Rattle.std.proofs.Common.{◌++◌, List}
use Rattle.std.specs.Vec.Iter.{into_iter_items}
use Rattle.audit_site.specs.declared.auditing.AuditedModule.{AuditedModule}
use Rattle.audit_site.specs.Findings.{AreModulesWith}
use Rattle.audit_site.proofs.judgement.modules_with.Given as goal

-- with the modules of the rest these are all
abbrev pub invariant-loop-one : goal.invariant-loop-one
invariant-loop-one l =
    (more : List AuditedModule) → AreModulesWith (into_iter_items l.one-iterator) (into_iter_items l.answers) (into_iter_items l.beside) more
    → AreModulesWith l.fn.judged.items l.fn.answers.items l.fn.beside.items (l.modules.items ++ more)
