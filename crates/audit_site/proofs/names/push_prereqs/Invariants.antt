use Rattle.std.proofs.Common.{◌≡◌, ◌++◌, map, take}
use Rattle.envvars.specs.Texts.{texts_in}
use Rattle.audit_site.specs.Audits.{mention_of, prereq_mention}
use Rattle.audit_site.specs.DeterministicRuns.{evaluated_file}
use Rattle.audit_site.proofs.names.push_prereqs.Given as goal

abbrev pub invariant-loop-names : goal.invariant-loop-names
invariant-loop-names l =
    map mention_of l.found.items
    ≡ map mention_of l.initial.found.items ++ map (prereq_mention (evaluated_file l.module)) (map texts_in (take l.names-index l.groups))
