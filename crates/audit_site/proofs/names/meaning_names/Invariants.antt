use Rattle.std.proofs.Common.{◌≡◌, take}
use Rattle.envvars.specs.Texts.{Text}
use Rattle.audit_site.specs.Mentions.{known_in, is_known}
use Rattle.audit_site.proofs.names.meaning_names.Given as goal

abbrev pub invariant-loop-evaluation : goal.invariant-loop-evaluation
invariant-loop-evaluation l = (name : Text) → known_in l.meaning.keys name ≡ is_known (take l.evaluation-index l.evaluations) name
