use Rattle.std.proofs.Common.{◌≡◌, take}
use Rattle.envvars.specs.Texts.{Text}
use Rattle.audit_site.specs.Mentions.{known_in, is_accepted}
use Rattle.audit_site.proofs.names.accepted_names.Given as goal

abbrev pub invariant-loop-evaluation : goal.invariant-loop-evaluation
invariant-loop-evaluation l = (name : Text) → known_in l.meaning.keys name ≡ is_accepted (take l.evaluation-index l.evaluations) name
