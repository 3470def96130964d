use Rattle.std.proofs.Common.{◌≡◌, List, take}
use Rattle.std.specs.List.{count_by}
use Rattle.std.specs.Option.{option_map}
use Rattle.audit_certificate.specs.Users.{ModuleUse}
use Rattle.audit_certificate.specs.UseKeys.{key_view}
use Rattle.audit_certificate.specs.Tallies.{HasCounts, is_excluded_user}
use Rattle.audit_certificate.proofs.ConflictLemmas.{any_key}
use Rattle.audit_certificate.proofs.tally.Tally.excluded.Given as goal

abbrev pub invariant-loop-name : goal.invariant-loop-name
invariant-loop-name l = (us : List ModuleUse) → HasCounts l.self us
    → l.number ≡ count_by (is_excluded_user l.variable (option_map key_view l.used) (λ name. any_key name (take l.name-index l.roots))) us
