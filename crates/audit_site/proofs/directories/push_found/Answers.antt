use Rattle.std.proofs.Common.{List, map, string_bytes, append-nil}
use Rattle.envvars.specs.Texts.{Text}
use Rattle.audit_site.specs.DeterministicRuns.{directories_after}
use Rattle.audit_site.specs.WalkParts.{directories_found}
use Rattle.audit_site.specs.declared.walk.Evaluation.{Evaluation}
use Rattle.audit_laws.proofs.site.DirectorySetLemmas.{dirs_turn}
use Rattle.audit_site.proofs.AmongSites.{flat_map_parts}
use Rattle.audit_site.proofs.directories.push_found.Goals as goal

pub loop-evaluation-preserved : goal.loop-evaluation-preserved
loop-evaluation-preserved c =
    let piece : List Text = directories_after c.evaluation-item.result.outcome in
    dirs_turn directories_found (flat_map_parts (λ (x : Evaluation). directories_after x.outcome))
    (map string_bytes c.args.dirs.now.keys) (map string_bytes c.loop-evaluation.dirs.keys)
    (map string_bytes c.push_evaluated.new.dirs.keys) piece
    c.args.evaluations.now c.loop-evaluation.evaluation-index c.evaluation-item.result c.evaluation-item.result
    c.loop-evaluation-test.true c.evaluation-item.is (append-nil piece) c.loop-evaluation.invariant
    c.in_ok-push_evaluated.ensures
