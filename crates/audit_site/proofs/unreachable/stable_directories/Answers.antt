use Rattle.std.proofs.Common.{[], List, flat_map, map, string_bytes, append-nil, sym, ap, ◌∙◌, take_all}
use Rattle.envvars.specs.Texts.{Text}
use Rattle.filetree.specs.Modulefiles.{directories}
use Rattle.audit_laws.specs.site.DirectorySets.{with_directories}
use Rattle.audit_laws.proofs.site.DirectorySetLemmas.{dirs_turn, with-append}
use Rattle.audit_site.specs.Unreachable.{stable_additions}
use Rattle.audit_site.specs.declared.walk.Evaluation.{Evaluation}
use Rattle.audit_site.proofs.AmongSites.{flat_map_parts}
use Rattle.audit_site.proofs.unreachable.stable_directories.Goals as goal

pub loop-evaluation-preserved : goal.loop-evaluation-preserved
loop-evaluation-preserved c =
    let piece : List Text = stable_additions c.evaluation-item.result in
    dirs_turn (λ (es : List Evaluation). flat_map stable_additions es) (flat_map_parts stable_additions)
    (with_directories [] (directories c.args.modulepath.now)) (map string_bytes c.loop-evaluation.deterministic.keys)
    (map string_bytes c.push_deterministic.new.dirs.keys) piece
    c.args.evaluations.now c.loop-evaluation.evaluation-index c.evaluation-item.result c.evaluation-item.result
    c.loop-evaluation-test.true c.evaluation-item.is (append-nil piece) c.loop-evaluation.invariant
    c.in_ok-push_deterministic.ensures

pub returns : goal.returns
returns c =
    c.loop-evaluation.invariant
    ∙ (ap (λ (es : List Evaluation). with_directories (with_directories [] (directories c.args.modulepath.now)) (flat_map stable_additions es))
    (take_all c.loop-evaluation.evaluation-index c.args.evaluations.now c.loop-evaluation-test.false)
    ∙ sym (with-append [] (directories c.args.modulepath.now) (flat_map stable_additions c.args.evaluations.now)))
