use Rattle.std.proofs.Common.{◌≡◌, ◌∙◌, ◌++◌, Bool, List, ap, flat_map}
use Rattle.std.proofs.lemmas.Result.{IfOk-weaker}
use Rattle.envvars.specs.Texts.{Text, has}
use Rattle.filetree.specs.Modulefiles.{directories}
use Rattle.audit_site.specs.Unreachable.{stable_additions, is_stable_directory, additions_after}
use Rattle.audit_site.specs.Mentions.{known_in}
use Rattle.audit_site.proofs.DirectoryLemmas.{once}
use Rattle.audit_laws.proofs.site.FreeReads.{has_once}
use Rattle.audit_site.proofs.unreachable.unreachable_directories.Goals as goal

pub returns : goal.returns
returns c =
    let all : List Text = directories c.args.modulepath.now ++ flat_map stable_additions c.args.evaluations.now in
    let known : known_in c.in_ok-deterministic.deterministic.keys ≡ is_stable_directory c.args.modulepath.now c.args.evaluations.now
    = λ i dir. (ap (has dir) (c.in_ok-deterministic.ensures ∙ once all) ∙ has_once dir all) i in
    IfOk-weaker c.unreachable_beside.result _ _ (λ found e. e ∙ ap (λ (k : Text → Bool). flat_map (additions_after k) c.args.evaluations.now) known) c.unreachable_beside.ensures
