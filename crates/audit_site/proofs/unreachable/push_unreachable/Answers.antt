use Rattle.std.proofs.Common.{◌≡◌, ◌++◌, map, List, string_bytes, ap, ◌∙◌}
use Rattle.std.proofs.lemmas.Result.{on_ok_weaker}
use Rattle.envvars.specs.Texts.{Text}
use Rattle.envvars.specs.Fields.{without_repeats}
use Rattle.audit_site.specs.Audits.{addition_of}
use Rattle.audit_site.specs.Unreachable.{additions_among}
use Rattle.audit_site.specs.Mentions.{known_in}
use Rattle.audit_site.specs.DeterministicRuns.{evaluated_file, directories_after}
use Rattle.audit_site.proofs.DirectoryLemmas.{once}
use Rattle.audit_site.proofs.unreachable.push_unreachable.Goals as goal

pub returns : goal.returns
returns c =
    let e = c.args.«module».now in
    let old = map addition_of c.args.found.now.items in
    let dirs : map string_bytes c.as_slice.result.now ≡ without_repeats (directories_after e.outcome)
    = ap (map string_bytes) c.as_slice.ensures.value ∙ (c.in_ok-dirs.ensures ∙ (rw c.new-added.ensures.empty at c.in_ok-push_evaluated.ensures ∙ once (directories_after e.outcome))) in
    on_ok_weaker c.push_each.result
    (λ h. h ∙ ap (λ (l : List Text). old ++ additions_among (known_in c.args.deterministic.now.keys) (evaluated_file e) l) dirs)
    c.push_each.ensures
