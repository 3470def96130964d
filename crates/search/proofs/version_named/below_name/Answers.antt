use Rattle.search.proofs.VersionNamedLemmas.{after_prefix_none, after_prefix_some}
use Rattle.std.proofs.Common.{[], ◌∷◌, option_map, ap, ◌∙◌}
use Rattle.std.specs.ControlFlow.{continue_value}
use Rattle.modulename.specs.ModuleName.{slash}
use Rattle.search.proofs.version_named.below_name.Goals as goal

pub returns-in_err-after_prefix : goal.returns-in_err-after_prefix
returns-in_err-after_prefix c = rw c.from_residual.ensures
    (after_prefix_none c.args.name.now (slash ∷ []) c.args.spelled.now c.after_prefix.result c.after_prefix.ensures
    (c.branch-after_prefix.ensures ∙ ap continue_value c.in_err-after_prefix.is))

pub returns : goal.returns
returns c = after_prefix_some c.args.name.now (slash ∷ []) c.args.spelled.now c.in_ok-after_prefix.field-0.now
    c.after_prefix.result _ c.after_prefix.ensures (ap (option_map (λ v. v.now))
    (c.branch-after_prefix.ensures ∙ ap continue_value c.in_ok-after_prefix.is)) c.after_prefix-2.ensures
