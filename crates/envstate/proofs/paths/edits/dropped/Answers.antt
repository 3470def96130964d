use Rattle.std.proofs.Common.{ap, ◌∙◌, subst}
use Rattle.std.specs.Prelude.{IfOk}
use Rattle.envvars.specs.Texts.{slice_texts}
use Rattle.envstate.specs.paths.Paths.{drop_all}
use Rattle.envstate.specs.paths.PathEdits.{AreTexts}
use Rattle.envstate.proofs.paths.edits.dropped.Goals as goal

pub returns : goal.returns
returns c =
    subst (λ s. IfOk c.write_path.result (λ t. AreTexts t c.args.delim s))
    (c.drop_from_path.ensures ∙ ap (λ s. drop_all s (slice_texts c.args.less.now)) c.in_ok-path.ensures.state)
    c.write_path.ensures
