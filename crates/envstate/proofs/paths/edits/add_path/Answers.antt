use Rattle.std.proofs.Common.{ap, sym, ◌∙◌}
use Rattle.std.specs.Option.{option_map}
use Rattle.std.proofs.lemmas.Result.{err_from_is_err_and}
use Rattle.envvars.specs.Texts.{slice_texts}
use Rattle.envvars.specs.Environment.{lookup}
use Rattle.envstate.proofs.paths.UncountedLemmas.{counted_as}
use Rattle.envstate.proofs.paths.PathEditLemmas.{looked_up, add_edits, add_refused}
use Rattle.envstate.proofs.paths.edits.add_path.Goals as goal

pub write_both-requires-clause-counted : goal.write_both-requires-clause-counted
write_both-requires-clause-counted g c =
    counted_as c.get-counts.result _ c.is_some-is_counted.result c.is_some-is_counted.ensures
    (c.get-counts.ensures ∙ ap (lookup (g.V.Vars.vars c.args.env.now)) (c.as_str.ensures.value ∙ sym c.as_str-2.ensures.value))

pub returns-clause-edits : goal.returns-clause-edits
returns-clause-edits g c =
    add_edits c.write_both.result (g.V.Vars.vars c.args.env.now) (g.V.Vars.vars c.write_both.new.env) c.args.var.now
    c.args.delim (slice_texts c.args.elements.now) c.args.end c.in_ok-texts.texts _
    c.in_ok-judge_path.ensures.judged
    (looked_up (g.V.Vars.vars c.args.env.now) c.args.var.now c.as_str.result.now c.args.delim
    (option_map (λ t. t.now) c.get-text.result) (option_map (λ t. t.now) c.get-counts.result) c.get-text.ensures
    c.get-counts.ensures (c.as_str.ensures.value ∙ c.in_ok-share.ensures))
    c.in_ok-texts.ensures.0 c.in_ok-texts.ensures.1 c.write_both.ensures.ok c.write_both.ensures.err c.write_both.ensures.only

pub returns-in_err-texts-clause-edits : goal.returns-in_err-texts-clause-edits
returns-in_err-texts-clause-edits g c =
    let p = err_from_is_err_and c.from_residual-in_err-texts.result c.from_residual-in_err-texts.ensures.1 in
    rw (p.1, p.2)
    (add_refused _ (g.V.Vars.vars c.args.env.now) c.args.var.now c.args.delim (slice_texts c.args.elements.now) c.args.end _ c.in_ok-judge_path.ensures.judged
    (looked_up (g.V.Vars.vars c.args.env.now) c.args.var.now c.as_str.result.now c.args.delim
    (option_map (λ t. t.now) c.get-text.result) (option_map (λ t. t.now) c.get-counts.result) c.get-text.ensures
    c.get-counts.ensures (c.as_str.ensures.value ∙ c.in_ok-share.ensures))
    c.in_err-texts.ensures)
