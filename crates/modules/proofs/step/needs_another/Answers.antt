use Rattle.std.proofs.Common.{◌==◌, ℕ, not, ap, sym, ◌∙◌}
use Rattle.std.proofs.lemmas.List.{length-map}
use Rattle.envvars.specs.Texts.{texts_in}
use Rattle.modules.proofs.step.needs_another.Goals as goal

pub returns : goal.returns
returns c =
    let prereqs = c.args.entry.now.prereqs in
    ap not (c.is_empty.ensures ∙ ap (λ (n : ℕ). n == 0) (prereqs.ok.0 ∙ sym (length-map prereqs.items texts_in)))
