use Rattle.std.proofs.Common.{sym, ap, ◌∙◌}
use Rattle.envvars.specs.Changes.{applied}
use Rattle.shelltext.proofs.Reader.{one}
use Rattle.shelltext.proofs.laws.one_effect.Goals as goal

pub returns : goal.returns
returns c shell text old new other h k =
    h.made ∙ (ap (λ ss. applied ss old) (one shell text h.changes k.changes h.says k.says) ∙ sym k.made)
