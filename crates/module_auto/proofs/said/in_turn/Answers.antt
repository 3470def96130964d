use Rattle.std.proofs.Common.{reverse, ap, ◌∙◌}
use Rattle.envvars.specs.Texts.{slice_texts}
use Rattle.module_auto.proofs.SaidLemmas.{texts_reversed}
use Rattle.module_auto.proofs.said.in_turn.Goals as goal

pub returns : goal.returns
returns c = ap slice_texts c.reverse.ensures.items ∙ (texts_reversed c.in_ok-names.names.items ∙ ap reverse c.in_ok-names.ensures)
