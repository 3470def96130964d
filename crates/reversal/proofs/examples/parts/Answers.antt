use Rattle.reversal.proofs.Parts.{parts_are_all}
use Rattle.reversal.proofs.examples.parts.Goals as goal

pub returns : goal.returns
returns c = parts_are_all
