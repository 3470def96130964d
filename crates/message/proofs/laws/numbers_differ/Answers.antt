use Rattle.message.proofs.Numbers.{differ}
use Rattle.message.proofs.laws.numbers_differ.Goals as goal

pub returns : goal.returns
returns c = differ
