use Rattle.shelltext.proofs.Reader.{one}
use Rattle.shelltext.proofs.laws.one_reading.Goals as goal

pub returns : goal.returns
returns c = one
