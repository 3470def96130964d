use Rattle.modulefile.proofs.AnsweredFiles.{answered_file}
use Rattle.modulefile.proofs.laws.answered.Goals as goal

pub returns : goal.returns
returns c = answered_file c.two_oracles.ensures.asked
