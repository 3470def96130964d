use Rattle.modulefile.proofs.PlainFiles.{plain_file}
use Rattle.modulefile.proofs.laws.plain.Goals as goal

pub returns : goal.returns
returns c = plain_file c.two_oracles.ensures.unasked
