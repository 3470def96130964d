use Rattle.shelltext.proofs.Values.{has_char}
use Rattle.shelltext.proofs.spelling.has.Goals as goal

pub returns : goal.returns
returns c = has_char c.args.c c.args.value.now c.contains.result c.requires c.contains.ensures.cases
