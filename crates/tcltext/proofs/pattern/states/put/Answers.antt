use Rattle.tcltext.proofs.pattern.RowLemmas.{put-here, put-elsewhere}
use Rattle.tcltext.proofs.pattern.states.put.Goals as goal

pub returns-clause-here : goal.returns-clause-here
returns-clause-here c = put-here c.args.states.now c.args.at c.with_bit.result c.args.value c.requires c.with_bit.ensures.here

pub returns-clause-elsewhere : goal.returns-clause-elsewhere
returns-clause-elsewhere c = put-elsewhere c.args.states.now c.args.at c.with_bit.result c.requires c.with_bit.ensures.elsewhere
