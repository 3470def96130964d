use Rattle.envstate.proofs.paths.RoundTrip.{state_of-written}
use Rattle.envstate.proofs.paths.Readable.{IsWritable-state_of}
use Rattle.envstate.proofs.paths.PathOrderLemmas.{IsWritable-add_all, IsWritable-drop_all}
use Rattle.envstate.proofs.paths.Examples.{one, two, three, four, five, six, seven, eight}
use Rattle.envstate.proofs.paths.laws.path_texts.Goals as goal

pub returns-clause-read_again : goal.returns-clause-read_again
returns-clause-read_again c = let a = one in let b = two in let d = three in let e = four in let f = five in let g = six in let h = seven in let i = eight in state_of-written

pub returns-clause-writable : goal.returns-clause-writable
returns-clause-writable c = IsWritable-state_of

pub returns-clause-add : goal.returns-clause-add
returns-clause-add c = IsWritable-add_all

pub returns-clause-drop : goal.returns-clause-drop
returns-clause-drop c = IsWritable-drop_all
