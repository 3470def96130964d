use Rattle.std.proofs.Common.{length, IfSome}
use Rattle.envvars.specs.Given.{IsNamed, IsInChain, chain_of}
use Rattle.envvars.proofs.GivenLemmas.{IsFirstAbove, left}
use Rattle.envvars.proofs.given.GivenVariables.find.Given as goal

-- above the index that comes next, the first of the name is found
abbrev pub invariant-loop-at : goal.invariant-loop-at
invariant-loop-at l = record {
  chain : IfSome l.at (IsInChain (length l.self.latest.items) l.self.block.items l.self.entries.items (chain_of (length l.self.latest.items) l.name));
  first : IsFirstAbove (IsNamed l.self.block.items l.self.entries.items l.name) l.at l.found;
}

abbrev pub decreases-loop-at : goal.decreases-loop-at
decreases-loop-at l = left l.at
