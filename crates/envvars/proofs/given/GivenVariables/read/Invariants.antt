use Rattle.std.proofs.Common.{◌≡◌, ◌<◌, ◌≤◌, ◌-◌, drop, length}
use Rattle.envvars.specs.EnvironmentBlock.{environment_of}
use Rattle.envvars.specs.Given.{given_over, IsChained}
use Rattle.envvars.proofs.given.GivenVariables.read.Given as goal

-- the entries so far, over what is left of the block, say what the whole block says
abbrev pub invariant-loop-length : goal.invariant-loop-length
invariant-loop-length l = record {
  within : l.start ≤ length l.given.block.items;
  chains : 0 < length l.given.latest.items;
  chained : IsChained l.given;
  block : l.given.block.items ≡ l.fn.block.items;
  given : given_over l.given.block.items (environment_of (drop l.start l.given.block.items)) l.given.entries.items ≡ environment_of l.fn.block.items;
}

abbrev pub decreases-loop-length : goal.decreases-loop-length
decreases-loop-length l = length l.given.block.items - l.start
