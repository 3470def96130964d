use Rattle.std.proofs.Common.{◌≡◌, ℕ, ◌<◌, length, List, [], ◌∷◌, arith}
use Rattle.std.proofs.lemmas.Grind.{common_steps}
use Rattle.envvars.specs.Given.{chain_of}
use Rattle.envvars.proofs.given.chain_of.Goals as goal

empty : (count : ℕ) (name : List ℕ) → 0 < count → length name ≡ 0 → 0 ≡ chain_of count name
unfolding chain_of
empty count [] l h = omega (arith, l)
empty count (x ∷ xs) l h = grind arith

pub returns-then-is_empty-clause-is : goal.returns-then-is_empty-clause-is
returns-then-is_empty-clause-is c = empty c.args.count c.args.name.now c.requires (grind (arith, common_steps))

pub returns-clause-is : goal.returns-clause-is
unfolding chain_of
returns-clause-is c = grind (arith, common_steps)
