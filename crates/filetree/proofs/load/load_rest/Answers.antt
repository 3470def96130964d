use Rattle.std.proofs.Math.Logic.{∥∥₁_map}
use Rattle.filetree.specs.declared.tree.TreeFault.TheVariants.{Device}
use Rattle.filetree.proofs.BegunFiles.{fault_of_there}
use Rattle.filetree.proofs.load.load_rest.Goals as goal

pub returns-then-has_same_prefix-clause-answered : goal.returns-then-has_same_prefix-clause-answered
returns-then-has_same_prefix-clause-answered g c = ∥∥₁_map c.in_ok-bytes.ensures.bytes (λ there. (c.requires.was, there))

pub returns-else-has_same_prefix-clause-answered : goal.returns-else-has_same_prefix-clause-answered
returns-else-has_same_prefix-clause-answered g c =
    ∥∥₁_map c.in_ok-bytes.ensures.bytes (fault_of_there (g.S.System.answers c.args.system.now) c.args.path.now c.in_ok-bytes.bytes.items Device c.requires.was)
