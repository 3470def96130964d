use Rattle.std.proofs.Common.{inr}
use Rattle.std.proofs.Math.Logic.{∥∥₁_map}
use Rattle.filetree.proofs.disk.DiskTree.load_start.Goals as goal

pub returns-then-is_hidden_and_absent : goal.returns-then-is_hidden_and_absent
returns-then-is_hidden_and_absent g c = ∥∥₁_map (c.is_hidden_and_absent.ensures c.if-is_hidden_and_absent.true) (λ h. inr h)
