use Rattle.std.proofs.Common.{◌≡◌, false, take}
use Rattle.envvars.specs.Names.{stack_name}
use Rattle.envvars.specs.Texts.{Text, has, slice_texts, texts_in}
use Rattle.module_restore.proofs.forgetting.stacks.stacked_among.Given as goal

abbrev pub invariant-loop-name : goal.invariant-loop-name
invariant-loop-name l =
    (v : Text) → has v (texts_in l.variables) ≡ false → has (stack_name v) (slice_texts (take l.name-index l.names)) ≡ false
