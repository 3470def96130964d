use Rattle.std.proofs.Common.{◌≡◌, length}
use Rattle.module_words.specs.function.Sites.{unblanked}
use Rattle.module_words.proofs.function.site.unblanked.Given as goal

abbrev pub invariant-loop-rest : goal.invariant-loop-rest
invariant-loop-rest l = unblanked l.rest ≡ unblanked l.text

abbrev pub decreases-loop-rest : goal.decreases-loop-rest
decreases-loop-rest l = length l.rest
