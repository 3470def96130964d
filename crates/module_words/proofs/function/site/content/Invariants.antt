use Rattle.std.proofs.Common.{◌≡◌, ◌++◌, length, vec_items}
use Rattle.module_words.specs.function.Sites.{content}
use Rattle.module_words.proofs.function.site.content.Given as goal

abbrev pub invariant-loop-rest : goal.invariant-loop-rest
invariant-loop-rest l = vec_items l.kept ++ content l.rest ≡ content l.text

abbrev pub decreases-loop-rest : goal.decreases-loop-rest
decreases-loop-rest l = length l.rest
