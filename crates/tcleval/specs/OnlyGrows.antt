-- How the state of an evaluation may change (own): the count of commands doesn't fall, and the cache only gains texts.
use Rattle.std.specs.Prelude.{◌≤◌}
use Rattle.tcleval.specs.cache.Kept.{BeginWith}
use Rattle.tcleval.specs.declared.evaluator.Evaluator.{Evaluator}

pub record OnlyGrows (old new : Evaluator) : Type 0 where
  pub rises : old.used ≤ new.used
  pub begins : BeginWith old.cache new.cache
