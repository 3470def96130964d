-- What the cache of the program stands for, and the invariant of its type.
use Rattle.tcleval.specs.cache.Kept.{Kept, IsValidKept}
use Rattle.tcleval.specs.declared.cache.kept.Kept.TheInside.{Inside}

abbrev pub cache_view : Inside → Kept
cache_view k = record { scripts = k.scripts; expressions = k.expressions }

abbrev pub IsSound : Inside → Type 0
IsSound k = IsValidKept (cache_view k)
