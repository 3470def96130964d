-- The names that a module is in conflict with, as the code has them (own).
use Rattle.std.specs.Prelude.{Bool, bytes_eq}
use Rattle.std.specs.Borrow.{Bor}
use Rattle.envvars.specs.Texts.{Text}
use Rattle.indexmap.specs.IndexSet.{IndexSet, contains_by}

-- whether a set of names has this one
abbrev pub has_name : {S : Type 0} → IndexSet (Bor Text) S → Text → Bool
has_name names name = contains_by (λ k. bytes_eq name k.now) names
