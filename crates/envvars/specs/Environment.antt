-- The environment (environ(7)): a finite map from names to texts, with the names in the order of their bytes.
use Rattle.std.specs.Prelude.{Option, Some, None}
use Rattle.std.specs.Ordering.{nat_cmp}
use Rattle.std.specs.Cmp.Lexicographic.{slice_cmp}
use Rattle.std.specs.FinMap as finite
use Rattle.std.specs.FinMap.{FinMap}
use Rattle.std.specs.Coded.{Coded, coded_list, coded_ℕ}
use Rattle.envvars.specs.Texts.{Text}

-- a finite map from names to texts
abbrev pub Environment : Type 0
Environment = FinMap (slice_cmp nat_cmp) Text

-- environments are coded by their entries
abbrev pub environment_code : Coded Environment
environment_code = finite.code (coded_list coded_ℕ) (coded_list coded_ℕ)

-- the value of a variable, none where it is unset
abbrev pub lookup : Environment → Text → Option Text
lookup e name = finite.get e name

-- the environment with the name set or unset
abbrev pub with_value : Environment → Text → Option Text → Environment
with_value e name None = finite.remove e name
with_value e name (Some value) = finite.insert e name value
