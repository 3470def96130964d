-- Names of one part, as entries of folders have them.
use Rattle.std.specs.Prelude.{Bool, not, ◌==◌}
use Rattle.std.specs.List.{list_any}
use Rattle.modulename.specs.ModuleName.{Text, slash}

-- the name has no `/`
abbrev pub is_single : Text → Bool
is_single name = not (list_any (λ b. b == slash) name)
