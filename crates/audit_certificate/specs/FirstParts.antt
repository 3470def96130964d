-- The first parts of modules' names, by which a `conflict` means all versions at once (own).
use Rattle.std.specs.Prelude.{◌==◌}
use Rattle.std.specs.List.{before_first}
use Rattle.modulename.specs.ModuleName.{slash}
use Rattle.envvars.specs.Texts.{Text}

-- the first part of a name, or the whole name where it has one part
abbrev pub first_part : Text → Text
first_part name = before_first (λ b. b == slash) name
