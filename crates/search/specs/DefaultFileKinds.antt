-- The two default files of a folder, with one definition for both as the code has it.
use Rattle.std.specs.Prelude.{codes}
use Rattle.modulename.specs.ModuleName.{Text}
use Rattle.search.specs.DefaultVersions.{VersionIn, by_command, by_variable}
use Rattle.search.specs.declared.version_named.DefaultFile.{DefaultFile}
use Rattle.search.specs.declared.version_named.DefaultFile.TheVariants.{Modulerc, Version}

-- the name of a default file in its folder
abbrev pub file_name : DefaultFile → Text
file_name Modulerc = codes ".modulerc"
file_name Version = codes ".version"

-- how the result of its evaluation names a version
abbrev pub says : DefaultFile → Text → VersionIn
says Modulerc name = by_command name
says Version name = by_variable
