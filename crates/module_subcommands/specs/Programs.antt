-- Which program a path calls (own): the file of `module` has the names of others too.
use Rattle.std.specs.Prelude.{Bool, ◌||◌, ◌∷◌, bytes_eq, codes, nat_eq, if◌then◌else◌}
use Rattle.std.specs.List.{ends_with}
use Rattle.message.specs.Messages.{Text}
use Rattle.module_subcommands.specs.declared.program.Program.{Program}
use Rattle.module_subcommands.specs.declared.program.Program.TheVariants.{Module, Modcheck, Modaudit, Modport}

-- the path is the name, or ends with it behind a slash
abbrev pub is_called : Text → Text → Bool
is_called path name = bytes_eq path name || ends_with nat_eq path (47 ∷ name)

-- The program of a path.
abbrev pub program_at : Text → Program
program_at path =
    if is_called path (codes "modcheck") then Modcheck
    else if is_called path (codes "modaudit") then Modaudit
    else if is_called path (codes "modport") then Modport
    else Module
