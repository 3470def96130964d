-- How the type of the code shows a module that was found.
use Rattle.std.specs.Prelude.{string_bytes}
use Rattle.lookup.specs.Located.{LocatedModule}
use Rattle.lookup.specs.declared.located.Found.{Found}

-- its full name, and the path of its file
abbrev pub located_module_view : Found → LocatedModule
located_module_view found = record { name = string_bytes found.name; path = string_bytes found.path }
