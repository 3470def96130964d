-- Where `forget` looks (own): at the recorded paths of loaded modules. No failure of the device at another path can refuse
-- it.
use Rattle.std.specs.Prelude.{◌≡◌, true, List, map, Some}
use Rattle.envvars.specs.Texts.{Text, has}
use Rattle.envvars.specs.Environment.{Environment}
use Rattle.envstate.specs.loaded_list.Loaded.{Entry, loaded_in}

-- the path is recorded of a loaded module
abbrev pub IsRecorded : Environment → Text → Type 0
IsRecorded e at =
    (entries : List Entry) × (loaded_in e ≡ Some entries) × (has at (map (λ x. x.path) entries) ≡ true)
