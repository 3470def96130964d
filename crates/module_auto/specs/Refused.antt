-- With which names an automated load or unload ends that is refused (own).
use Rattle.std.specs.Prelude.{◌≡◌, ◌⊎◌, List, [], ◌∷◌, ◌++◌}
use Rattle.envvars.specs.Texts.{Text}
use Rattle.envvars.specs.Environment.{Environment}
use Rattle.requests.specs.Steps.{RequestContext}
use Rattle.module_auto.specs.Loads.{Completes}
use Rattle.module_auto.specs.Unloads.{StillNeed, in_front}

-- the first of names that complete those asked for
abbrev pub BeginsLoad : RequestContext → Environment → List Text → List Text → Type 0
BeginsLoad s e asked names = (added : List Text) × (rest : List Text) × Completes s e asked added (names ++ rest)

-- the same names, or another one in the place of the last
abbrev pub IsInPlace : List Text → List Text → Type 0
IsInPlace names others =
    (others ≡ names)
    ⊎ ((front : List Text) × (name : Text) × (lacked : Text) × (names ≡ front ++ name ∷ [])
    × (others ≡ front ++ lacked ∷ []))

-- The first of names that complete those asked for; or what the last of them lacks, in its place.
abbrev pub EndsLoad : RequestContext → Environment → List Text → List Text → Type 0
EndsLoad s e asked names = (tried : List Text) × BeginsLoad s e asked tried × IsInPlace tried names

-- Those asked for, behind others of which each still needed the ones behind it.
abbrev pub EndsUnload : RequestContext → Environment → List Text → List Text → Type 0
EndsUnload s e asked names =
    (added : List Text) × StillNeed s e asked added × (names ≡ in_front added asked)
