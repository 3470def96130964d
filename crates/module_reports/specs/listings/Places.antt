-- On which terminal a report is shown that goes to a place (module(1), ENVIRONMENT).
use Rattle.std.specs.Prelude.{ℕ, Bool, true, false, ◌&&◌, min, Option, Some, None}
use Rattle.module_words.specs.protocol.Paging.{Values, has_colours}
use Rattle.module_words.specs.declared.protocol.asker.Asker.{Asker}
use Rattle.module_words.specs.declared.protocol.asker.Asker.TheVariants as askers
use Rattle.module_words.specs.declared.protocol.asker.Screen.{Screen}
use Rattle.module_words.specs.declared.protocol.place.Place.{Place}
use Rattle.module_words.specs.declared.protocol.place.Place.TheVariants as places
use Rattle.module_reports.specs.declared.listings.layout.Terminal.{Terminal}

-- as many columns as are known, or 80
abbrev pub width_of : Option Screen → ℕ
width_of (Some screen) = min screen.columns 65535
width_of None = 80

-- a script sees no colours
abbrev pub is_function : Asker → Bool
is_function askers.Script = false
is_function other = true

-- The terminal on which a report is shown, if it goes to one.
abbrev pub terminal_at : Asker → Values → Place → Option Terminal
terminal_at asker value (places.Terminal screen) =
    Some (record { width = width_of screen; coloured = is_function asker && has_colours value })
terminal_at asker value other = None
