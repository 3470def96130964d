-- Which names the texts of a report mean (module(1), avail).
use Rattle.std.specs.Prelude.{ℕ, Bool, true, false, not, ◌&&◌, ◌||◌, ◌==◌, List, [], ◌∷◌, if◌then◌else◌}
use Rattle.std.specs.Char.{to_ascii_lowercase}
use Rattle.std.specs.List.{list_any}
use Rattle.message.specs.Messages.{Text}
use Rattle.module_reports.specs.declared.listings.options.Options.{Options}

-- two letters are the same, or where case doesn't count, small letters and capitals
abbrev pub is_same_letter : Bool → ℕ → ℕ → Bool
is_same_letter true left right = to_ascii_lowercase left == to_ascii_lowercase right
is_same_letter false left right = left == right

-- the text stands at the front of the name
abbrev pub stands_in_front : Bool → Text → Text → Bool
stands_in_front any_case name [] = true
stands_in_front any_case [] (wanted ∷ text) = false
stands_in_front any_case (letter ∷ name) (wanted ∷ text) =
    is_same_letter any_case letter wanted && stands_in_front any_case name text

-- the text stands anywhere in the name
abbrev pub stands_within : Bool → Text → Text → Bool
stands_within any_case [] text = stands_in_front any_case [] text
stands_within any_case (letter ∷ name) text =
    stands_in_front any_case (letter ∷ name) text || stands_within any_case name text

-- the text fits the name: it stands at its front, or anywhere in it where that is asked for
abbrev pub fits : Options → Text → Text → Bool
fits o name text =
    if o.within then stands_within o.any_case name text else stands_in_front o.any_case name text

-- one of the texts fits the name, or there are none
abbrev pub is_meant : Options → List Text → Text → Bool
is_meant o [] name = true
is_meant o (text ∷ texts) name = list_any (fits o name) (text ∷ texts)

-- the texts are beginnings of names, letter by letter
abbrev pub are_beginnings : Options → Bool
are_beginnings o = not o.within && not o.any_case

-- the texts by which a search selects: those, where they are such beginnings, and else none, which selects all
abbrev pub searched_texts : Options → List Text → List Text
searched_texts o texts = if are_beginnings o then texts else []
