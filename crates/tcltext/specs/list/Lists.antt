-- The text that is written for a list of elements (own in its choice of spelling; it is read as list(n) says).
use Rattle.std.specs.Prelude.{ℕ, zero, suc, List, [], ◌∷◌, ◌++◌, Bool, false, not, ◌||◌, ◌&&◌, ◌==◌, if◌then◌else◌}
use Rattle.std.specs.Prelude.{Option, Some, None, flat_map}
use Rattle.std.specs.List.{list_all}
use Rattle.tcltext.specs.chars.Bytes.{is_gap, is_special, is_literal, backslash, hash, space, tab, newline, vertical_tab}
use Rattle.tcltext.specs.chars.Bytes.{form_feed, carriage_return, left_brace, right_brace}
use Rattle.tcltext.specs.chars.Runs.{Text}

-- what has a meaning in a list or a script: white space, " $ ; [ ] { } \
abbrev pub needs_escape : ℕ → Bool
needs_escape b = is_gap b || is_special b

abbrev pub begins_needing_escape : Text → Bool
begins_needing_escape [] = false
begins_needing_escape (b ∷ bs) = needs_escape b

abbrev pub begins_bare : Text → Bool
begins_bare [] = false
begins_bare (b ∷ bs) = not (b == hash)

-- an element that is written as it is
abbrev pub is_bare : Text → Bool
is_bare e = begins_bare e && list_all is_literal e

-- how many braces are open after a closing one; None where none was
abbrev pub closed_one : ℕ → Option ℕ
closed_one zero = None
closed_one (suc depth) = Some depth

-- how many braces are open after a byte; None where it is a backslash, or closes one more than are open
abbrev pub depth_after : ℕ → ℕ → Option ℕ
depth_after depth b =
    if b == backslash then None
    else if b == left_brace then Some (suc depth)
    else if b == right_brace then closed_one depth
    else Some depth

-- there is such a depth, and more holds of it
abbrev pub holds_of_depth : (ℕ → Bool) → Option ℕ → Bool
holds_of_depth more None = false
holds_of_depth more (Some depth) = more depth

-- An element that may be written in braces, where so many are open before it: it has no backslash, no prefix of it
-- closes more than are open, and the whole leaves none open.
abbrev pub balances : ℕ → Text → Bool
balances depth [] = depth == 0
balances depth (b ∷ bs) = holds_of_depth (λ d. balances d bs) (depth_after depth b)

-- what is written after a backslash for a byte with a meaning: a letter for newline, tab, carriage return, vertical tab
-- and form feed, else the byte
abbrev pub letter_of : ℕ → ℕ
letter_of b =
    if b == newline then 110
    else if b == tab then 116
    else if b == carriage_return then 114
    else if b == vertical_tab then 118
    else if b == form_feed then 102 else b

-- a byte, after a backslash where it has a meaning
abbrev pub escape : ℕ → Text
escape b = if needs_escape b then backslash ∷ (letter_of b ∷ []) else b ∷ []

-- an element with backslashes; a # at its beginning has one too
abbrev pub escaped : Text → Text
escaped [] = []
escaped (b ∷ bs) = if b == hash then backslash ∷ (hash ∷ flat_map escape bs) else flat_map escape (b ∷ bs)

-- an element in braces
abbrev pub braced : Text → Text
braced e = left_brace ∷ (e ++ right_brace ∷ [])

-- the text of an element
abbrev pub element_text : Text → Text
element_text e = if is_bare e then e else if balances 0 e then braced e else escaped e

-- the texts of elements after the first, each after a space
abbrev pub list_rest : List Text → Text
list_rest [] = []
list_rest (e ∷ es) = space ∷ (element_text e ++ list_rest es)

-- the texts of the elements, with one space between them
abbrev pub list_text : List Text → Text
list_text [] = []
list_text (e ∷ es) = element_text e ++ list_rest es
