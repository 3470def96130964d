-- Which command of a file an evaluation stood at, by the scripts under evaluation. The text of a script is looked for in
-- the file, since a value doesn't say where it comes from. Own.
use Rattle.std.specs.Prelude.{ℕ, zero, suc, ◌-◌, ◌==◌, List, [], ◌∷◌, Bool, true, false, if◌then◌else◌, length, drop}
use Rattle.std.specs.Prelude.{reverse, Option, Some, None, option_map, bytes_eq}
use Rattle.std.specs.Option.{option_or}
use Rattle.tcltext.specs.chars.Runs.{Text, begins, drop_while}
use Rattle.tcltext.specs.chars.Bytes.{backslash, newline, left_brace}
use Rattle.tcltext.specs.chars.Backslash.{is_blank_or_tab}
use Rattle.tcltext.specs.chars.Braces.{braced_at}
use Rattle.tcltext.specs.chars.BracedText.{braced_text}
use Rattle.tclrules.specs.Derivation.{OpenScript}
use Rattle.tclrules.specs.Meaning.{line_at}
use Rattle.tclrules.specs.declared.outcome.FaultPlace.{FaultPlace}

-- What is left of a text in braces behind so many bytes of its value. A backslash, a newline and the blanks after them
-- are one byte of the value; the flag says that a backslash stands before.
abbrev pub behind_value : Bool → ℕ → Text → Text
behind_value escaped zero bs = bs
behind_value escaped (suc n) [] = []
behind_value true (suc n) (b ∷ bs) = behind_value false n bs
behind_value false (suc n) (b ∷ bs) =
    if b == backslash then
    (if begins newline bs then behind_value false n (drop_while is_blank_or_tab (drop 1 bs)) else behind_value true n bs)
    else behind_value false n bs

-- the offset of the current command of a script in the braces that a text follows, where what is in them has the value
-- that the script is
abbrev pub offset_inside : OpenScript → Option (Text × Text) → Option ℕ
offset_inside s None = None
offset_inside s (Some (inside, after)) = if bytes_eq (braced_text inside) s.text then Some
    (length inside - length (behind_value false s.offset inside))
    else None

-- the offset of the current command of a script in a text: in the first such braces that open at this offset or behind
abbrev pub offset_from : OpenScript → ℕ → Text → Option ℕ
offset_from s from [] = None
offset_from s (suc from) (b ∷ bs) = option_map suc (offset_from s from bs)
offset_from s zero (b ∷ bs) = option_map suc (if b == left_brace then
    option_or (offset_inside s (braced_at false 0 bs)) (offset_from s 0 bs)
    else offset_from s 0 bs)

-- the offset of the current command of a script in a file: behind a command at this offset, or else anywhere
abbrev pub offset_in_file : Text → ℕ → OpenScript → Option ℕ
offset_in_file file at s = option_or (offset_from s at file) (offset_from s 0 file)

-- the innermost command that is found: from a command of the file at this offset inwards, as long as the text of the
-- next script is found
abbrev pub innermost_from : Text → ℕ → List OpenScript → ℕ
innermost_from file at [] = at
innermost_from file at (s ∷ scripts) = elim (offset_in_file file at s) as (λ _. ℕ)
    [ Some offset ↦ innermost_from file offset scripts | None ↦ at ]

-- the place in a file of the commands at these offsets
abbrev pub placed : Text → (outermost innermost : ℕ) → FaultPlace
placed file outermost innermost =
    record { outermost = outermost; innermost = innermost; line = line_at file innermost }

-- where an evaluation of a file stood within these scripts, the outermost first, which is the file itself
abbrev pub place_within : Text → List OpenScript → Option FaultPlace
place_within file [] = None
place_within file (s ∷ scripts) = Some (placed file s.offset (innermost_from file s.offset scripts))

-- where an evaluation of a file stood within these scripts, the innermost first
abbrev pub place_of : Text → List OpenScript → Option FaultPlace
place_of file scripts = place_within file (reverse scripts)
