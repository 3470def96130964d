-- Reports as bytes (own). A colour is an escape sequence that ends with `m` (ECMA-48, SGR).
use Rattle.std.specs.Prelude.{ℕ, ◌==◌, nat_lt, List, [], ◌∷◌, ◌++◌, filter, length, if◌then◌else◌}
use Rattle.std.specs.List.{after_first, flat_map, slice_split}
use Rattle.std.specs.Str.{is_utf8}
use Rattle.terminal.specs.text.Shown.{Text, shown_lines}

-- what stands for a byte of a text that isn't UTF-8: itself, if it is ASCII, else a question mark
abbrev pub character_of : ℕ → Text
character_of b = if nat_lt b 128 then b ∷ [] else 63 ∷ []

-- what a terminal shows of bytes
abbrev pub shown_bytes : Text → Text
shown_bytes bytes = if is_utf8 bytes then shown_lines bytes else shown_lines (flat_map character_of bytes)

-- how many lines are ended
abbrev pub line_count : Text → ℕ
line_count text = length (filter (λ b. b == 10) text)

-- what is behind the first `m`
abbrev pub behind_colour : Text → Text
behind_colour text = after_first (λ b. b == 109) text

-- the first part, and what is behind the colours of the others
abbrev pub plain_parts : List Text → Text
plain_parts [] = []
plain_parts (part ∷ parts) = part ++ flat_map behind_colour parts

-- A text without colours: each reaches from an escape to the next `m`.
abbrev pub without_colours : Text → Text
without_colours text = plain_parts (slice_split (λ b. b == 27) text)
