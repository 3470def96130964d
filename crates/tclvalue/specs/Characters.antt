-- Texts as lists of characters: trimmed, split and joined (string(n), split(n), join(n), concat(n)).
use Rattle.std.specs.Prelude.{ℕ, ◌==◌, List, [], ◌∷◌, ◌++◌, length, Bool, if◌then◌else◌, codes, map, filter, not}
use Rattle.std.specs.List.{list_any, slice_split}
use Rattle.std.specs.Str.{chars, encode_utf8_all}
use Rattle.tcltext.specs.chars.Bytes.{newline}
use Rattle.tcltext.specs.chars.Runs.{Text}
use Rattle.tclvalue.specs.operators.Operators.{is_nil}
use Rattle.tclvalue.specs.Indexes.{Index, position, items_between}

-- a character is one of a set
abbrev pub is_among : Text → ℕ → Bool
is_among set c = list_any (λ d. d == c) set

-- without the characters of a set at the start, and at the end
abbrev pub without_start : Text → Text → Text
without_start set [] = []
without_start set (c ∷ cs) = if is_among set c then without_start set cs else c ∷ cs

-- a character and what is left of those after it; the last is dropped where it is one of the set
abbrev pub trim_last : Text → ℕ → Text → Text
trim_last set c [] = if is_among set c then [] else c ∷ []
trim_last set c (d ∷ ds) = c ∷ (d ∷ ds)

abbrev pub without_end : Text → Text → Text
without_end set [] = []
without_end set (c ∷ cs) = trim_last set c (without_end set cs)

-- the runs of characters between those of a set (split(n)); without a set each character, and of no text none
abbrev pub pieces : Text → Text → List Text
pieces set [] = []
pieces [] (c ∷ cs) = map (λ d. d ∷ []) (c ∷ cs)
pieces (s ∷ set) (c ∷ cs) = slice_split (is_among (s ∷ set)) (c ∷ cs)

-- texts with a separator before each, and between them (join(n))
abbrev pub joined_rest : Text → List Text → Text
joined_rest separator [] = []
joined_rest separator (t ∷ ts) = separator ++ (t ++ joined_rest separator ts)

abbrev pub joined : Text → List Text → Text
joined separator [] = []
joined separator (t ∷ ts) = t ++ joined_rest separator ts

-- the texts of runs of characters
abbrev pub encoded_all : List Text → List Text
encoded_all character_runs = map encode_utf8_all character_runs

-- the text without the characters of a set at both its ends, at the start alone, and at the end alone
abbrev pub trimmed : Text → Text → Text
trimmed set t = encode_utf8_all (without_end (chars set) (without_start (chars set) (chars t)))

abbrev pub trimmed_left : Text → Text → Text
trimmed_left set t = encode_utf8_all (without_start (chars set) (chars t))

abbrev pub trimmed_right : Text → Text → Text
trimmed_right set t = encode_utf8_all (without_end (chars set) (chars t))

-- the characters of a text from one index to another, both included, as far as there are such characters
abbrev pub characters_between : Index → Index → Text → Text
characters_between i j t =
    encode_utf8_all (items_between (position (length (chars t)) i) (position (length (chars t)) j) (chars t))

-- the parts of a text between the characters of a set, as texts
abbrev pub parts : Text → Text → List Text
parts set t = encoded_all (pieces (chars set) (chars t))

-- the characters of white space
abbrev pub space : ℕ
space = 32

abbrev pub tab : ℕ
tab = 9

abbrev pub vertical_tab : ℕ
vertical_tab = 11

abbrev pub form_feed : ℕ
form_feed = 12

abbrev pub carriage_return : ℕ
carriage_return = 13

-- what string(n) trims by itself
unfoldable pub white_space : Text
white_space = space ∷ tab ∷ newline ∷ vertical_tab ∷ form_feed ∷ carriage_return ∷ []

-- what split(n) splits at by itself
unfoldable pub split_space : Text
split_space = space ∷ newline ∷ tab ∷ carriage_return ∷ []

-- texts, each without the white space around it and those of white space alone dropped, joined by a space (concat(n))
abbrev pub concatenated : List Text → Text
concatenated ts = joined (codes " ") (filter (λ t. not (is_nil t)) (map (trimmed white_space) ts))
