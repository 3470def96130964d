-- The elements of a text, or its fault, as a function that computes. By the law `list_of_grammar` it agrees with the
-- grammar.
use Rattle.std.specs.Prelude.{ℕ, zero, suc, List, [], ◌∷◌, ◌++◌, length, map, Bool, true, false, ◌==◌, if◌then◌else◌}
use Rattle.std.specs.Prelude.{Option, Some, None, Result, Ok, Err, string_bytes}
use Rattle.std.specs.declared.vec.Vec.{Vec}
use Rattle.std.specs.declared.string.String.{String}
use Rattle.std.specs.declared.alloc.Global.{Global}
use Rattle.tcltext.specs.chars.Bytes.{backslash, is_space, quote, left_brace}
use Rattle.tcltext.specs.chars.Runs.{Text, drop_while}
use Rattle.tcltext.specs.chars.Backslash.{after_backslash}
use Rattle.tcltext.specs.chars.Braces.{braced_at}
use Rattle.tcltext.specs.chars.Whole.{whole_of, Reads}
use Rattle.tcltext.specs.chars.Reading.{◌>>=◌, Read, read_map, items_at}
use Rattle.tcltext.specs.declared.chars.fault.Fault.{Fault}
use Rattle.tcltext.specs.declared.chars.fault.Fault.TheVariants as marks
use Rattle.tcltext.specs.declared.chars.fault.TextFault.{TextFault}
use Rattle.tcltext.specs.list.ListGrammar.{is_quote}

-- what a backslash gives, by what it stands for, and then more
abbrev pub escaped_at : (Text → Read Text) → Text → Option (Text × Text) → Read Text
escaped_at more bs (Some s) = read_map (λ t. s.0 ++ t) (more s.1)
escaped_at more [] None = Ok (backslash ∷ [], [])
escaped_at more (b ∷ bs) None = Err (marks.BadCharacter (suc (suc (length bs))))

-- The value of an element up to its end, or up to the end of the text. The number bounds the turns: one more than the
-- length is enough.
abbrev pub piece_on : (ℕ → Bool) → (Text → Read Text) → Text → Read Text
piece_on ends more [] = Ok ([], [])
piece_on ends more (b ∷ bs) =
    if ends b then Ok ([], b ∷ bs)
    else if b == backslash then escaped_at more bs (after_backslash bs)
    else read_map (λ t. b ∷ t) (more bs)

unfoldable pub piece_at : (ℕ → Bool) → ℕ → Text → Read Text
piece_at ends zero bs = Err marks.TooDeep
piece_at ends (suc n) bs = piece_on ends (piece_at ends n) bs

unfoldable pub piece_of : (ℕ → Bool) → Text → Read Text
piece_of ends bs = piece_at ends (suc (length bs)) bs

-- after an element there is white space or the end of the text
abbrev pub element_end : Text → Result Text Fault
element_end [] = Ok []
element_end (b ∷ bs) = if is_space b then Ok (b ∷ bs) else Err (marks.JoinedToClose (suc (length bs)))

-- the element and the rest, where the element ends there
abbrev pub separated : Text → Text → Read Text
separated e rest = element_end rest >>= (λ r. Ok (e, r))

-- an element in braces, by the text that they enclose
abbrev pub element_in_braces : ℕ → Option (Text × Text) → Read Text
element_in_braces remaining None = Err (marks.OpenBrace remaining)
element_in_braces remaining (Some p) = separated p.0 p.1

-- an element in quotes, by its value and the rest from the closing quote on
abbrev pub element_in_quotes : ℕ → Text → Text → Read Text
element_in_quotes remaining e [] = Err (marks.OpenQuote remaining)
element_in_quotes remaining e (b ∷ rest) = if b == quote then separated e rest else Err (marks.OpenQuote remaining)

-- an element in quotes, after the opening quote
abbrev pub quoted_at : Text → Read Text
quoted_at bs = piece_of is_quote bs >>= (λ p. element_in_quotes (suc (length bs)) p.0 p.1)

-- the element that the text begins with
unfoldable pub element_at : Text → Read Text
element_at [] = Ok ([], [])
element_at (b ∷ bs) =
    if b == left_brace then element_in_braces (suc (length bs)) (braced_at false 0 bs)
    else if b == quote then quoted_at bs
    else piece_of is_space (b ∷ bs)

-- the text is empty
abbrev pub text_ends : Text → Bool
text_ends [] = true
text_ends (b ∷ bs) = false

-- the elements of a text of any length
unfoldable pub list_at : Text → Result (List Text) Fault
list_at bs = items_at (drop_while is_space) text_ends element_at (suc (length bs)) bs >>= (λ x. Ok x.0)

-- the elements of a text within the limit of length, or its fault
unfoldable pub list_of : Text → Result (List Text) TextFault
list_of bs = whole_of list_at bs

-- the elements or the fault that a call answers are these, unless memory ran out
abbrev pub ReadsList : Result (Vec (String Global) Global) TextFault → Result (List Text) TextFault → Type 0
ReadsList result read = Reads (λ (es : Vec (String Global) Global). map string_bytes es.items) result read
