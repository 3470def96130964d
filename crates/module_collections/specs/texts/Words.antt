-- The words of a line of a collection, read byte by byte (own, within lists of Tcl as lindex(n) has them: what a script
-- would evaluate is refused).
use Rattle.std.specs.Prelude.{ℕ, ◌+◌, ◌-◌, ◌==◌, List, [], ◌∷◌, ◌++◌, Bool, true, false, ◌||◌, ◌&&◌, nat_le, nat_lt}
use Rattle.std.specs.Prelude.{if◌then◌else◌, Result, Ok, Err}
use Rattle.std.specs.Str.Lossy.{utf8_lossy}
use Rattle.envvars.specs.Texts.{Text}
use Rattle.module_collections.specs.declared.texts.words.Place.{Place}
use Rattle.module_collections.specs.declared.texts.words.Place.TheVariants.{Between, Bare, BareMarked, Quoted, QuotedMarked}
use Rattle.module_collections.specs.declared.texts.words.Place.TheVariants.{Braced, BehindQuote, BehindBrace}
use Rattle.module_collections.specs.declared.texts.words.WordFault.{WordFault}
use Rattle.module_collections.specs.declared.texts.words.WordFault.TheVariants as faults

-- a word, and whether it is written without quotes and braces
pub record Word : Type 0 where
  pub text : Text
  pub is_bare : Bool

-- How far a line is read: the words so far, the bytes so far of the one that is read, and where that is.
pub record Reading : Type 0 where
  pub words : List Word
  pub bytes : Text
  pub place : Place

abbrev pub is_blank : ℕ → Bool
is_blank b = b == 32 || b == 9

-- what ends a script's word or is evaluated in one: `$`, `;`, `[` and `]`
abbrev pub is_evaluated : ℕ → Bool
is_evaluated b = b == 36 || b == 59 || b == 91 || b == 93

-- a letter or a digit
abbrev pub is_alphanumeric : ℕ → Bool
is_alphanumeric b = (nat_le 65 b && nat_le b 90) || (nat_le 97 b && nat_le b 122) || (nat_le 48 b && nat_le b 57)

-- what a byte behind a backslash means: `n` a newline, and what is no letter or digit itself
abbrev pub marked : ℕ → Result ℕ WordFault
marked b = if b == 110 then Ok 10 else if is_alphanumeric b then Err faults.Backslash else Ok b

-- the reading at another place
abbrev pub at : Reading → Place → Reading
at r there = record r { place = there }

-- one more byte is the word's
abbrev pub taking : Reading → ℕ → Place → Reading
taking r b there = record { words = r.words; bytes = r.bytes ++ b ∷ []; place = there }

-- a word of these bytes; where they are no UTF-8, which those of a text are, U+FFFD stands for what is none
abbrev pub word_of : Text → Bool → Word
word_of spelled bare = record { text = utf8_lossy spelled; is_bare = bare }

-- the word ends
abbrev pub ending : Reading → Bool → Reading
ending r bare = record { words = r.words ++ word_of r.bytes bare ∷ []; bytes = []; place = Between }

-- a byte in a word without quotes
abbrev pub in_bare : Reading → ℕ → Result Reading WordFault
in_bare r b =
    if is_blank b then Ok (ending r true)
    else if b == 92 then Ok (at r BareMarked)
    else if is_evaluated b then Err (faults.Evaluated b)
    else Ok (taking r b Bare)

-- a byte between words
abbrev pub in_between : Reading → ℕ → Result Reading WordFault
in_between r b =
    if is_blank b then Ok r
    else if b == 123 then Ok (at r (Braced 1))
    else if b == 34 then Ok (at r Quoted)
    else in_bare r b

-- a byte in quotes
abbrev pub in_quotes : Reading → ℕ → Reading
in_quotes r b = if b == 34 then at r BehindQuote else if b == 92 then at r QuotedMarked else taking r b Quoted

-- a byte behind a backslash
abbrev pub behind_mark : Reading → Result ℕ WordFault → Place → Result Reading WordFault
behind_mark r (Err fault) there = Err fault
behind_mark r (Ok b) there = Ok (taking r b there)

-- a closing brace, where so many are open
abbrev pub closing : Reading → ℕ → Reading
closing r depth = if nat_lt depth 2 then at r BehindBrace else taking r 125 (Braced (depth - 1))

-- a byte in so many braces
abbrev pub in_braces : Reading → ℕ → ℕ → Result Reading WordFault
in_braces r depth b =
    if b == 92 then Err faults.Braces
    else if b == 123 then Ok (taking r b (Braced (depth + 1)))
    else if b == 125 then Ok (closing r depth)
    else Ok (taking r b (Braced depth))

-- a byte behind a closing quote or brace
abbrev pub behind_close : Reading → WordFault → ℕ → Result Reading WordFault
behind_close r fault b = if is_blank b then Ok (ending r false) else Err fault

-- one more byte
abbrev pub step_at : Place → Reading → ℕ → Result Reading WordFault
step_at Between r b = in_between r b
step_at Bare r b = in_bare r b
step_at BareMarked r b = behind_mark r (marked b) Bare
step_at Quoted r b = Ok (in_quotes r b)
step_at QuotedMarked r b = behind_mark r (marked b) Quoted
step_at (Braced depth) r b = in_braces r depth b
step_at BehindQuote r b = behind_close r faults.JoinedToQuote b
step_at BehindBrace r b = behind_close r faults.Braces b

-- the end of the line
abbrev pub end_at : Place → Reading → Result (List Word) WordFault
end_at Between r = Ok r.words
end_at Bare r = Ok (ending r true).words
end_at BareMarked r = Err faults.Backslash
end_at Quoted r = Err faults.OpenQuote
end_at QuotedMarked r = Err faults.OpenQuote
end_at (Braced depth) r = Err faults.Braces
end_at BehindQuote r = Ok (ending r false).words
end_at BehindBrace r = Ok (ending r false).words

-- the words from here on: the next byte, and then the others
abbrev pub words_on : (Reading → Result (List Word) WordFault) → Result Reading WordFault
    → Result (List Word) WordFault
words_on more (Err fault) = Err fault
words_on more (Ok r) = more r

abbrev pub words_from : Text → Reading → Result (List Word) WordFault
words_from [] r = end_at r.place r
words_from (b ∷ bs) r = words_on (λ s. words_from bs s) (step_at r.place r b)

-- before a line
abbrev pub beginning : Reading
beginning = record { words = []; bytes = []; place = Between }

-- the words of a text, or what is wrong with it
abbrev pub words_of : Text → Result (List Word) WordFault
words_of text = words_from text beginning
