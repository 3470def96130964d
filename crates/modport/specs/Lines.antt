-- The report (own): lines on a file, for people, or each a JSON object (RFC 8259).
use Rattle.std.specs.Prelude.{ℕ, List, [], ◌∷◌, ◌++◌, Bool, codes, decimal, flat_map, if◌then◌else◌, string_bytes, Option, Some, None}
use Rattle.json.specs.Print.{print}
use Rattle.json.specs.Token.{Token, begin_object, end_object, key, string, number}
use Rattle.tcltext.specs.chars.Bytes.{newline}
use Rattle.tcltext.specs.chars.Runs.{Text}
use Rattle.port_rewriting.specs.declared.class.Outcome.{Outcome}
use Rattle.port_rewriting.specs.declared.class.Outcome.TheVariants.{Translated, Changed, Computed, Flattened, Added, Default, Left}

-- what is said of a part of a file, or, without a place, of the whole: which it is, and what became of it; a place is a
-- line of the file, from 1
pub record Line : Type 0 where
  pub place : Option ℕ
  pub what : Text
  pub outcome : Outcome

abbrev pub word_of : Outcome → Text
word_of Translated = codes "translated"
word_of (Changed case) = codes "changed"
word_of (Computed text) = codes "computed"
word_of Flattened = codes "flattened"
word_of Added = codes "added"
word_of Default = codes "default"
word_of Left = codes "left out"

abbrev pub put_of : Outcome → Option Text
put_of (Changed case) = Some (string_bytes case)
put_of (Computed text) = Some (string_bytes text)
put_of Translated = None
put_of Flattened = None
put_of Added = None
put_of Default = None
put_of Left = None

-- For people

abbrev pub place_text : Option ℕ → Text
place_text None = []
place_text (Some line) = codes ":" ++ decimal line

abbrev pub put_text : Option Text → Text
put_text None = []
put_text (Some text) = codes ": " ++ text

-- `FATE: WHAT` or `FATE: WHAT: TEXT`
abbrev pub said_text : Line → Text
said_text l = word_of l.outcome ++ (codes ": " ++ (l.what ++ put_text (put_of l.outcome)))

-- `PATH:LINE: FATE: WHAT`, and so on
abbrev pub plain : Text → Line → Text
plain path l = path ++ (place_text l.place ++ (codes ": " ++ (said_text l ++ newline ∷ [])))

-- As JSON

-- a member that is a text
abbrev pub text_tokens : Text → Text → List Token
text_tokens name text = key name ∷ (string text ∷ [])

abbrev pub place_tokens : Option ℕ → List Token
place_tokens None = []
place_tokens (Some line) = key (codes "line") ∷ (number (decimal line) ∷ [])

abbrev pub put_tokens : Option Text → List Token
put_tokens None = []
put_tokens (Some text) = text_tokens (codes "text") text

abbrev pub members : Text → Line → List Token
members path l =
    text_tokens (codes "file") path
    ++ (place_tokens l.place
    ++ (text_tokens (codes "what") l.what ++ (text_tokens (codes "why") (word_of l.outcome) ++ put_tokens (put_of l.outcome))))

-- an object with `file`, `line`, `what`, `why` and `text`
abbrev pub as_json : Text → Line → Text
as_json path l = print (begin_object ∷ (members path l ++ end_object ∷ [])) ++ newline ∷ []

-- A report

abbrev pub shown : Bool → Text → Line → Text
shown json path l = if json then as_json path l else plain path l

-- the lines on the file of this path
abbrev pub report : Bool → Text → List Line → Text
report json path lines = flat_map (shown json path) lines
