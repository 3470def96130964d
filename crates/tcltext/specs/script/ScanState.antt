-- What is skipped or taken byte by byte (Tcl(n), rules 3, 8 and 10): blanks, gaps between commands with their comments,
-- and names of variables.
use Rattle.std.specs.Prelude.{ℕ, [], ◌∷◌, Bool, false, ◌||◌, ◌&&◌, ◌==◌, if◌then◌else◌, Option, Some, None}
use Rattle.tcltext.specs.chars.Bytes.{newline, hash, colon, backslash, is_blank, is_gap}
use Rattle.tcltext.specs.chars.Classes.{is_name}
use Rattle.tcltext.specs.chars.Runs.{Text, begins}

-- what is being skipped or taken, and what the last byte was: blanks between words, and there a backslash before its
-- newline; a gap between commands; a comment, and there a backslash, which takes the next byte with it; the name of a
-- variable, and there the first of several colons
pub data ScanState : Type 0 where
  Blanks : ScanState
  AwaitsNewline : ScanState
  Gap : ScanState
  Comment : ScanState
  Escaped : ScanState
  Name : ScanState
  Colons : ScanState

-- between the words of a command: blanks, and backslashes before newlines
abbrev pub step_blanks : ℕ → Text → Option ScanState
step_blanks b after =
    if is_blank b then Some Blanks else if b == backslash && begins newline after then Some AwaitsNewline else None

-- after a backslash, the newline that it joins
abbrev pub step_newline : ℕ → Option ScanState
step_newline b = if b == newline then Some Blanks else None

-- between commands: white space, semicolons, backslashes before newlines, and comments
abbrev pub step_gap : ℕ → Text → Option ScanState
step_gap b after =
    if is_gap b || (b == backslash && begins newline after) then Some Gap else if b == hash then Some Comment else None

-- a comment ends at a newline; a backslash takes the next byte with it
abbrev pub step_comment : ℕ → ScanState
step_comment b = if b == newline then Gap else if b == backslash then Escaped else Comment

-- letters, digits, underscores, and runs of two or more colons
abbrev pub step_name : ℕ → Text → Option ScanState
step_name b after =
    if is_name b then Some Name else if b == colon && begins colon after then Some Colons else None

-- the same after a colon of such a run
abbrev pub step_colons : ℕ → Option ScanState
step_colons b = if is_name b then Some Name else if b == colon then Some Colons else None

-- the state after a byte that others follow; None where the scan ends before it
abbrev pub step : ScanState → ℕ → Text → Option ScanState
step Blanks b after = step_blanks b after
step AwaitsNewline b after = step_newline b
step Gap b after = step_gap b after
step Comment b after = Some (step_comment b)
step Escaped b after = Some Comment
step Name b after = step_name b after
step Colons b after = step_colons b

-- the byte as the first of those that are taken
abbrev pub put_before : ℕ → Text × Text → Text × Text
put_before b p = (b ∷ p.0, p.1)

-- what is taken from a byte on, by the state after it
abbrev pub scan_on : ℕ → Text → (ScanState → Text × Text) → Option ScanState → Text × Text
scan_on b bs more None = ([], b ∷ bs)
scan_on b bs more (Some next) = put_before b (more next)

-- the bytes that a scan from a state takes, and the rest
unfoldable pub scan : ScanState → Text → Text × Text
scan state [] = ([], [])
scan state (b ∷ bs) = scan_on b bs (λ next. scan next bs) (step state b bs)

-- the text without the blanks that it begins with
abbrev pub skip_blanks : Text → Text
skip_blanks bs = (scan Blanks bs).1

-- the text without the gap that it begins with
abbrev pub skip_gap : Text → Text
skip_gap bs = (scan Gap bs).1

-- the text begins with a backslash before a newline
abbrev pub joins_lines : Text → Bool
joins_lines [] = false
joins_lines (b ∷ bs) = b == backslash && begins newline bs

-- whether a name goes on with this byte, after a colon or not
abbrev pub is_in_name : Bool → ℕ → Text → Bool
is_in_name after_colon b after = is_name b || (b == colon && (after_colon || begins colon after))
