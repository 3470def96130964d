-- The forms of the core commands, as the head of each one's page has them: what the words after a command's name are,
-- or what is wrong with them. A wrong number of words comes first; that of incr is judged later, since a variable that
-- can't be written is refused before it.
use Rattle.std.specs.Prelude.{List, [], ◌∷◌, ◌++◌, Bool, true, false, ◌&&◌, nat_lt, length, if◌then◌else◌, Option, Some}
use Rattle.std.specs.Prelude.{None, Ok, Err, codes, bytes_eq}
use Rattle.tcltext.specs.chars.Runs.{Text, begins}
use Rattle.tclvalue.specs.operators.Faults.{Answer, ◌>>=◌, error, unsupported}
use Rattle.tclvalue.specs.operators.Messages.{wrong_words, not_a_list}
use Rattle.tclvalue.specs.operators.Elements.{elements_of}
use Rattle.tclrules.specs.Messages.{bad_option, no_body}

-- what a core command asks for, with its operands; scripts and expressions in it are texts
pub data Form : Type 0 where
  Get : Text → Form
  Set : Text → Text → Form
  Unset : Bool → List Text → Form
  Append : Text → List Text → Form
  ListAppend : Text → List Text → Form
  Increase : Text → List Text → Form
  Express : List Text → Form
  If : List (Text × Text) → Option Text → Form
  While : Text → Text → Form
  For : Text → Text → Text → Text → Form
  Foreach : List (Text × Text) → Text → Form
  Switch : Bool → Text → List (Text × Text) → Form
  Define : Text → Text → Text → Form
  Return : Text → Form
  Break : Form
  Continue : Form
  Exit : Form
  Error : Text → Form
  Catch : Text → Option Text → Form
  Exists : Text → Form
  Global : List Text → Form
  Put : List Text → Form

-- a wrong number of words
abbrev pub wrong : {A : Type 0} → Text → Answer A
wrong name = Err (error (wrong_words name))

-- set v ?x?
abbrev pub set_form : List Text → Answer Form
set_form (v ∷ []) = Ok (Get v)
set_form (v ∷ x ∷ []) = Ok (Set v x)
set_form ws = wrong (codes "set")

-- unset ?-nocomplain? ?--? v...
abbrev pub after_dashes : List Text → List Text
after_dashes [] = []
after_dashes (w ∷ ws) = if bytes_eq w (codes "--") then ws else w ∷ ws

abbrev pub unset_form : List Text → Answer Form
unset_form [] = Ok (Unset false [])
unset_form (w ∷ ws) = if bytes_eq w (codes "-nocomplain") then Ok (Unset true (after_dashes ws))
    else Ok (Unset false (after_dashes (w ∷ ws)))

-- append v x..., lappend v x...
abbrev pub append_form : List Text → Answer Form
append_form [] = wrong (codes "append")
append_form (v ∷ xs) = Ok (Append v xs)

abbrev pub lappend_form : List Text → Answer Form
lappend_form [] = wrong (codes "lappend")
lappend_form (v ∷ xs) = Ok (ListAppend v xs)

-- incr v ?n?
abbrev pub incr_form : List Text → Answer Form
incr_form [] = wrong (codes "incr")
incr_form (v ∷ ns) = Ok (Increase v ns)

-- the increment of incr: 1 where none is given
abbrev pub increase_of : List Text → Answer Text
increase_of [] = Ok (codes "1")
increase_of (n ∷ []) = Ok n
increase_of ns = wrong (codes "incr")

-- expr a...
abbrev pub expr_form : List Text → Answer Form
expr_form [] = wrong (codes "expr")
expr_form xs = Ok (Express xs)

-- if c ?then? b ?elseif c ?then? b?... ?else? ?b?
abbrev pub Branches : Type 0
Branches = List (Text × Text) × Option Text

-- a branch before those of an answer
abbrev pub branch : Text → Text → Answer Branches → Answer Branches
branch c b more = more >>= (λ m. Ok ((c, b) ∷ m.0, m.1))

-- a last body: after else, or without it
abbrev pub last_body : List Text → Answer Branches
last_body (b ∷ []) = Ok ([], Some b)
last_body ws = wrong (codes "if")

-- after the last body with a condition: else and a last body, or nothing
abbrev pub last_words : List Text → Answer Branches
last_words [] = Ok ([], None)
last_words (w ∷ ws) = if bytes_eq w (codes "else") then last_body ws else last_body (w ∷ ws)

abbrev mutual
  -- the branches that words are, from a condition on, after it, after then, and after a body
  pub branches : List Text → Answer Branches
  branches [] = wrong (codes "if")
  branches (c ∷ ws) = after_condition c ws

  pub after_condition : Text → List Text → Answer Branches
  after_condition c [] = wrong (codes "if")
  after_condition c (w ∷ ws) = if bytes_eq w (codes "then") then after_then c ws else branch c w (after_body ws)

  pub after_then : Text → List Text → Answer Branches
  after_then c [] = wrong (codes "if")
  after_then c (b ∷ ws) = branch c b (after_body ws)

  pub after_body : List Text → Answer Branches
  after_body [] = Ok ([], None)
  after_body (w ∷ ws) = if bytes_eq w (codes "elseif") then branches ws else last_words (w ∷ ws)

abbrev pub if_form : List Text → Answer Form
if_form ws = branches ws >>= (λ m. Ok (If m.0 m.1))

-- while c b
abbrev pub while_form : List Text → Answer Form
while_form (c ∷ b ∷ []) = Ok (While c b)
while_form ws = wrong (codes "while")

-- for s c n b
abbrev pub for_form : List Text → Answer Form
for_form (s ∷ c ∷ n ∷ b ∷ []) = Ok (For s c n b)
for_form ws = wrong (codes "for")

-- foreach vs l ?vs l?... b
abbrev pub loop_pairs : List Text → Answer (List (Text × Text) × Text)
loop_pairs (vs ∷ l ∷ b ∷ []) = Ok ((vs, l) ∷ [], b)
loop_pairs (vs ∷ l ∷ ws) = loop_pairs ws >>= (λ m. Ok ((vs, l) ∷ m.0, m.1))
loop_pairs ws = wrong (codes "foreach")

abbrev pub foreach_form : List Text → Answer Form
foreach_form ws = loop_pairs ws >>= (λ m. Ok (Foreach m.0 m.1))

-- switch ?-exact? ?-glob? ?--? t p b..., or one list of p b: a word is an option where more than one word follows it
abbrev pub is_option : Text → List Text → Bool
is_option w ws = begins 45 w && nat_lt 1 (length ws)

-- the options, and the words after them; -- ends the options
abbrev pub options : List Text → List Text × List Text
options [] = ([], [])
options (w ∷ ws) =
    if is_option w ws then if bytes_eq w (codes "--") then ([], ws) else (w ∷ (options ws).0, (options ws).1)
    else ([], w ∷ ws)

-- whether patterns are compared by glob: the last option decides
abbrev pub glob_option : Text → Answer Bool
glob_option w =
    if bytes_eq w (codes "-exact") then Ok false
    else if bytes_eq w (codes "-glob") then Ok true
    else if bytes_eq w (codes "-regexp") then Err (unsupported w)
    else Err (error (bad_option w))

abbrev pub by_glob : Bool → List Text → Answer Bool
by_glob glob [] = Ok glob
by_glob glob (w ∷ ws) = glob_option w >>= (λ g. by_glob g ws)

-- patterns with their bodies; None where one has none
abbrev pub paired : List Text → Option (List (Text × Text))
paired [] = Some []
paired (p ∷ []) = None
paired (p ∷ b ∷ ws) = elim (paired ws) [ None ↦ None | Some ps ↦ Some ((p, b) ∷ ps) ]

abbrev pub listed_pairs : Option (List (Text × Text)) → Answer (List (Text × Text))
listed_pairs (Some ps) = Ok ps
listed_pairs None = Err (error not_a_list)

-- the patterns in the one list
abbrev pub patterns_in : Text → Answer (List (Text × Text))
patterns_in l = elements_of l >>= (λ es. listed_pairs (paired es))

-- the last pattern, where its body is -
abbrev pub bodiless : List (Text × Text) → Option Text
bodiless [] = None
bodiless (p ∷ []) = if bytes_eq p.1 (codes "-") then Some p.0 else None
bodiless (p ∷ q ∷ ps) = bodiless (q ∷ ps)

abbrev pub unless_bodiless : Option Text → Form → Answer Form
unless_bodiless (Some p) f = Err (error (no_body p))
unless_bodiless None f = Ok f

abbrev pub with_patterns : Bool → Text → List (Text × Text) → Answer Form
with_patterns glob t ps = unless_bodiless (bodiless ps) (Switch glob t ps)

abbrev pub switch_with : Text → List Text → Answer (List (Text × Text)) → Answer Form
switch_with t os ps = by_glob false os >>= (λ glob. ps >>= with_patterns glob t)

abbrev pub even_pairs : Text → List Text → Option (List (Text × Text)) → Answer Form
even_pairs t os (Some ps) = switch_with t os (Ok ps)
even_pairs t os None = wrong (codes "switch")

abbrev pub switch_words : List Text → List Text → Answer Form
switch_words os (t ∷ l ∷ []) = switch_with t os (patterns_in l)
switch_words os (t ∷ p ∷ b ∷ ws) = even_pairs t os (paired (p ∷ b ∷ ws))
switch_words os ws = wrong (codes "switch")

abbrev pub switch_form : List Text → Answer Form
switch_form ws = switch_words (options ws).0 (options ws).1

-- proc n args b
abbrev pub proc_form : List Text → Answer Form
proc_form (n ∷ args ∷ b ∷ []) = Ok (Define n args b)
proc_form ws = wrong (codes "proc")

-- return ?x?
abbrev pub return_form : List Text → Answer Form
return_form [] = Ok (Return [])
return_form (x ∷ []) = Ok (Return x)
return_form ws = Err (unsupported (codes "return"))

-- break, continue
abbrev pub without_words : Text → Form → List Text → Answer Form
without_words name f [] = Ok f
without_words name f ws = wrong name

-- exit ?code?
abbrev pub exit_form : List Text → Answer Form
exit_form [] = Ok Exit
exit_form (code ∷ []) = Ok Exit
exit_form ws = wrong (codes "exit")

-- error m ?i? ?c?
abbrev pub error_form : List Text → Answer Form
error_form (m ∷ []) = Ok (Error m)
error_form (m ∷ i ∷ []) = Ok (Error m)
error_form (m ∷ i ∷ c ∷ []) = Ok (Error m)
error_form ws = wrong (codes "error")

-- catch s ?v?
abbrev pub catch_form : List Text → Answer Form
catch_form (s ∷ []) = Ok (Catch s None)
catch_form (s ∷ v ∷ []) = Ok (Catch s (Some v))
catch_form ws = wrong (codes "catch")

-- info exists v
abbrev pub exists_form : List Text → Answer Form
exists_form (v ∷ []) = Ok (Exists v)
exists_form ws = wrong (codes "info")

abbrev pub info_form : List Text → Answer Form
info_form [] = wrong (codes "info")
info_form (sub ∷ ws) = if bytes_eq sub (codes "exists") then exists_form ws else Err
    (unsupported (codes "info " ++ sub))

-- puts ?-nonewline? stderr t
abbrev pub to_stderr : Text → List Text → Answer Form
to_stderr channel ws = if bytes_eq channel (codes "stderr") then Ok (Put ws) else Err (unsupported (codes "puts"))

abbrev pub without_newline : Text → Text → List Text → Answer Form
without_newline option channel ws = if bytes_eq option (codes "-nonewline") then to_stderr channel ws
    else wrong (codes "puts")

abbrev pub puts_form : List Text → Answer Form
puts_form (t ∷ []) = Err (unsupported (codes "puts"))
puts_form (channel ∷ t ∷ []) = to_stderr channel (channel ∷ t ∷ [])
puts_form (option ∷ channel ∷ t ∷ []) = without_newline option channel (option ∷ channel ∷ t ∷ [])
puts_form ws = wrong (codes "puts")

-- the form of a core command; None for another name
unfoldable pub core_form : Text → List Text → Option (Answer Form)
core_form name ws =
    if bytes_eq name (codes "set") then Some (set_form ws)
    else if bytes_eq name (codes "unset") then Some (unset_form ws)
    else if bytes_eq name (codes "append") then Some (append_form ws)
    else if bytes_eq name (codes "lappend") then Some (lappend_form ws)
    else if bytes_eq name (codes "incr") then Some (incr_form ws)
    else if bytes_eq name (codes "expr") then Some (expr_form ws)
    else if bytes_eq name (codes "if") then Some (if_form ws)
    else if bytes_eq name (codes "while") then Some (while_form ws)
    else if bytes_eq name (codes "for") then Some (for_form ws)
    else if bytes_eq name (codes "foreach") then Some (foreach_form ws)
    else if bytes_eq name (codes "switch") then Some (switch_form ws)
    else if bytes_eq name (codes "proc") then Some (proc_form ws)
    else if bytes_eq name (codes "return") then Some (return_form ws)
    else if bytes_eq name (codes "break") then Some (without_words (codes "break") Break ws)
    else if bytes_eq name (codes "continue") then Some (without_words (codes "continue") Continue ws)
    else if bytes_eq name (codes "exit") then Some (exit_form ws)
    else if bytes_eq name (codes "error") then Some (error_form ws)
    else if bytes_eq name (codes "catch") then Some (catch_form ws)
    else if bytes_eq name (codes "info") then Some (info_form ws)
    else if bytes_eq name (codes "global") then Some (Ok (Global ws))
    else if bytes_eq name (codes "puts") then Some (puts_form ws)
    else None
