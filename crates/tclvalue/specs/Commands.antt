-- The commands of values: list, llength, lindex, lrange, split, join, concat and string (Tcl's pages of these names). A
-- command is a function from the words after its name to its answer.
use Rattle.std.specs.Prelude.{ℕ, List, [], ◌∷◌, ◌++◌, length, Bool, ◌||◌, if◌then◌else◌, Option, Some, None, Ok, Err}
use Rattle.std.specs.Prelude.{codes, bytes_eq, decimal}
use Rattle.std.specs.declared.cmp.Ordering.{Ordering}
use Rattle.std.specs.declared.cmp.Ordering.TheVariants.{Less, Equal, Greater}
use Rattle.std.specs.Option.{unwrap_or}
use Rattle.std.specs.List.{repeat}
use Rattle.std.specs.Str.{chars}
use Rattle.tcltext.specs.chars.Runs.{Text}
use Rattle.tcltext.specs.list.Lists.{list_text}
use Rattle.tclvalue.specs.operators.Faults.{Answer, ◌>>=◌, error, unsupported}
use Rattle.tclvalue.specs.operators.Messages.{wrong_words}
use Rattle.tclvalue.specs.operators.Operators.{truth_text, text_order, is_nil}
use Rattle.tclvalue.specs.operators.Elements.{elements_of}
use Rattle.tclvalue.specs.Limits.{limited}
use Rattle.tclvalue.specs.Indexes.{Index, index_of, position, item_at, items_between, count_of, at_least_0}
use Rattle.tclvalue.specs.Searches.{first_position, last_position, pairs_of, mapped}
use Rattle.tclvalue.specs.Globs.{glob}
use Rattle.tclvalue.specs.Characters.{trimmed, trimmed_left, trimmed_right, characters_between, parts, joined}
use Rattle.tclvalue.specs.Characters.{concatenated, white_space, split_space}

-- a command, as a function of the words after its name
abbrev pub ValueFunction : Type 0
ValueFunction = List Text → Answer Text

-- a wrong number of words
abbrev pub wrong_number : Text → Answer Text
wrong_number name = Err (error (wrong_words name))

-- an order as -1, 0 or 1, and a position as a number, which is -1 where there is none
abbrev pub order_text : Ordering → Text
order_text Less = codes "-1"
order_text Equal = codes "0"
order_text Greater = codes "1"

abbrev pub position_text : Option ℕ → Text
position_text None = codes "-1"
position_text (Some k) = decimal k

-- the position of a text in another by this search; the empty text is never found
abbrev pub sought_position : (Text → Text → Option ℕ) → Text → Text → Option ℕ
sought_position find sought t = if is_nil sought then None else find (chars sought) (chars t)

-- the subcommands of string, by the head of string(n)
abbrev pub string_length : ValueFunction
string_length (t ∷ []) = Ok (decimal (length (chars t)))
string_length words = wrong_number (codes "string")

abbrev pub string_index : ValueFunction
string_index (t ∷ i ∷ []) = index_of i >>= (λ i. Ok (characters_between i i t))
string_index words = wrong_number (codes "string")

abbrev pub string_range : ValueFunction
string_range (t ∷ i ∷ j ∷ []) = index_of i >>= (λ i. index_of j >>= (λ j. Ok (characters_between i j t)))
string_range words = wrong_number (codes "string")

abbrev pub string_equal : ValueFunction
string_equal (a ∷ b ∷ []) = Ok (truth_text (bytes_eq a b))
string_equal words = wrong_number (codes "string")

abbrev pub string_compare : ValueFunction
string_compare (a ∷ b ∷ []) = Ok (order_text (text_order a b))
string_compare words = wrong_number (codes "string")

abbrev pub string_match : ValueFunction
string_match (pattern ∷ t ∷ []) = Ok (truth_text (glob pattern t))
string_match words = wrong_number (codes "string")

-- of the copies of a text in another this one's position
abbrev pub string_position : (Text → Text → Option ℕ) → ValueFunction
string_position search (sought ∷ t ∷ []) = Ok (position_text (sought_position search sought t))
string_position search words = wrong_number (codes "string")

abbrev pub string_first : ValueFunction
string_first = string_position first_position

abbrev pub string_last : ValueFunction
string_last = string_position last_position

abbrev pub string_map : ValueFunction
string_map (l ∷ t ∷ []) = elements_of l >>= (λ es. pairs_of es >>= (λ ps. Ok (mapped ps 0 (chars t))))
string_map words = wrong_number (codes "string")

abbrev pub string_repeat : ValueFunction
string_repeat (t ∷ n ∷ []) = count_of n >>= (λ n. Ok (repeat (at_least_0 n) t))
string_repeat words = wrong_number (codes "string")

-- a text without the characters of a set, or without white space, where trim takes them off
abbrev pub string_trimmed : (Text → Text → Text) → ValueFunction
string_trimmed trim (t ∷ []) = Ok (trim white_space t)
string_trimmed trim (t ∷ set ∷ []) = Ok (trim set t)
string_trimmed trim words = wrong_number (codes "string")

abbrev pub string_trim : ValueFunction
string_trim = string_trimmed trimmed

abbrev pub string_trimleft : ValueFunction
string_trimleft = string_trimmed trimmed_left

abbrev pub string_trimright : ValueFunction
string_trimright = string_trimmed trimmed_right

-- the options of string, which are unsupported; a word is one only where the two operands follow
abbrev pub is_option : Text → Bool
is_option word = bytes_eq word (codes "-nocase") || bytes_eq word (codes "-length")

abbrev pub option_in : List Text → Option Text
option_in (word ∷ a ∷ b ∷ more) = if is_option word then Some word else None
option_in words = None

-- an option is refused before a wrong number of words
abbrev pub unless_option : Option Text → Answer Text → Answer Text
unless_option None answer = answer
unless_option (Some word) answer = Err (unsupported (codes "string " ++ word))

abbrev pub with_options : ValueFunction → ValueFunction
with_options command words = unless_option (option_in words) (command words)

-- the subcommand of string of this name; any other is unsupported
abbrev pub subcommand_named : Text → Option ValueFunction
subcommand_named name =
    if bytes_eq name (codes "length") then Some string_length
    else if bytes_eq name (codes "index") then Some string_index
    else if bytes_eq name (codes "range") then Some string_range
    else if bytes_eq name (codes "equal") then Some (with_options string_equal)
    else if bytes_eq name (codes "compare") then Some (with_options string_compare)
    else if bytes_eq name (codes "match") then Some (with_options string_match)
    else if bytes_eq name (codes "first") then Some string_first
    else if bytes_eq name (codes "last") then Some string_last
    else if bytes_eq name (codes "map") then Some (with_options string_map)
    else if bytes_eq name (codes "repeat") then Some string_repeat
    else if bytes_eq name (codes "trim") then Some string_trim
    else if bytes_eq name (codes "trimleft") then Some string_trimleft
    else if bytes_eq name (codes "trimright") then Some string_trimright
    else None

abbrev pub subcommand_value : Text → List Text → Option ValueFunction → Answer Text
subcommand_value name words None = Err (unsupported (codes "string " ++ name))
subcommand_value name words (Some command) = command words

-- the element of a list at an index, or the empty text outside of the list
abbrev pub element_at : Index → List Text → Text
element_at i es = unwrap_or (item_at (position (length es) i) es) []

abbrev pub elements_between : Index → Index → List Text → List Text
elements_between i j es = items_between (position (length es) i) (position (length es) j) es

-- the commands on lists, and string
abbrev pub list_command : ValueFunction
list_command elements = Ok (list_text elements)

abbrev pub llength_command : ValueFunction
llength_command (l ∷ []) = elements_of l >>= (λ es. Ok (decimal (length es)))
llength_command words = wrong_number (codes "llength")

-- the element at the index that a word spells
abbrev pub element_text : Text → List Text → Answer Text
element_text i es = index_of i >>= (λ i. Ok (element_at i es))

abbrev pub lindex_command : ValueFunction
lindex_command (l ∷ []) = Ok l
lindex_command (l ∷ i ∷ []) = elements_of l >>= (λ es. element_text i es)
lindex_command words = wrong_number (codes "lindex")

-- the list of the elements from one index to another, which two words spell
abbrev pub range_text : Text → Text → List Text → Answer Text
range_text i j es = index_of i >>= (λ i. index_of j >>= (λ j. Ok (list_text (elements_between i j es))))

abbrev pub lrange_command : ValueFunction
lrange_command (l ∷ i ∷ j ∷ []) = elements_of l >>= (λ es. range_text i j es)
lrange_command words = wrong_number (codes "lrange")

abbrev pub split_command : ValueFunction
split_command (t ∷ []) = Ok (list_text (parts split_space t))
split_command (t ∷ set ∷ []) = Ok (list_text (parts set t))
split_command words = wrong_number (codes "split")

abbrev pub join_command : ValueFunction
join_command (l ∷ []) = elements_of l >>= (λ es. Ok (joined (codes " ") es))
join_command (l ∷ separator ∷ []) = elements_of l >>= (λ es. Ok (joined separator es))
join_command words = wrong_number (codes "join")

abbrev pub concat_command : ValueFunction
concat_command ts = Ok (concatenated ts)

abbrev pub string_command : ValueFunction
string_command (name ∷ words) = subcommand_value name words (subcommand_named name)
string_command [] = wrong_number (codes "string")

-- the command of this name
abbrev pub command_named : Text → Option ValueFunction
command_named name =
    if bytes_eq name (codes "list") then Some list_command
    else if bytes_eq name (codes "llength") then Some llength_command
    else if bytes_eq name (codes "lindex") then Some lindex_command
    else if bytes_eq name (codes "lrange") then Some lrange_command
    else if bytes_eq name (codes "split") then Some split_command
    else if bytes_eq name (codes "join") then Some join_command
    else if bytes_eq name (codes "concat") then Some concat_command
    else if bytes_eq name (codes "string") then Some string_command
    else None

-- the answer of a command of values, within a limit on its bytes; None where the words are no such command
abbrev pub called : ℕ → List Text → Option ValueFunction → Answer (Option Text)
called limit words None = Ok None
called limit words (Some command) = command words >>= limited limit >>= (λ t. Ok (Some t))

abbrev pub command_value : List Text → ℕ → Answer (Option Text)
command_value [] limit = Ok None
command_value (name ∷ words) limit = called limit words (command_named name)
