-- What is said of a module in the report of an audit (own): how it stands in one word, and why; and how texts are
-- spelled in a line. Which characters end a line or turn its direction: Unicode Standard Annex 14, class BK, and
-- Annex 9, the property Bidi_Control.
use Rattle.std.specs.Prelude.{ℕ, ◌/◌, ◌%◌, ◌==◌, ◌||◌, ◌&&◌, nat_lt, Bool, true, not, if◌then◌else◌, List, [], ◌∷◌}
use Rattle.std.specs.Prelude.{◌++◌, bytes_eq, chars, codes, count_by, decimal, encode_utf8, flat_map, Some, None}
use Rattle.std.specs.Prelude.{string_bytes}
use Rattle.std.specs.Char.{digit_char}
use Rattle.std.specs.List.{join_with_byte}
use Rattle.std.specs.declared.alloc.Global.{Global}
use Rattle.std.specs.declared.string.String.{String}
use Rattle.envvars.specs.Texts.{Text}
use Rattle.tcltext.specs.list.Lists.{list_text}
use Rattle.tclrules.specs.Oracle.{Question, OfCommand, OfVariable}
use Rattle.modulefile.specs.declared.records.Record.{Record}
use Rattle.modulefile.specs.RecordViews.{record_view}
use Rattle.modulefile.specs.Reports.{shown_words}
use Rattle.modulefile_run.specs.Questions.{question_view}
use Rattle.audit_certificate.specs.declared.uses.VariableUse.{VariableUse}
use Rattle.audit_certificate.specs.declared.uses.VariableUse.TheVariants.{Fixed, Absent, Pathed, Stacked, Read}
use Rattle.audit_certificate.specs.declared.answers.Clash.{Clash}
use Rattle.modules.specs.Messages.{message_of}
use Rattle.audit_site.specs.Audits.{is_certified}
use Rattle.audit_site.specs.declared.auditing.AuditedModule.{AuditedModule}
use Rattle.audit_site.specs.declared.standing.AuditStanding.{AuditStanding}
use Rattle.audit_site.specs.declared.standing.AuditStanding.TheVariants.{Certified, Unstable, OneWay, Inconsistent}
use Rattle.audit_site.specs.declared.standing.AuditStanding.TheVariants.{Excluded, Clashes, Refused}
use Rattle.audit_report.specs.declared.selection.Selection.{Selection}
use Rattle.audit_report.specs.declared.selection.Selection.TheVariants.{Each, NotCertified}

-- ---- fields

-- the escape of a control character by its two hexadecimal digits
abbrev pub hex_escape : ℕ → Text
hex_escape c = codes "\\x" ++ digit_char (c / 16) ∷ digit_char (c % 16) ∷ []

-- the escape of a mark by its four hexadecimal digits
abbrev pub mark_escape : ℕ → Text
mark_escape c =
    codes "\\u" ++ digit_char (c / 4096) ∷ digit_char (c / 256 % 16) ∷ digit_char (c / 16 % 16) ∷ digit_char (c % 16)
    ∷ []

-- the character is one of those from the first to the last
abbrev pub is_from_to : ℕ → ℕ → ℕ → Bool
is_from_to first last c = not (nat_lt c first) && not (nat_lt last c)

-- a control character
abbrev pub is_control : ℕ → Bool
is_control c = nat_lt c 32 || is_from_to 127 159 c

-- a mark that ends a line or a paragraph, or says in which direction a text is written
abbrev pub is_mark : ℕ → Bool
is_mark c = (c == 0x61c) || (is_from_to 0x200e 0x200f c || (is_from_to 0x2028 0x202e c || is_from_to 0x2066 0x2069 c))

-- a character of a field: a control character, such a mark or a backslash by its escape, and else as it is
abbrev pub spelled_char : ℕ → Text
spelled_char c =
    if c == 92 then codes "\\\\" else if c == 9 then codes "\\t" else if c == 10 then codes "\\n"
    else if is_control c then hex_escape c else if is_mark c then mark_escape c else encode_utf8 c

-- a text as a field of a line
abbrev pub spelled : Text → Text
spelled text = flat_map spelled_char (chars text)

-- ---- standings

-- a report names a module that stands so
abbrev pub is_named : Selection → AuditStanding → Bool
is_named Each standing = true
is_named NotCertified standing = not (is_certified standing)

-- how many of the modules are certified
abbrev pub certified_count : List AuditedModule → ℕ
certified_count modules = count_by (λ m. is_certified m.standing) modules

-- the standing in one word
abbrev pub standing_word : AuditStanding → Text
standing_word Certified = codes "certified"
standing_word (Unstable first) = codes "unstable"
standing_word (OneWay first) = codes "one-way"
standing_word (Inconsistent variable one other) = codes "inconsistent"
standing_word Excluded = codes "excluded"
standing_word (Clashes clash) = codes "clashes"
standing_word (Refused refusal) = codes "refused"

-- how many of the modules stand so, by the word for it
abbrev pub standing_count : Text → List AuditedModule → ℕ
standing_count word modules = count_by (λ m. bytes_eq (standing_word m.standing) word) modules

-- ---- reasons

-- a use of a variable
abbrev pub use_words : VariableUse → Text
use_words (Fixed None) = codes "set"
use_words (Fixed (Some value)) = codes "unset of '" ++ (string_bytes value ++ codes "'")
use_words Absent = codes "unset"
use_words (Pathed delim) = codes "path with '" ++ delim.character ∷ codes "'"
use_words Stacked = codes "stack"
use_words Read = codes "read"

-- a record as `show` writes it
abbrev pub record_words : Record → Text
record_words r = list_text (shown_words (record_view r))

-- the variable, and the two ways in which a module uses it
abbrev pub two_uses : Text → VariableUse → VariableUse → Text
two_uses variable one other = variable ++ (codes ": " ++ (use_words one ++ (codes ", and " ++ use_words other)))

-- the variable of a clash, the module's own use of it, the other's, the other, and how many use it as that does
abbrev pub clash_words : Clash → Text
clash_words c =
    string_bytes c.variable ++ (codes ": " ++ (use_words c.own ++ (codes " here, " ++ (use_words c.theirs
    ++ (codes " in " ++ (string_bytes c.other_name ++ (codes " (" ++ (string_bytes c.other_path
    ++ (codes "); used so by " ++ decimal c.alike)))))))))

-- the names, with a comma and a space between two
abbrev pub listed : List (String Global) → Text
listed [] = []
listed (name ∷ names) = string_bytes name ++ flat_map (λ n. codes ", " ++ string_bytes n) names

-- the variables that a certified module reads; nothing where it reads none
abbrev pub reads_words : List (String Global) → Text
reads_words [] = []
reads_words (name ∷ names) = codes "reads " ++ listed (name ∷ names)

-- what was asked, as a modulefile has it: the words of a command with a space between two, or a variable as `$env(VAR)`
abbrev pub question_words : Question → Text
question_words (OfCommand words answer) = join_with_byte 32 words
question_words (OfVariable name value) = codes "$env(" ++ (name ++ codes ")")

-- Why a module that reads these variables stands so: of a certified one what it reads, of one that asks the question,
-- of one that is one way the record, of one that is excluded the option, of a refused one the refusal.
abbrev pub reason_of : List (String Global) → AuditStanding → Text
reason_of reads Certified = reads_words reads
reason_of reads (Unstable first) = question_words (question_view first)
reason_of reads (OneWay first) = record_words first
reason_of reads (Inconsistent variable one other) = two_uses (string_bytes variable) one other
reason_of reads Excluded = codes "--without"
reason_of reads (Clashes clash) = clash_words clash
reason_of reads (Refused refusal) = message_of refusal

-- the same of a module
abbrev pub reason : AuditedModule → Text
reason m = reason_of m.reads.items m.standing
