-- The remarks in the report of an audit (own): each is a line that begins with `# `.
use Rattle.std.specs.Prelude.{ℕ, ◌==◌, if◌then◌else◌, [], ◌∷◌, ◌++◌, bytes_eq, codes, decimal, flat_map, map}
use Rattle.std.specs.Prelude.{List, string_bytes}
use Rattle.std.specs.List.{count_by}
use Rattle.std.specs.declared.alloc.Global.{Global}
use Rattle.std.specs.declared.string.String.{String}
use Rattle.envvars.specs.Fields.{without_repeats}
use Rattle.envvars.specs.Texts.{Text, texts_in}
use Rattle.modulefile.specs.declared.delimiter.Delimiter.{Delimiter}
use Rattle.audit_certificate.specs.declared.disagreement.Disagreement.{Disagreement}
use Rattle.audit_certificate.specs.declared.disagreement.Disagreement.TheVariants.{LoadedTexts, IsSet, HasNotValue}
use Rattle.audit_certificate.specs.declared.disagreement.Disagreement.TheVariants.{IsNotAbsent, PathNotInOrder}
use Rattle.audit_certificate.specs.declared.disagreement.Disagreement.TheVariants.{StackNotInOrder}
use Rattle.audit_site.specs.declared.auditing.AddedDirectory.{AddedDirectory}
use Rattle.audit_site.specs.declared.auditing.AuditedModule.{AuditedModule}
use Rattle.audit_site.specs.declared.auditing.UnknownNames.{UnknownNames}
use Rattle.audit_site.specs.declared.standing.AuditStanding.{AuditStanding}
use Rattle.audit_report.specs.Readable.{is_unreadable}
use Rattle.audit_report.specs.Words.{reason_of, spelled, standing_word}

-- the line of a directory that isn't there, by its path
unfoldable pub missing : Text → Text
missing dir = codes "# no directory: " ++ (spelled dir ++ codes "\n")

-- the same by the path as the code has it; nothing where the directory can't be read
abbrev pub missing_line : List (String Global) → String Global → Text
missing_line unreadable dir = if is_unreadable unreadable (string_bytes dir) then [] else missing (string_bytes dir)

-- the line of a directory that neither MODULEPATH has nor a deterministic module adds
unfoldable pub unreachable_line : AddedDirectory → Text
unreachable_line added =
    codes "# " ++ (spelled (string_bytes added.name) ++ (codes " (" ++ (spelled (string_bytes added.path)
    ++ (codes "): isn't deterministic, and adds the directory " ++ (spelled (string_bytes added.directory) ++ codes "\n")))))

-- the line of a module with another reason: how it stands, and for which other reason, and why
unfoldable pub other_reasons_line : AuditedModule → AuditStanding → Text
other_reasons_line m other_reasons =
    codes "# " ++ (spelled (string_bytes m.name) ++ (codes " (" ++ (spelled (string_bytes m.path) ++ (codes "): "
    ++ (standing_word m.standing ++ (codes ", and " ++ (standing_word other_reasons ++ (codes ": "
    ++ (spelled (reason_of [] other_reasons) ++ codes "\n")))))))))

-- a line for each of its other reasons
abbrev pub other_reasons_lines : AuditedModule → Text
other_reasons_lines m = flat_map (other_reasons_line m) m.other_reasons.items

-- the line of a file that is no modulefile, by its path
unfoldable pub no_modulefile : Text → Text
no_modulefile path = codes "# no modulefile: " ++ (spelled path ++ codes "\n")

-- the same by the path as the code has it
abbrev pub no_modulefile_line : String Global → Text
no_modulefile_line path = no_modulefile (string_bytes path)

-- the line of a default file that isn't read, by its path
unfoldable pub unread_file : Text → Text
unread_file path = codes "# default file that isn't read: " ++ (spelled path ++ codes "\n")

-- the same by the path as the code has it
abbrev pub unread_file_line : String Global → Text
unread_file_line path = unread_file (string_bytes path)

-- the line of a default file with a fault, by its path
unfoldable pub bad_file : Text → Text
bad_file path = codes "# bad default file: " ++ (spelled path ++ codes "\n")

-- the same by the path as the code has it
abbrev pub bad_file_line : String Global → Text
bad_file_line path = bad_file (string_bytes path)

-- a name in quotes, after a blank
abbrev pub quoted : Text → Text
quoted name = codes " '" ++ (spelled name ++ codes "'")

-- the same by the name as the code has it
abbrev pub quoted_name : String Global → Text
quoted_name name = quoted (string_bytes name)

-- the command that has the names
abbrev pub command_of : UnknownNames → Text
command_of u = if u.is_prereq then codes "prereq" else codes "conflict"

-- the line of a module with a prereq whose names mean no module of the site whose evaluation isn't refused
unfoldable pub unknown_line : UnknownNames → Text
unknown_line u =
    codes "# " ++ (spelled (string_bytes u.name) ++ (codes " (" ++ (spelled (string_bytes u.path)
    ++ (codes "): prereq names no module that isn't refused:" ++ (flat_map quoted_name u.names.items ++ codes "\n")))))

-- the line of a module with such a prereq; else nothing
abbrev pub prereq_line : UnknownNames → Text
prereq_line u = if u.is_prereq then unknown_line u else []

-- the names of the conflicts, in their order, as often as they stand there: each is once a module
abbrev pub conflict_names : List UnknownNames → List Text
conflict_names us = flat_map (λ u. if u.is_prereq then [] else texts_in u.names) us

-- so many files
abbrev pub files_words : ℕ → Text
files_words n = decimal n ++ (if n == 1 then codes " file" else codes " files")

-- the line of a name in conflicts that means no module of the site, and how many files have it
unfoldable pub conflict_line : ℕ → Text → Text
conflict_line n name =
    codes "# conflict names no module:" ++ (quoted name ++ (codes " (in " ++ (files_words n ++ codes ")\n")))

-- a line for each of the names, in the order in which they first stand
abbrev pub conflict_lines_of : List Text → Text
conflict_lines_of names =
    flat_map (λ name. conflict_line (count_by (bytes_eq name) names) name) (without_repeats names)

-- the same of the conflicts among these commands
abbrev pub conflict_lines : List UnknownNames → Text
conflict_lines us = conflict_lines_of (conflict_names us)

-- a delimiter in quotes
abbrev pub delimiter : Delimiter → Text
delimiter delim = codes "'" ++ delim.character ∷ codes "'"

-- where the environment at hand doesn't agree with the certificate
abbrev pub disagreement_words : Disagreement → Text
disagreement_words LoadedTexts = codes "the loaded modules aren't in order"
disagreement_words (IsSet variable) = string_bytes variable ++ codes " is set"
disagreement_words (HasNotValue variable value) = string_bytes variable
    ++ (codes " isn't '" ++ (string_bytes value ++ codes "'"))
disagreement_words (IsNotAbsent variable) = string_bytes variable ++ codes " is set"
disagreement_words (PathNotInOrder variable delim) =
    string_bytes variable ++ (codes " isn't in order as a path with " ++ delimiter delim)
disagreement_words (StackNotInOrder variable) = string_bytes variable ++ codes " isn't in order as a stack"

-- the line of it, in words
unfoldable pub environment_line : Text → Text
environment_line words = codes "# environment: " ++ (spelled words ++ codes "\n")

-- the line of a variable that isn't UTF-8, by its name
unfoldable pub not_utf8 : Text → Text
not_utf8 name = codes "# environment: " ++ (spelled name ++ codes " isn't UTF-8\n")

-- the same by the name as the code has it
abbrev pub not_utf8_line : String Global → Text
not_utf8_line name = not_utf8 (string_bytes name)

-- a line for each of them; for one that comes again, none
abbrev pub environment_lines : List Disagreement → Text
environment_lines ds = flat_map environment_line (without_repeats (map disagreement_words ds))
