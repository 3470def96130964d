-- The report of an audit as one JSON document (RFC 8259): its value (own).
use Rattle.std.specs.Prelude.{ℕ, ◌+◌, List, [], ◌∷◌, ◌++◌, codes, decimal, filter, length, map, not, Option, Some, None}
use Rattle.std.specs.Prelude.{string_bytes}
use Rattle.std.specs.declared.alloc.Global.{Global}
use Rattle.std.specs.declared.string.String.{String}
use Rattle.envvars.specs.Texts.{Text}
use Rattle.json.specs.Json.{Json, number, string, array, object, Members, no_members, member}
use Rattle.json.specs.Print.{print}
use Rattle.json.specs.Tree.{json_tokens}
use Rattle.json.specs.Value.{items_of}
use Rattle.audit_certificate.specs.declared.answers.Clash.{Clash}
use Rattle.audit_certificate.specs.declared.uses.UsedVariable.{UsedVariable}
use Rattle.audit_certificate.specs.declared.uses.VariableUse.{VariableUse}
use Rattle.audit_certificate.specs.declared.uses.VariableUse.TheVariants.{Fixed, Absent, Pathed, Stacked, Read}
use Rattle.modulefile.specs.declared.delimiter.Delimiter.{Delimiter}
use Rattle.modules.specs.Messages.{message_of}
use Rattle.modules.specs.declared.refusal.Refusal.{Refusal}
use Rattle.audit_certificate.specs.declared.disagreement.Disagreement.{Disagreement}
use Rattle.audit_certificate.specs.declared.disagreement.Disagreement.TheVariants.{LoadedTexts, IsSet, HasNotValue}
use Rattle.audit_certificate.specs.declared.disagreement.Disagreement.TheVariants.{IsNotAbsent, PathNotInOrder}
use Rattle.audit_certificate.specs.declared.disagreement.Disagreement.TheVariants.{StackNotInOrder}
use Rattle.audit_site.specs.declared.auditing.AddedDirectory.{AddedDirectory}
use Rattle.audit_site.specs.declared.auditing.AuditedModule.{AuditedModule}
use Rattle.audit_site.specs.declared.auditing.UnknownNames.{UnknownNames}
use Rattle.audit_site.specs.declared.standing.AuditStanding.{AuditStanding}
use Rattle.audit_site.specs.declared.standing.AuditStanding.TheVariants.{Certified, Unstable, OneWay, Inconsistent}
use Rattle.audit_site.specs.declared.standing.AuditStanding.TheVariants.{Excluded, Clashes, Refused}
use Rattle.audit_report.specs.declared.readable.ReadableAudit.{ReadableAudit}
use Rattle.audit_report.specs.declared.selection.Selection.{Selection}
use Rattle.audit_report.specs.Readable.{is_unreadable}
use Rattle.audit_report.specs.Refused.{refused_at, refused_line}
use Rattle.audit_report.specs.Remarks.{command_of}
use Rattle.audit_report.specs.Tried.{TriedModule, with_dry_runs}
use Rattle.modulefile_run.specs.Questions.{question_view}
use Rattle.audit_report.specs.Words.{certified_count, is_named, question_words, record_words, standing_word}
use Rattle.audit_dry_runs.specs.declared.dry_run.DryRun.{DryRun}
use Rattle.audit_dry_runs.specs.declared.dry_run.DryRun.TheVariants.{Returns, Leaves, LoadRefused, UnloadRefused, AlreadyLoaded}
use Rattle.audit_dry_runs.specs.declared.dry_run.DryRun.TheVariants.{LoadsAnother}

-- ---- values

-- a member of an object: its name and its value
abbrev pub Field : Type 0
Field = Text × Json

abbrev pub members_of : List Field → Members
members_of [] = no_members
members_of ((name, value) ∷ fields) = member name value (members_of fields)

-- the object of these members, in this order
abbrev pub object_of : List Field → Json
object_of fields = object (members_of fields)

-- the array of these values
abbrev pub array_of : List Json → Json
array_of values = array (items_of values)

-- a text as a value
abbrev pub text_value : String Global → Json
text_value text = string (string_bytes text)

-- a member that is an array of texts
abbrev pub texts_field : Text → List (String Global) → Field
texts_field name texts = (name, array_of (map text_value texts))

-- ---- uses

-- a use as a path with this delimiter
abbrev pub path_fields : Delimiter → List Field
path_fields delim = (codes "use", string (codes "path")) ∷ (codes "delimiter", string (delim.character ∷ [])) ∷ []

-- a use of a variable: which it is, and the value or the delimiter
abbrev pub use_fields : VariableUse → List Field
use_fields (Fixed None) = (codes "use", string (codes "set")) ∷ []
use_fields (Fixed (Some value)) = (codes "use", string (codes "unset")) ∷ (codes "value", text_value value) ∷ []
use_fields Absent = (codes "use", string (codes "unset")) ∷ []
use_fields (Pathed delim) = path_fields delim
use_fields Stacked = (codes "use", string (codes "stack")) ∷ []
use_fields Read = (codes "use", string (codes "read")) ∷ []

-- the same as an object
abbrev pub use_value : VariableUse → Json
use_value used = object_of (use_fields used)

-- a variable with its use
abbrev pub used_fields : UsedVariable → List Field
used_fields p = (codes "variable", text_value p.variable) ∷ use_fields p.used

-- the same as an object
abbrev pub used_value : UsedVariable → Json
used_value p = object_of (used_fields p)

-- two uses of a variable
abbrev pub two_uses_fields : String Global → VariableUse → VariableUse → List Field
two_uses_fields variable one other =
    (codes "variable", text_value variable) ∷ (codes "uses", array_of (use_value one ∷ use_value other ∷ [])) ∷ []

-- ---- refusals

-- the text of a refusal
abbrev pub refusal_field : Refusal → Field
refusal_field refusal = (codes "refusal", string (message_of refusal))

-- a line of a file
abbrev pub line_member : ℕ → Field
line_member line = (codes "line", number (decimal line))

-- the line at which a file stopped; none where that isn't known
abbrev pub line_fields : Option ℕ → List Field
line_fields None = []
line_fields (Some line) = line_member line ∷ []

-- where a file stopped: the line, and its path; none where that isn't known
abbrev pub place_fields : Option (Text × ℕ) → List Field
place_fields None = []
place_fields (Some (path, line)) = line_member line ∷ (codes "path", string path) ∷ []

-- why a module is refused: the text, and the line of its file
abbrev pub refused_module_fields : Refusal → List Field
refused_module_fields refusal = refusal_field refusal ∷ line_fields (refused_line refusal)

-- why a request is refused: the text, and where the file stopped, which needn't be that of the module in question
abbrev pub refused_request_fields : Refusal → List Field
refused_request_fields refusal = refusal_field refusal ∷ place_fields (refused_at refusal)

-- ---- dry runs

-- what the dry run finds, in one word
abbrev pub dry_run_word : DryRun → Text
dry_run_word Returns = codes "returns"
dry_run_word (Leaves names) = codes "leaves"
dry_run_word (LoadRefused refusal) = codes "load-refused"
dry_run_word (UnloadRefused refusal) = codes "unload-refused"
dry_run_word AlreadyLoaded = codes "loaded"
dry_run_word (LoadsAnother name path) = codes "another"

-- the variables that are left, why a request is refused, or the other module
abbrev pub found_fields : DryRun → List Field
found_fields Returns = []
found_fields (Leaves names) = texts_field (codes "variables") names.items ∷ []
found_fields (LoadRefused refusal) = refused_request_fields refusal
found_fields (UnloadRefused refusal) = refused_request_fields refusal
found_fields AlreadyLoaded = []
found_fields (LoadsAnother name path) = (codes "name", text_value name) ∷ (codes "path", text_value path) ∷ []

-- both
abbrev pub dry_run_fields : DryRun → List Field
dry_run_fields dry_run = (codes "dry_run", string (dry_run_word dry_run)) ∷ found_fields dry_run

-- the same as an object
abbrev pub dry_run_value : DryRun → Json
dry_run_value dry_run = object_of (dry_run_fields dry_run)

-- the member of it; none where the module isn't tried
abbrev pub here_fields : Option DryRun → List Field
here_fields None = []
here_fields (Some dry_run) = (codes "here", dry_run_value dry_run) ∷ []

-- ---- modules

-- a module by its name and its path
abbrev pub place_value : String Global → String Global → Json
place_value name path = object_of ((codes "name", text_value name) ∷ (codes "path", text_value path) ∷ [])

-- the variables that a certified module reads; nothing where it reads none
abbrev pub reads_fields : List (String Global) → List Field
reads_fields [] = []
reads_fields (name ∷ names) = texts_field (codes "reads") (name ∷ names) ∷ []

-- a clash: the variable and both uses, the other module, and how many use the variable as that does
abbrev pub clash_fields : Clash → List Field
clash_fields c =
    two_uses_fields c.variable c.own c.theirs
    ++ (codes "other", place_value c.other_name c.other_path) ∷ (codes "alike", number (decimal c.alike)) ∷ []

-- why a module that reads these variables stands so
abbrev pub standing_fields : List (String Global) → AuditStanding → List Field
standing_fields reads Certified = reads_fields reads
standing_fields reads (Unstable first) = (codes "question", string (question_words (question_view first))) ∷ []
standing_fields reads (OneWay first) = (codes "record", string (record_words first)) ∷ []
standing_fields reads (Inconsistent variable one other) = two_uses_fields variable one other
standing_fields reads Excluded = []
standing_fields reads (Clashes c) = clash_fields c
standing_fields reads (Refused refusal) = refused_module_fields refusal

-- another reason: how a module stands in one word, and why
abbrev pub other_reasons_value : AuditStanding → Json
other_reasons_value other_reasons =
    object_of ((codes "standing", string (standing_word other_reasons)) ∷ standing_fields [] other_reasons)

-- such standings
abbrev pub other_reasons_field : List AuditStanding → Field
other_reasons_field standings = (codes "other_reasons", array_of (map other_reasons_value standings))

-- the member of them; none where there are none
abbrev pub other_reasons_fields : List AuditStanding → List Field
other_reasons_fields [] = []
other_reasons_fields (first ∷ others) = other_reasons_field (first ∷ others) ∷ []

-- a module, how it stands in one word, and why; the other reasons, if it does; and what happens here, where it is tried
abbrev pub module_fields : AuditedModule → Option DryRun → List Field
module_fields m dry_run =
    (codes "name", text_value m.name) ∷ (codes "path", text_value m.path)
    ∷ (codes "standing", string (standing_word m.standing)) ∷ standing_fields m.reads.items m.standing
    ++ (other_reasons_fields m.other_reasons.items ++ here_fields dry_run)

-- the same as an object
abbrev pub module_value : TriedModule → Json
module_value (m, dry_run) = object_of (module_fields m dry_run)

-- ---- remarks

-- a directory that can be reached only through a module that isn't deterministic, with the module
abbrev pub added_fields : AddedDirectory → List Field
added_fields added =
    (codes "name", text_value added.name) ∷ (codes "path", text_value added.path)
    ∷ (codes "directory", text_value added.directory) ∷ []

-- the same as an object
abbrev pub added_value : AddedDirectory → Json
added_value added = object_of (added_fields added)

-- such directories
abbrev pub unreachable_field : List AddedDirectory → Field
unreachable_field dirs = (codes "unreachable_directories", array_of (map added_value dirs))

-- a command whose names mean no module of the site
abbrev pub unknown_fields : UnknownNames → List Field
unknown_fields u =
    (codes "name", text_value u.name) ∷ (codes "path", text_value u.path) ∷ (codes "command", string (command_of u))
    ∷ texts_field (codes "names") u.names.items ∷ []

-- the same as an object
abbrev pub unknown_value : UnknownNames → Json
unknown_value u = object_of (unknown_fields u)

-- The use that the environment at hand doesn't agree with; `loaded` where the loaded modules aren't in order.
abbrev pub disagreement_fields : Disagreement → List Field
disagreement_fields LoadedTexts = (codes "use", string (codes "loaded")) ∷ []
disagreement_fields (IsSet variable) =
    (codes "variable", text_value variable) ∷ (codes "use", string (codes "set")) ∷ []
disagreement_fields (HasNotValue variable value) =
    (codes "variable", text_value variable) ∷ (codes "use", string (codes "unset")) ∷ (codes "value", text_value value)
    ∷ []
disagreement_fields (IsNotAbsent variable) =
    (codes "variable", text_value variable) ∷ (codes "use", string (codes "unset")) ∷ []
disagreement_fields (PathNotInOrder variable delim) =
    (codes "variable", text_value variable) ∷ path_fields delim
disagreement_fields (StackNotInOrder variable) =
    (codes "variable", text_value variable) ∷ (codes "use", string (codes "stack")) ∷ []

-- the same as an object
abbrev pub disagreement_value : Disagreement → Json
disagreement_value d = object_of (disagreement_fields d)

-- ---- the document

-- the modules that the report names
abbrev pub named_modules : Selection → List TriedModule → List TriedModule
named_modules selection tried = filter (λ t. is_named selection t.0.standing) tried

-- the modules that the report names, each with its dry run
abbrev pub modules_field : Selection → List AuditedModule → List (Option DryRun) → Field
modules_field selection modules dry_runs =
    (codes "modules", array_of (map module_value (named_modules selection (with_dry_runs modules dry_runs))))

-- how many of the modules are certified, and how many there are, with so many others
abbrev pub count_fields : ℕ → List AuditedModule → List Field
count_fields others modules =
    (codes "certified", number (decimal (certified_count modules)))
    ∷ (codes "count", number (decimal (length modules + others))) ∷ []

-- what the certified modules use and read
abbrev pub certificate_field : List UsedVariable → Field
certificate_field certificate = (codes "certificate", array_of (map used_value certificate))

-- those of the directories that can be read
abbrev pub readable_among : List (String Global) → List (String Global) → List (String Global)
readable_among unreadable dirs = filter (λ dir. not (is_unreadable unreadable (string_bytes dir))) dirs

-- the directories that aren't there, but for those that can't be read
abbrev pub missing_field : List (String Global) → List (String Global) → Field
missing_field unreadable dirs = texts_field (codes "missing_directories") (readable_among unreadable dirs)

-- the paths of the files and directories that can't be read
abbrev pub unreadable_field : List (String Global) → Field
unreadable_field paths = texts_field (codes "unreadable") paths

-- the paths of the files that are no modulefiles
abbrev pub no_modulefiles_field : List (String Global) → Field
no_modulefiles_field paths = texts_field (codes "no_modulefiles") paths

-- the paths of the default files that aren't read
abbrev pub unread_field : List (String Global) → Field
unread_field paths = texts_field (codes "unread_default_files") paths

-- the paths of the default files that have a fault
abbrev pub bad_files_field : List (String Global) → Field
bad_files_field paths = texts_field (codes "bad_default_files") paths

-- the variables of the certificate, or kept by the tool itself, that aren't UTF-8
abbrev pub not_utf8_field : List (String Global) → Field
not_utf8_field names = texts_field (codes "not_utf8") names

-- the names that mean no module of the site, and where the environment at hand doesn't agree with the certificate
abbrev pub rest_fields : List UnknownNames → List Disagreement → List Field
rest_fields unknowns reasons =
    (codes "unknown_names", array_of (map unknown_value unknowns))
    ∷ (codes "disagreements", array_of (map disagreement_value reasons)) ∷ []

-- the paths of directories and files of which there are remarks
abbrev pub paths_fields : ReadableAudit → List Field
paths_fields audit =
    missing_field audit.unreadable.items audit.found.missing_directories.items
    ∷ no_modulefiles_field audit.found.no_modulefiles.items ∷ unread_field audit.found.unread_default_files.items
    ∷ bad_files_field audit.found.bad_default_files.items ∷ []

-- The whole document.
abbrev pub document : Selection → ReadableAudit → Json
document selection audit =
    let found = audit.found in
    object_of (modules_field selection found.modules.items audit.dry_runs.items ∷ unreadable_field audit.unreadable.items
    ∷ count_fields (length audit.unreadable.items) found.modules.items ++ certificate_field found.certificate.items
    ∷ paths_fields audit ++ unreachable_field found.unreachable_directories.items
    ∷ not_utf8_field audit.not_utf8.items ∷ rest_fields found.unknown_names.items found.disagreements.items)

-- its text, on a line of its own
abbrev pub document_text : Selection → ReadableAudit → Text
document_text selection audit = print (json_tokens (document selection audit)) ++ 10 ∷ []
