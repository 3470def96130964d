-- The report of an audit as lines (own).
use Rattle.std.specs.Prelude.{ℕ, ◌+◌, ◌==◌, if◌then◌else◌, List, [], ◌++◌, codes, decimal, flat_map, length, Option}
use Rattle.std.specs.Prelude.{string_bytes}
use Rattle.envvars.specs.Texts.{Text}
use Rattle.audit_site.specs.declared.auditing.AuditedModule.{AuditedModule}
use Rattle.audit_report.specs.declared.readable.ReadableAudit.{ReadableAudit}
use Rattle.audit_report.specs.declared.selection.Selection.{Selection}
use Rattle.audit_report.specs.Readable.{unreadable_line}
use Rattle.audit_report.specs.Refused.{line_field, standing_line}
use Rattle.audit_report.specs.Tried.{TriedModule, here, with_dry_runs}
use Rattle.audit_report.specs.Words.{spelled, standing_word, reason, is_named, certified_count, standing_count}
use Rattle.audit_report.specs.Remarks.{missing_line, unreachable_line, other_reasons_lines, no_modulefile_line, bad_file_line}
use Rattle.audit_report.specs.Remarks.{conflict_lines, prereq_line, unread_file_line, environment_lines, not_utf8_line}
use Rattle.audit_dry_runs.specs.declared.dry_run.DryRun.{DryRun}

-- the line of a module: its name, its standing in one word, the reason and its path, parted by tabs; then the line at
-- which it is refused, and what happens here
unfoldable pub module_line : AuditedModule → Option DryRun → Text
module_line m dry_run =
    spelled (string_bytes m.name) ++ (codes "\t" ++ (standing_word m.standing ++ (codes "\t"
    ++ (spelled (reason m) ++ (codes "\t" ++ (spelled (string_bytes m.path)
    ++ (line_field (standing_line m.standing) ++ (here dry_run ++ codes "\n"))))))))

-- the line of a module that the report names; else nothing
abbrev pub named_line : Selection → TriedModule → Text
named_line selection (m, dry_run) = if is_named selection m.standing then module_line m dry_run else []

-- the lines of the modules that the report names, each with its dry run
abbrev pub named_lines : Selection → List AuditedModule → List (Option DryRun) → Text
named_lines selection modules dry_runs = flat_map (named_line selection) (with_dry_runs modules dry_runs)

-- how many of the modules are certified, of them and so many others
abbrev pub count_line : ℕ → List AuditedModule → Text
count_line others modules =
    codes "# " ++ (decimal (certified_count modules) ++
    (codes " certified of " ++ (decimal (length modules + others) ++ codes "\n")))

-- so many modules stand as the word says; nothing where none does
abbrev pub number_line : ℕ → Text → Text
number_line n word = if n == 0 then [] else codes "# " ++ (decimal n ++ (codes " " ++ (word ++ codes "\n")))

-- how many of the modules do, with so many others
unfoldable pub sum_line : Text → ℕ → List AuditedModule → Text
sum_line word others modules = number_line (standing_count word modules + others) word

-- the same of each standing but certified: so many others are refused
abbrev pub sum_lines : ℕ → List AuditedModule → Text
sum_lines refused modules =
    sum_line (codes "unstable") 0 modules ++ (sum_line (codes "one-way") 0 modules
    ++ (sum_line (codes "inconsistent") 0 modules ++ (sum_line (codes "excluded") 0 modules
    ++ (sum_line (codes "clashes") 0 modules ++ sum_line (codes "refused") refused modules))))

-- the lines of the modules that the report names, and of what can't be read
abbrev pub lines_of : Selection → ReadableAudit → Text
lines_of selection audit =
    named_lines selection audit.found.modules.items audit.dry_runs.items
    ++ flat_map unreadable_line audit.unreadable.items

-- how many of them are certified, and how many stand in each other way
abbrev pub counts_of : ReadableAudit → Text
counts_of audit =
    count_line (length audit.unreadable.items) audit.found.modules.items
    ++ sum_lines (length audit.unreadable.items) audit.found.modules.items

-- The whole report: the modules that it names, what can't be read, how many stand in each way, and the remarks.
abbrev pub report_of : Selection → ReadableAudit → Text
report_of selection audit =
    let found = audit.found in
    lines_of selection audit ++ (counts_of audit
    ++ (flat_map (missing_line audit.unreadable.items) found.missing_directories.items
    ++ (flat_map unreachable_line found.unreachable_directories.items ++ (flat_map other_reasons_lines found.modules.items
    ++ (flat_map no_modulefile_line found.no_modulefiles.items
    ++ (flat_map unread_file_line found.unread_default_files.items
    ++ (flat_map bad_file_line found.bad_default_files.items
    ++ (conflict_lines found.unknown_names.items ++ (flat_map prereq_line found.unknown_names.items
    ++ (environment_lines found.disagreements.items ++ flat_map not_utf8_line audit.not_utf8.items))))))))))
