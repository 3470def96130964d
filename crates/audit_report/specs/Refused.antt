-- Where a refused file stopped, in the report of an audit (own).
use Rattle.std.specs.Prelude.{ℕ, ◌++◌, [], codes, decimal, option_and_then, option_map, Option, Some, None}
use Rattle.envvars.specs.Texts.{Text}
use Rattle.modulefile.specs.Files.{FileReason}
use Rattle.modulefile_run.specs.Running.{file_reason_of}
use Rattle.modules.specs.declared.refusal.Refusal.{Refusal}
use Rattle.modules.specs.declared.refusal.Refusal.TheVariants.{Run}
use Rattle.audit_site.specs.declared.standing.AuditStanding.{AuditStanding}
use Rattle.audit_site.specs.declared.standing.AuditStanding.TheVariants.{Refused}
use Rattle.audit_report.specs.declared.refused.FileLine.{FileLine}

-- the path of the file, and the line of the command at which its evaluation ended; none where no command had begun
abbrev pub stopped_at : FileReason → Option (Text × ℕ)
stopped_at reason = option_map (λ place. (reason.path, place.line)) reason.place

-- where the file of a refusal stopped; none where no file is refused, or memory ran out
abbrev pub refused_at : Refusal → Option (Text × ℕ)
refused_at (Run fault) = option_and_then stopped_at (file_reason_of fault)
refused_at refusal = None

-- the line at which it stopped
abbrev pub refused_line : Refusal → Option ℕ
refused_line refusal = option_map (λ at. at.1) (refused_at refusal)

-- the line at which a module is refused; none where it isn't refused
abbrev pub standing_line : AuditStanding → Option ℕ
standing_line (Refused refusal) = refused_line refusal
standing_line standing = None

-- the field of a line, behind a tab; nothing where there is no line
abbrev pub line_field : Option ℕ → Text
line_field None = []
line_field (Some line) = codes "\tline " ++ decimal line

-- For the contracts of private functions: a line of a file, as the code has it.
abbrev pub line_view : FileLine → Text × ℕ
line_view at = (at.path.now, at.line)
