-- What the values of the code stand for in the definitions, for the contracts of private functions (own).
use Rattle.std.specs.Prelude.{List, map, string_bytes, String, vec_items}
use Rattle.std.specs.Borrow.{Bor}
use Rattle.std.specs.declared.alloc.Global.{Global}
use Rattle.module_reports.specs.declared.listings.options.Options.{Options}
use Rattle.module_reports.specs.declared.listings.layout.ReportedName.{ReportedName}
use Rattle.module_reports.specs.declared.listings.layout.ReportPart.{ReportPart}
use Rattle.module_reports.specs.listings.Options.{Words}
use Rattle.module_reports.specs.listings.Reports.{Name, Part}

-- options, with the texts behind them
abbrev pub words_view : Options × Bor (List (String Global)) → Words
words_view p = (p.0, map string_bytes p.1.now)

-- a name in a report, and a heading with the names below it
abbrev pub name_view : ReportedName → Name
name_view name = (string_bytes name.name, (name.is_default, name.is_loaded))

abbrev pub part_view : ReportPart → Part
part_view part = (string_bytes part.heading, map name_view (vec_items part.names))
