use Rattle.std.proofs.Common.{◌≡◌, map, take}
use Rattle.envvars.specs.Texts.{slice_texts}
use Rattle.lookup.specs.LineViews.{line_view}
use Rattle.module_reports.specs.descriptions.Descriptions.{name_of}
use Rattle.module_reports.proofs.descriptions.all_names.names_of.Given as goal

abbrev pub invariant-loop-listing : goal.invariant-loop-listing
invariant-loop-listing l = slice_texts l.names.items ≡ map name_of (map line_view (take l.listing-index l.listings))
