use Rattle.std.proofs.Common.{map, sym, ap, ◌∙◌}
use Rattle.search.specs.ListingEntries.{listing_entry_view}
use Rattle.module_reports.specs.listings.Chosen.{asked_for}
use Rattle.module_reports.specs.declared.listings.options.Versions.{Versions}
use Rattle.module_reports.proofs.listings.ChosenLemmas.{every_asked_for}
use Rattle.module_reports.proofs.listings.chosen.asked_for.Goals as goal

pub returns-in-Every : goal.returns-in-Every
returns-in-Every c =
    let modules = map listing_entry_view c.args.modules.items in
    sym (ap (λ (versions : Versions). asked_for versions modules modules) c.in-Every.is ∙ every_asked_for modules modules)
