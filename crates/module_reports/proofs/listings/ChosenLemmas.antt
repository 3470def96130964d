-- Where each version is asked for, all modules are.
use Rattle.std.proofs.Common.{◌≡◌, List, [], ◌∷◌, refl, ap}
use Rattle.search.specs.Listed.{ListingEntry}
use Rattle.module_reports.specs.listings.Chosen.{asked_for}
use Rattle.module_reports.specs.declared.listings.options.Versions.TheVariants.{Every}

pub every_asked_for : (modules later : List ListingEntry) → asked_for Every modules later ≡ later
every_asked_for modules [] = refl
every_asked_for modules (entry ∷ later) = ap (λ others. entry ∷ others) (every_asked_for modules later)
