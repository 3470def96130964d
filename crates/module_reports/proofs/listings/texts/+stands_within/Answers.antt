use Rattle.std.proofs.Common.{◌≡◌, Bool, true, ◌||◌, List, ℕ, [], ◌∷◌, sym, ap, ◌∙◌}
use Rattle.module_reports.specs.listings.Texts.{stands_in_front, stands_within}
use Rattle.module_reports.proofs.listings.texts.+stands_within.Goals as goal

-- what stands at the front stands in it
front_within : (any_case : Bool) (name text : List ℕ) → stands_in_front any_case name text ≡ true → stands_within any_case name text ≡ true
front_within any_case [] text h = h
front_within any_case (b ∷ name) text h = ap (λ r. r || stands_within any_case name text) h

pub returns-then-stands_in_front : goal.returns-then-stands_in_front
returns-then-stands_in_front t c =
    sym (front_within c.args.any_case c.args.name.now c.args.text.now (sym c.stands_in_front.ensures ∙ c.if-stands_in_front.true))
