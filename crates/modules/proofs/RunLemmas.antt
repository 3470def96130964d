-- Changes, and what they make.
use Rattle.std.proofs.Common.{◌≡◌, List, sym, subst, ap, ◌∙◌}
use Rattle.envvars.specs.Environment.{Environment}
use Rattle.envvars.specs.Changes.{NewValue, AreChanges, applied}

-- what differs, written over the old environment, gives the new one
abbrev pub DifferenceApplies : Type 0
DifferenceApplies = (old new : Environment) (cs : List NewValue) → AreChanges old new cs → applied cs old ≡ new

pub left_of : DifferenceApplies → (e old new : Environment) (cs : List NewValue) → old ≡ e → AreChanges old new cs → new ≡ applied cs e
left_of law e old new cs same h = sym (law old new cs h) ∙ ap (applied cs) same

pub exact_of : DifferenceApplies → (e old new : Environment) (cs : List NewValue) → old ≡ e → AreChanges old new cs → AreChanges e (applied cs e) cs
exact_of law e old new cs same h =
    let From : Environment → Type 0 = λ x. AreChanges x new cs in
    let To : Environment → Type 0 = λ x. AreChanges e x cs in
    subst To (left_of law e old new cs same h) (subst From same h)
