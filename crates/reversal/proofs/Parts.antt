-- The parts of what is asked of moves, together.
use Rattle.std.proofs.Common.{◌≡◌, true, List, [], ◌∷◌, refl}
use Rattle.std.specs.List.{list_all}
use Rattle.envvars.specs.Texts.{Text}
use Rattle.envvars.proofs.EditLemmas.{both_true, and_both}
use Rattle.modulefile.specs.Records.{Record, Path}
use Rattle.modulefile.specs.Moves.{Module, Move, Loads, Unloads}
use Rattle.reversal.specs.VariableUses.{VariableUse, is_reversible, can_return, AllFollowUses, AllSuit}
use Rattle.reversal.specs.Runs.{without_live, AreReversible}
use Rattle.reversal.specs.Examples.{Part, of_kind, follows_use, apart, alive, undoes_alike, HasPart, PartsAreAll}

-- records that each suit in kind and in use
pub all_suit : (uses : Text → VariableUse) (rs : List Record) → list_all can_return rs ≡ true → AllFollowUses uses rs → AllSuit uses rs
all_suit uses [] k w = tt
all_suit uses (r ∷ rs) k w = let b = both_true (can_return r) (list_all can_return rs) k in ((b.0, w.0), all_suit uses rs b.1 w.1)

-- where unloading undoes a record, the start can be back

returns : (r : Record) → is_reversible r ≡ true → can_return r ≡ true
returns (Path edit delim var xs) h = h
returns r h = refl

pub all_return : (rs : List Record) → list_all is_reversible rs ≡ true → list_all can_return rs ≡ true
all_return [] h = refl
all_return (r ∷ rs) h =
    let b = both_true (is_reversible r) (list_all is_reversible rs) h in
    and_both (can_return r) (list_all can_return rs) (returns r b.0) (all_return rs b.1)

all_parts : (uses : Text → VariableUse) (live : List Module) (ms : List Move) → ((part : Part) → HasPart part uses live ms) → AreReversible uses live ms
all_parts uses live [] h = tt
all_parts uses live (Loads m ∷ ms) h = (
  record { suits = all_suit uses m.records (h of_kind).0 (h follows_use).0; sets_apart = (h apart).0 },
  all_parts uses (m ∷ live) ms (λ part. (h part).1),
)
all_parts uses live (Unloads m ∷ ms) h = (
  record { loaded = (h alive).0.0; found = (h alive).0.1; alike = (h undoes_alike).0 (h alive).0.0 (h alive).0.1 },
  all_parts uses (without_live m.name live) ms (λ part. (h part).1),
)

pub parts_are_all : PartsAreAll
parts_are_all uses ms h = all_parts uses [] ms h
