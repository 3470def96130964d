-- Events one after another, by what each act and each change by hand keeps.
use Rattle.std.proofs.Common.{◌≡◌, List, [], ◌∷◌, ◌++◌, refl, sym, subst, ◌∙◌}
use Rattle.envvars.specs.Texts.{Text}
use Rattle.envvars.specs.Environment.{Environment}
use Rattle.envstate.specs.loaded_list.Loaded.{loaded_in}
use Rattle.modulefile.specs.Moves.{Module, Move, Loads, Unloads}
use Rattle.reversal.specs.VariableUses.{VariableUse}
use Rattle.reversal.specs.Runs.{without_live, live_after}
use Rattle.requests.specs.Returning.{AreNew}
use Rattle.requests.specs.hand_changes.HandChanges.{HandChange, changed, IsHandChange, start_after}
use Rattle.requests.specs.hand_changes.Events.{Event, act, by_hand, moves_of, EventsReachWhile}

pub live_together : (live : List Module) (ms ns : List Move) → live_after live (ms ++ ns) ≡ live_after (live_after live ms) ns
live_together live [] ns = refl
live_together live (Loads m ∷ ms) ns = live_together (m ∷ live) ms ns
live_together live (Unloads m ∷ ms) ns = live_together (without_live m.name live) ms ns

pub new_parts : (start : Environment) (ms ns : List Move) → AreNew start (ms ++ ns) → AreNew start ms × AreNew start ns
new_parts start [] ns h = (tt, h)
new_parts start (m ∷ ms) ns h = let p = new_parts start ms ns h.1 in ((h.0, p.0), p.1)

-- of a start in which the same modules are loaded
pub new_kept : (start other : Environment) (ms : List Move) → loaded_in other ≡ loaded_in start → AreNew start ms → AreNew other ms
new_kept start other [] l h = tt
new_kept start other (Loads m ∷ ms) l h = (tt, new_kept start other ms l h.1)
new_kept start other (Unloads m ∷ ms) l h = ((λ xs q. h.0 xs (sym l ∙ q)), new_kept start other ms l h.1)

-- What holds of the live modules, the start and the environment, and what the moves that are still to come have to be.
abbrev pub Standing : Type 1
Standing = List Module → Environment → Environment → Type 0

abbrev pub Coming : Type 1
Coming = List Module → Environment → List Move → Type 0

-- Each act keeps both, of a start that allows it; so does each change by hand.
pub record Keep {A : Type 0} (moves : A → List Move) (Makes : A → Environment → Environment → Type 0)
    (uses_while : List Module → Text → VariableUse) (Allows : Environment → A → Type 0) (Stands : Standing) (Fits : Coming)
    : Type 0 where
  pub by_act : (live : List Module) (start e next : Environment) (a : A) (more : List Move) → Stands live start e
      → Fits live start (moves a ++ more) → Allows start a → Makes a e next
      → Stands (live_after live (moves a)) start next × Fits (live_after live (moves a)) start more
  pub by_change : (live : List Module) (start e : Environment) (c : HandChange) (more : List Move) → Stands live start e
      → Fits live start more → IsHandChange (uses_while live) live e c
      → Stands live (start_after (uses_while live) live start e c) (changed c e)
      × Fits live (start_after (uses_while live) live start e c) more

pub all_kept : {A : Type 0} (moves : A → List Move) (Makes : A → Environment → Environment → Type 0)
    (uses_while : List Module → Text → VariableUse) (Allows : Environment → A → Type 0) (Stands : Standing) (Fits : Coming)
    → Keep moves Makes uses_while Allows Stands Fits
    → (events : List (Event A)) (live : List Module) (start e last_start last : Environment)
    → Stands live start e → Fits live start (moves_of moves events)
    → EventsReachWhile moves Makes uses_while Allows live start e events last_start last
    → Stands (live_after live (moves_of moves events)) last_start last
all_kept moves Makes uses_while Allows Stands Fits k [] live start e last_start last stands fits h =
    subst (λ (b : Environment). Stands live b last) (sym h.0) (subst (Stands live start) (sym h.1) stands)
all_kept moves Makes uses_while Allows Stands Fits k (act a ∷ events) live start e last_start last stands fits (allowed, (next, made, after)) =
    let p = k.by_act live start e next a (moves_of moves events) stands fits allowed made in
    subst (λ (l : List Module). Stands l last_start last) (sym (live_together live (moves a) (moves_of moves events)))
    (all_kept moves Makes uses_while Allows Stands Fits k events (live_after live (moves a)) start next last_start last p.0 p.1 after)
all_kept moves Makes uses_while Allows Stands Fits k (by_hand c ∷ events) live start e last_start last stands fits (may, after) =
    let p = k.by_change live start e c (moves_of moves events) stands fits may in
    all_kept moves Makes uses_while Allows Stands Fits k events live (start_after (uses_while live) live start e c) (changed c e) last_start last p.0 p.1 after
