-- Moves and requests with changes by hand between them.
use Rattle.std.proofs.Common.{List, [], ◌∷◌, ◌++◌, refl, sym, subst}
use Rattle.envvars.specs.Texts.{Text}
use Rattle.envvars.specs.Environment.{Environment}
use Rattle.modulefile.specs.Moves.{Module, Move, Loads, Unloads}
use Rattle.reversal.specs.VariableUses.{VariableUse}
use Rattle.reversal.specs.Starts.{IsStart}
use Rattle.reversal.specs.Runs.{without_live, live_after, AreReversibleTogether, AreReversible}
use Rattle.reversal.specs.Laws.{Holds, RunsReturn, MovesPreserve}
use Rattle.requests.specs.Requests.{Request}
use Rattle.requests.specs.Steps.{RequestContext}
use Rattle.requests.specs.Sessions.{Response, accepted, refused, given_up, in_shell}
use Rattle.requests.specs.Returning.{AreNew, AreReversibleBeside}
use Rattle.requests.specs.Laws.{CommandsReturn}
use Rattle.requests.specs.hand_changes.HandChanges.{HandChange, IsHandChange, start_after}
use Rattle.requests.specs.hand_changes.Laws.{HoldsAfterChange, OneChangeHolds, MovesAndHandsReturn, SessionsAndHandsReturn}
use Rattle.requests.specs.hand_changes.Laws.{one_move, MoveMakes, answered_moves, ResponseMakes}
use Rattle.requests.proofs.hand_changes.EventLemmas.{new_parts, new_kept, Keep, all_kept}

-- what holds at each moment
abbrev pub Stands : (Text → VariableUse) → List Module → Environment → Environment → Type 0
Stands uses live start e = IsStart uses start × Holds uses start live e × AreReversibleTogether uses live

pub stands_at_start : RunsReturn → (uses : Text → VariableUse) (start : Environment) → IsStart uses start → Stands uses [] start start
stands_at_start runs uses start s = (s, runs uses start start [] s tt refl, tt)

-- the start after a change is one in which the same modules are loaded
changed_stands : OneChangeHolds → (uses : Text → VariableUse) (live : List Module) (start e : Environment) (c : HandChange) → Stands uses live start e → IsHandChange uses live e c
    → HoldsAfterChange uses start live e c
changed_stands one uses live start e c s h = one uses start e live c s.0 s.1.order s.1.start_with_live h

-- ---- moves

move_stands : MovesPreserve → (uses : Text → VariableUse) (live : List Module) (start e next : Environment) (m : Move) (more : List Move) → Stands uses live start e
    → AreReversible uses live (m ∷ more) → MoveMakes m e next → Stands uses (live_after live (m ∷ [])) start next × AreReversible uses (live_after live (m ∷ [])) more
move_stands preserve uses live start e next (Loads m) more s r h =
    let p = preserve uses start e next live (Loads m ∷ []) s.0 s.1.order s.1.start_with_live s.2 (r.0, tt) (h.0, (next, h.1, refl)) in
    ((s.0, p.0, p.1), r.1)
move_stands preserve uses live start e next (Unloads m) more s r h =
    let p = preserve uses start e next live (Unloads m ∷ []) s.0 s.1.order s.1.start_with_live s.2 (r.0, tt) (h.0, (next, h.1, refl)) in
    ((s.0, p.0, p.1), r.1)

moves_keep : MovesPreserve → OneChangeHolds → (uses : Text → VariableUse)
    → Keep one_move MoveMakes (λ live. uses) (λ b a. Unit {0}) (Stands uses) (λ live start ms. AreReversible uses live ms)
moves_keep preserve one uses = record {
  by_act = λ live start e next m more s r allowed h. move_stands preserve uses live start e next m more s r h;
  by_change = λ live start e c more s r h. let p = changed_stands one uses live start e c s h in ((p.begins, p.holds, s.2), r);
}

pub moves_return : RunsReturn → MovesPreserve → OneChangeHolds → MovesAndHandsReturn
moves_return runs preserve one uses start last_start last events s r h =
    let p = all_kept one_move MoveMakes (λ live. uses) (λ b a. Unit {0}) (Stands uses) (λ live b ms. AreReversible uses live ms)
    (moves_keep preserve one uses) events [] start start last_start last (stands_at_start runs uses start s) r h in
    (p.0, p.1, p.2)

-- ---- requests and commands: their modules are new, reversible and apart

abbrev pub Coming : (Text → VariableUse) → List Module → Environment → List Move → Type 0
Coming uses live start ms = AreNew start ms × AreReversibleBeside uses live ms

fitting_parts : (uses : Text → VariableUse) (live : List Module) (ms ns : List Move) → AreReversibleBeside uses live (ms ++ ns)
    → AreReversibleBeside uses live ms × AreReversibleBeside uses (live_after live ms) ns
fitting_parts uses live [] ns h = (tt, h)
fitting_parts uses live (Loads m ∷ ms) ns h = let p = fitting_parts uses (m ∷ live) ms ns h.1 in ((h.0, p.0), p.1)
fitting_parts uses live (Unloads m ∷ ms) ns h = let p = fitting_parts uses (without_live m.name live) ms ns h.1 in ((h.0, p.0), p.1)

pub coming_parts : (uses : Text → VariableUse) (live : List Module) (start : Environment) (ms ns : List Move) → Coming uses live start (ms ++ ns)
    → Coming uses live start ms × Coming uses (live_after live ms) start ns
coming_parts uses live start ms ns h =
    let n = new_parts start ms ns h.0 in
    let f = fitting_parts uses live ms ns h.1 in
    ((n.0, f.0), (n.1, f.1))

-- so of any acts that keep what holds
pub acts_keep : {A : Type 0} → OneChangeHolds → (moves : A → List Move) (Makes : A → Environment → Environment → Type 0) (uses : Text → VariableUse)
    → ((live : List Module) (start e next : Environment) (a : A) → Stands uses live start e → Coming uses live start (moves a) → Makes a e next
    → Stands uses (live_after live (moves a)) start next)
    → Keep moves Makes (λ live. uses) (λ b a. Unit {0}) (Stands uses) (Coming uses)
acts_keep one moves Makes uses kept = record {
  by_act = λ live start e next a more s f allowed h.
      let p = coming_parts uses live start (moves a) more f in
      (kept live start e next a s p.0 h, p.1);
  by_change = λ live start e c more s f h.
      let p = changed_stands one uses live start e c s h in
      ((p.begins, p.holds, s.2), (new_kept start (start_after uses live start e c) more p.loaded f.0, f.1));
}

response_stands : CommandsReturn → (uses : Text → VariableUse) (s : RequestContext) (live : List Module) (start e next : Environment) (a : Request × Response) → Stands uses live start e
    → Coming uses live start (answered_moves a) → ResponseMakes s a e next → Stands uses (live_after live (answered_moves a)) start next
response_stands returns uses s live start e next (r, accepted d) stands f h =
    let p = returns uses (in_shell s r.0) start e live r.1 d stands.0 stands.1.order stands.1.start_with_live stands.2 h.0 f.0 f.1 in
    (stands.0, subst (Holds uses start (live_after live d.moves)) (sym h.1) p.0, p.1)
response_stands returns uses s live start e next (r, refused reason) stands f h = (stands.0, subst (Holds uses start live) (sym h.1) stands.1, stands.2)
response_stands returns uses s live start e next (r, given_up number) stands f h = (stands.0, subst (Holds uses start live) (sym h.1) stands.1, stands.2)

pub sessions_return : RunsReturn → CommandsReturn → OneChangeHolds → SessionsAndHandsReturn
sessions_return runs returns one uses s start last_start last events begins h news fits =
    let p = all_kept answered_moves (ResponseMakes s) (λ live. uses) (λ b a. Unit {0}) (Stands uses) (Coming uses)
    (acts_keep one answered_moves (ResponseMakes s) uses (response_stands returns uses s))
    events [] start start last_start last (stands_at_start runs uses start begins) (news, fits) h in
    (p.0, p.1, p.2)
