-- Accepted moves of new modules undo loads of live ones.
use Rattle.std.proofs.Common.{◌≡◌, Bool, true, false, cond, ◌&&◌, ◌||◌, List, [], ◌∷◌, Some, refl, sym, ◌∙◌, subst}
use Rattle.std.specs.Prelude.{bytes_eq}
use Rattle.std.specs.List.{list_any}
use Rattle.std.proofs.lemmas.List.Folds.{list_any-append}
use Rattle.envvars.specs.Texts.{Text, has}
use Rattle.envvars.specs.Environment.{Environment}
use Rattle.envstate.specs.loaded_list.Loaded.{Entry, names_of, loaded_in, AreLoadedInOrder}
use Rattle.envstate.proofs.loaded_list.LoadedAgain.{loaded_again}
use Rattle.modulefile.specs.Moves.{Module, Move, Loads, Unloads, entry_of, Fits, MovesReach}
use Rattle.reversal.specs.VariableUses.{VariableUse}
use Rattle.reversal.specs.Live.{entries_over}
use Rattle.reversal.specs.Starts.{IsInOrder, IsStart, IsStartWith}
use Rattle.reversal.specs.Runs.{live_named, without_live, AreReversibleTogether, Undoes, AreReversible}
use Rattle.reversal.specs.Laws.{MovesPreserve}
use Rattle.requests.specs.Returning.{IsNew, AreNew, UndoesItsLoad, AreReversibleBeside}

pub entries_read : (e : Environment) (o : AreLoadedInOrder e) → loaded_in e ≡ Some o.entries
entries_read e o = subst (λ (x : Environment). loaded_in x ≡ Some o.entries) o.written (loaded_again e o.entries o.list)

pub entries_at : (e : Environment) → AreLoadedInOrder e → (xs : List Entry) × (loaded_in e ≡ Some xs)
entries_at e o = (o.entries, entries_read e o)

-- the entry is that of the module
abbrev pub is_entry_of : Module → Entry → Bool
is_entry_of m x = bytes_eq m.name x.name && bytes_eq m.path x.path

not_among_step : (a b c d : Bool) → (a || c) ≡ false → ((a && b) || d) ≡ true → (c ≡ false → d ≡ true → false ≡ true) → false ≡ true
not_among_step true b c d h k r = sym h
not_among_step false b c d h k r = r h k

pub not_among : (m : Module) (xs : List Entry) → has m.name (names_of xs) ≡ false → list_any (is_entry_of m) xs ≡ true → false ≡ true
not_among m [] h k = k
not_among m (x ∷ xs) h k = not_among_step (bytes_eq m.name x.name) (bytes_eq m.path x.path) (has m.name (names_of xs)) (list_any (is_entry_of m) xs) h k (not_among m xs)

live_step : (m n : Module) (live : List Module) (b : Bool) (rest : Bool)
    → (rest || ((b && bytes_eq m.path n.path) || false)) ≡ true
    → (rest ≡ true → (l : Module) × (live_named m.name live ≡ Some l)) → (l : Module)
    × (cond b (Some n) (live_named m.name live) ≡ Some l)
live_step m n live true rest h r = (n, refl)
live_step m n live false true h r = r refl
live_step m n live false false h r = absurd (let g : false ≡ true = h in cc)

live_among : (m : Module) (xs : List Entry) (live : List Module) → has m.name (names_of xs) ≡ false
    → list_any (is_entry_of m) (entries_over xs live) ≡ true → (l : Module) × (live_named m.name live ≡ Some l)
live_among m xs [] h k = absurd (let g : false ≡ true = not_among m xs h k in cc)
live_among m xs (n ∷ live) h k =
    live_step m n live (bytes_eq m.name n.name) (list_any (is_entry_of m) (entries_over xs live))
    (sym (list_any-append (is_entry_of m) (entries_over xs live) (entry_of n ∷ [])) ∙ k) (live_among m xs live h)

pub same_list : (xs ys : List Entry) → Some xs ≡ Some ys → xs ≡ ys
same_list xs ys e = cc

pub undoes : (uses : Text → VariableUse) (start old : Environment) (bs : List Entry) (live : List Module) (m : Module)
    → loaded_in start ≡ Some bs → IsStartWith uses start live old → IsNew start (Unloads m) → UndoesItsLoad live m
    → Fits (Unloads m) old → Undoes live m
undoes uses start old bs live m list start_with_live new records (xs, read, any) =
    let same : xs ≡ entries_over bs live = same_list xs (entries_over bs live) (sym read ∙ start_with_live.entries bs list) in
    let l = live_among m bs live (new bs list) (subst (λ (ys : List Entry). list_any (is_entry_of m) ys ≡ true) same any) in
    record { loaded = l.0; found = l.1; alike = records l.0 l.1 }

pub reversible : MovesPreserve → (uses : Text → VariableUse) (start : Environment) → IsStart uses start
    → (ms : List Move) (live : List Module) (old new : Environment) → IsInOrder uses old
    → IsStartWith uses start live old → AreReversibleTogether uses live → AreNew start ms
    → AreReversibleBeside uses live ms → MovesReach ms old new → AreReversible uses live ms
reversible step_law uses start begin [] live old new order start_with_live fit news fitting reach = tt
reversible step_law uses start begin (Loads m ∷ ms) live old new order start_with_live fit news fitting (fits, (mid, move, reach)) =
    let h = step_law uses start old mid live (Loads m ∷ []) begin order start_with_live fit (fitting.0, tt) (fits, (mid, move, refl)) in
    (fitting.0, reversible step_law uses start begin ms (m ∷ live) mid new h.0.order h.0.start_with_live h.1 news.1 fitting.1 reach)
reversible step_law uses start begin (Unloads m ∷ ms) live old new order start_with_live fit news fitting (fits, (mid, move, reach)) =
    let bs = entries_at start begin.order.loaded in
    let u = undoes uses start old bs.0 live m bs.1 start_with_live news.0 fitting.0 fits in
    let h = step_law uses start old mid live (Unloads m ∷ []) begin order start_with_live fit (u, tt) (fits, (mid, move, refl)) in
    (u, reversible step_law uses start begin ms (without_live m.name live) mid new h.0.order h.0.start_with_live h.1 news.1 fitting.1 reach)
