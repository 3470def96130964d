-- What is unloaded and wasn't loaded at the start is a live module, by its name and its file.
use Rattle.std.proofs.Common.{◌≡◌, Bool, true, false, cond, ◌&&◌, ◌||◌, List, [], ◌∷◌, Some, refl, sym, ◌∙◌}
use Rattle.std.proofs.Common.{subst}
use Rattle.std.specs.Prelude.{bytes_eq}
use Rattle.std.specs.List.{list_any}
use Rattle.std.proofs.lemmas.List.Folds.{list_any-append}
use Rattle.envvars.specs.Texts.{Text, has}
use Rattle.envvars.specs.Fields.{are_distinct}
use Rattle.envvars.specs.Environment.{Environment}
use Rattle.envstate.specs.loaded_list.Loaded.{Entry, names_of, loaded_in, AreLoadedInOrder}
use Rattle.envstate.proofs.StateLemmas.{list_in_order}
use Rattle.modulefile.specs.Moves.{Module, Unloads, entry_of, Fits}
use Rattle.reversal.specs.VariableUses.{VariableUse}
use Rattle.reversal.specs.Live.{entries_over}
use Rattle.reversal.specs.Starts.{IsInOrder, IsStartWith}
use Rattle.reversal.specs.Runs.{live_named}
use Rattle.requests.specs.Returning.{IsNew}
use Rattle.requests.proofs.Undone.{is_entry_of, not_among, same_list}
use Rattle.requests.proofs.PlainMoves.{same_live}

-- it is live

live_step : (m n : Module) (live : List Module) (b : Bool) (rest : Bool)
    → (rest || ((b && bytes_eq m.path n.path) || false)) ≡ true
    → (rest ≡ true → (l : Module) × (live_named m.name live ≡ Some l)) → (l : Module)
    × (cond b (Some n) (live_named m.name live) ≡ Some l)
live_step m n live true rest h r = (n, refl)
live_step m n live false true h r = r refl
live_step m n live false false h r = absurd (let g : false ≡ true = h in cc)

live_among : (m : Module) (xs : List Entry) (live : List Module) → has m.name (names_of xs) ≡ false
    → list_any (is_entry_of m) (entries_over xs live) ≡ true → (l : Module) × (live_named m.name live ≡ Some l)
live_among m xs [] h k = absurd (let g : false ≡ true = not_among m xs h k in cc)
live_among m xs (n ∷ live) h k =
    live_step m n live (bytes_eq m.name n.name) (list_any (is_entry_of m) (entries_over xs live))
    (sym (list_any-append (is_entry_of m) (entries_over xs live) (entry_of n ∷ [])) ∙ k) (live_among m xs live h)

-- both

pub record IsOfLive (live : List Module) (m : Module) : Type 0 where
  pub loaded : Module
  pub found : live_named m.name live ≡ Some loaded
  pub name : m.name ≡ loaded.name
  pub path : m.path ≡ loaded.path

pub of_live : (uses : Text → VariableUse) (start old : Environment) (live : List Module) (m : Module)
    → AreLoadedInOrder start → IsInOrder uses old → IsStartWith uses start live old → IsNew start (Unloads m)
    → Fits (Unloads m) old → IsOfLive live m
of_live uses start old live m begin order start_with_live new (xs, read, any) =
    let first = list_in_order start begin in
    let now : loaded_in old ≡ Some (entries_over first.0 live) = start_with_live.entries first.0 first.1 in
    let there : list_any (is_entry_of m) (entries_over first.0 live) ≡ true = subst
    (λ (ys : List Entry). list_any (is_entry_of m) ys ≡ true)
    (same_list xs (entries_over first.0 live) (sym read ∙ now)) any in
    let second = list_in_order old order.loaded in
    let distinct : are_distinct (names_of (entries_over first.0 live)) ≡ true = subst
    (λ (ys : List Entry). are_distinct (names_of ys) ≡ true)
    (same_list second.0 (entries_over first.0 live) (sym second.1 ∙ now)) second.2.once in
    let l = live_among m first.0 live (new first.0 first.1) there in
    let p = same_live m l.0 first.0 live distinct there l.1 in
    record { loaded = l.0; found = l.1; name = p.0; path = p.1 }
