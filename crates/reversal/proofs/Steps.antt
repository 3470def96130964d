-- What one move keeps.
use Rattle.std.proofs.Common.{◌≡◌, ◌+◌, true, false, List, [], ◌∷◌, refl, sym, ap, ◌∙◌, subst, Option, Some, None, Result}
use Rattle.std.proofs.Common.{ℕ, Ok}
use Rattle.std.specs.Prelude.{bytes_eq, is_some, unwrap_or}
use Rattle.std.specs.List.{list_all}
use Rattle.std.specs.Option.{option_or}
use Rattle.std.proofs.lemmas.Bool.{false≢true}
use Rattle.std.proofs.lemmas.Option.{same_Some}
use Rattle.modulename.specs.ModuleName.{is_module_name}
use Rattle.envvars.specs.Texts.{Text, has}
use Rattle.envvars.specs.Fields.{without}
use Rattle.envvars.specs.Environment.{Environment, lookup}
use Rattle.envvars.proofs.TextLemmas.{same_text, bytes_eq-same}
use Rattle.envvars.proofs.EditLemmas.{both_true}
use Rattle.envstate.specs.stacks.Stacks.{OwnedValue, StackState, is_owner, holds}
use Rattle.envstate.specs.stacks.StackRuns.{IsOwnedStart, other_pushes, start_with_pushes}
use Rattle.envstate.specs.stacks.StackVariables.{stack_in, is_loaded_owner, IsStackInOrder}
use Rattle.envstate.proofs.stacks.StackInOrder.{order_of_fewer}
use Rattle.envstate.specs.loaded_list.Loaded.{Entry, names_of, loaded_in, AreLoadedInOrder}
use Rattle.envstate.proofs.loaded_list.LoadedEdits.{loaded_after_add}
use Rattle.envstate.proofs.loaded_list.LoadedOrder.{add_in_order, drop_keeps_order}
use Rattle.envstate.specs.Roles.{role_of, is_editable}
use Rattle.envstate.specs.Roles.VariableRole.{Other}
use Rattle.envstate.specs.Frames.{IsVariableUnchanged, AreLoadedUnchanged}
use Rattle.envstate.specs.EnvLaws.{AreSound}
use Rattle.envstate.proofs.FrameLemmas.{add_edits_loaded, drop_edits_loaded, loaded_keeps, loaded_rest_stays}
use Rattle.envstate.proofs.StateLemmas.{start_of, standing_absent, names_dropped, list_in_order, dropped_list}
use Rattle.modulefile.specs.Records.{Record, variable_of}
use Rattle.modulefile.specs.Judgments.{RecordReason}
use Rattle.modulefile.specs.Effects.{Mode, load, unload, effect, effects}
use Rattle.modulefile.specs.Moves.{Module, Loads, Unloads, entry_of, moved, Fits}
use Rattle.reversal.specs.VariableUses.{VariableUse, Untouched, Fixed, Absent, Pathed, Stacked, AllSuit}
use Rattle.reversal.specs.Live.{last_set, live_set, adds, live_adds, last_push, with_push, live_pushes, entries_over}
use Rattle.reversal.specs.Undone.{undo_of, UndoEquivalently}
use Rattle.reversal.specs.Starts.{IsStart, HasValue, IsPermutation}
use Rattle.reversal.specs.Runs.{live_named, without_live, IsReversibleAndApart, AreReversibleTogether}
use Rattle.reversal.proofs.Frames.{Side, loads, unloads, touched, kept_loaded, kept_rest}
use Rattle.reversal.proofs.Loads.{parts, load_parts, unload_parts}
use Rattle.reversal.proofs.Alike.{done_by_left, left_suit, left_adds, left_sets, left_pushes}
use Rattle.reversal.proofs.OneVariable.{by_test, pick, same_pick, value_kept, all_untouched, loads_fixed, unloads_fixed, or_unwrap}
use Rattle.reversal.proofs.OneVariable.{loads_absent, unloads_absent}
use Rattle.reversal.proofs.OneVariable.{PathAt, path_kept, path_same, loads_path, unloads_path}
use Rattle.reversal.proofs.OneStack.{more_loaded, StackAt, stack_kept, Pusher, loads_push, unloads_push, popped}
use Rattle.reversal.proofs.ModuleEntries.{added_entry}
use Rattle.reversal.proofs.LiveModules.{live_names, adds_less, suits_of, set_same, set_alone, fit_less, order_with}
use Rattle.reversal.proofs.LiveModules.{order_has, no_push, other_live, order_popped, apart_of, apart_distinct}
use Rattle.reversal.proofs.LiveModules.{apart_named, fresh, gone, entries_less, more_there, newest_there, named_there}

-- records leave the loaded list and every name that is none of the tool's

record Through (old new : Environment) : Type 0 where
  loaded : AreLoadedUnchanged old new
  rest : (q : Text) → role_of q ≡ Other → lookup new q ≡ lookup old q

through_self : (e : Environment) → Through e e
through_self e = record { loaded = record { list = refl; order = λ o. o }; rest = λ q h. refl }

all_through : (mode : Mode) (side : Side mode) (uses : Text → VariableUse) (owner : Text) (rs : List Record)
    (old new : Environment) → AllSuit uses rs → effects mode owner rs old ≡ Ok new → Through old new
all_through mode side uses owner [] old new s e = let q : old ≡ new = cc in subst (Through old) q (through_self old)
all_through mode side uses owner (r ∷ rs) old new s e =
    let p = parts (effect mode owner r old) (effects mode owner rs) new e in
    let t = touched mode side owner r old p.0 s.0.0 p.1 in
    let a = kept_loaded (variable_of r) old p.0 t in
    let i = all_through mode side uses owner rs p.0 new s.1 p.2 in
    record {
      loaded = record { list = i.loaded.list ∙ a.list; order = λ o. i.loaded.order (a.order o) };
      rest = λ q h. i.rest q h ∙ kept_rest (variable_of r) old p.0 q t h;
    }

-- one variable, by its use, with what is in order

pub record StackHeld (b e : Environment) (w : Text) (loaded : List Text) (live : List Module) : Type 0 where
  pub base : StackState
  pub found : stack_in b w ≡ Some base
  pub pushes : List (Text × Text)
  pub order : IsPermutation pushes (live_pushes w live)
  pub at_ : StackAt b e w loaded base pushes

abbrev pub Held : VariableUse → Environment → Text → List Text → List Module → Environment → Type 0
Held Untouched b w loaded live e = HasValue b e w (lookup b w)
Held (Fixed k) b w loaded live e = HasValue b e w (unwrap_or (live_set w live) (lookup b w))
Held Absent b w loaded live e = HasValue b e w (lookup b w)
Held (Pathed d) b w loaded live e = PathAt b e w d (live_adds w live)
Held Stacked b w loaded live e = StackHeld b e w loaded live

held_kept : (y : VariableUse) (b : Environment) (w : Text) (loaded : List Text) (live : List Module)
    (old new : Environment) → IsVariableUnchanged old new w → Held y b w loaded live old → Held y b w loaded live new
held_kept Untouched b w loaded live old new k h = value_kept b old new w (lookup b w) k h
held_kept (Fixed v) b w loaded live old new k h = value_kept b old new w (unwrap_or (live_set w live) (lookup b w)) k h
held_kept Absent b w loaded live old new k h = value_kept b old new w (lookup b w) k h
held_kept (Pathed d) b w loaded live old new k h = path_kept b old new w d (live_adds w live) k h
held_kept Stacked b w loaded live old new k h = record { base = h.base; found = h.found; pushes = h.pushes; order = h.order; at_ = stack_kept b old new w loaded h.base h.pushes k h.at_ }

pub record Kept (uses : Text → VariableUse) (b : Environment) (xs : List Entry) (live : List Module) (e : Environment) : Type 0 where
  pub loaded : AreLoadedInOrder e
  pub list : loaded_in e ≡ Some (entries_over xs live)
  pub held : (w : Text) → is_editable w ≡ true → Held (uses w) b w (names_of (entries_over xs live)) live e
  pub others : (q : Text) → role_of q ≡ Other → lookup e q ≡ lookup b q
  pub fit : AreReversibleTogether uses live

-- the start, and its entries
pub record Begun (uses : Text → VariableUse) (b : Environment) (xs : List Entry) : Type 0 where
  pub start : IsStart uses b
  pub list : loaded_in b ≡ Some xs
  pub sound : AreSound xs

pub sound_of : (e : Environment) (xs : List Entry) → AreLoadedInOrder e → loaded_in e ≡ Some xs → AreSound xs
sound_of e xs o l = let p = list_in_order e o in subst AreSound (same_Some p.0 xs (sym p.1 ∙ l)) p.2

-- no item of the start is of a module that isn't loaded there

owners_foreign : (n : Text) (names : List Text) (items : List OwnedValue) → list_all (λ item. is_loaded_owner names item.0) items ≡ true → has n names ≡ false → holds n items ≡ false
owners_foreign n names [] h k = refl
owners_foreign n names (item ∷ items) h k =
    let p = both_true (is_loaded_owner names item.0) (list_all (λ i. is_loaded_owner names i.0) items) h in
    rw (one item.0 p.0) (owners_foreign n names items p.1 k)
  where
    one : (o : Option Text) → is_loaded_owner names o ≡ true → is_owner n o ≡ false
    one None q = refl
    one (Some u) q = by_test (bytes_eq n u) _
        (λ t. absurd (false≢true (sym k ∙ ap (λ (z : Text). has z names) (same_text n u t) ∙ q)))
        (λ t. t)

pusher : (uses : Text → VariableUse) (b : Environment) (xs : List Entry) (w owner : Text) (names : List Text)
    (base : StackState) → Begun uses b xs → is_editable w ≡ true → uses w ≡ Stacked → stack_in b w ≡ Some base
    → list_all is_module_name names ≡ true → has owner names ≡ true → has owner (names_of xs) ≡ false → Pusher owner names base
pusher uses b xs w owner names base g f q found n there absent =
    let s = start_of (names_of xs) b w g.sound.names (g.start.order.stacks w xs f q g.list) in
    let same : s.0 ≡ base = same_Some s.0 base (sym s.1.found ∙ found) in
    record {
      names = n;
      there = there;
      start = subst IsOwnedStart same s.1.owned;
      foreign = ap (λ (z : StackState). holds owner z.items) (sym same) ∙ owners_foreign owner (names_of xs) s.0.items s.1.owners absent;
    }

or_nothing : (o : Option Text) → option_or o None ≡ o
or_nothing None = refl
or_nothing (Some x) = refl

-- a load

held_load : (uses : Text → VariableUse) (b : Environment) (xs : List Entry) (live : List Module) (m : Module)
    (old mid : Environment) (w : Text) (y : VariableUse) → uses w ≡ y → Begun uses b xs → is_editable w ≡ true
    → AllSuit uses m.records → effects load m.name m.records old ≡ Ok mid → list_all is_module_name (names_of (entries_over xs (m ∷ live))) ≡ true
    → has m.name (names_of xs) ≡ false → has m.name (live_names live) ≡ false
    → Held y b w (names_of (entries_over xs live)) live old → Held y b w (names_of (entries_over xs (m ∷ live))) (m ∷ live) mid
held_load uses b xs live m old mid w Untouched q g f s e n a l h = all_untouched load loads uses m.name w m.records b old mid (lookup b w) q s f e h
held_load uses b xs live m old mid w (Fixed k) q g f s e n a l h =
    subst (HasValue b mid w) (sym (or_unwrap (last_set w m.records) (live_set w live) (lookup b w)))
    (loads_fixed uses m.name w k m.records b old mid (unwrap_or (live_set w live) (lookup b w)) q s f e h)
held_load uses b xs live m old mid w Absent q g f s e n a l h =
    let none : lookup b w ≡ None = g.start.absent w f q in
    subst (HasValue b mid w) (sym none) (loads_absent uses m.name w m.records b old mid q s f e (subst (HasValue b old w) none h))
held_load uses b xs live m old mid w (Pathed d) q g f s e n a l h = loads_path uses m.name w d m.records b old mid (live_adds w live) q s f e h
held_load uses b xs live m old mid w Stacked q g f s e n a l h =
    let p = pusher uses b xs w m.name (names_of (entries_over xs (m ∷ live))) h.base g f q h.found n (newest_there m.name xs m live (bytes_eq-same m.name)) a in
    let before : StackAt b old w (names_of (entries_over xs (m ∷ live))) h.base h.pushes = record {
      order = more_loaded (names_of (entries_over xs live)) (names_of (entries_over xs (m ∷ live))) old w (λ o. more_there o xs m live) h.at_.order;
      state = h.at_.state;
      counters = h.at_.counters;
    } in
    record {
      base = h.base;
      found = h.found;
      pushes = with_push m.name (last_push w m.records) h.pushes;
      order = order_with m.name (last_push w m.records) h.pushes (live_pushes w live) h.order;
      at_ = subst (λ (z : Option Text). StackAt b mid w (names_of (entries_over xs (m ∷ live))) h.base (with_push m.name z h.pushes)) (or_nothing (last_push w m.records))
          (loads_push uses m.name w m.records b old mid (names_of (entries_over xs (m ∷ live))) h.base None h.pushes q s f p (other_live m.name w live h.pushes h.order l) e before);
    }

pub kept_load : (uses : Text → VariableUse) (b : Environment) (xs : List Entry) (live : List Module) (m : Module)
    (old new : Environment) → Begun uses b xs → Kept uses b xs live old → IsReversibleAndApart uses live m
    → Fits (Loads m) old
    → moved (Loads m) old ≡ Ok new → Kept uses b xs (m ∷ live) new
kept_load uses b xs live m old new g k fit fits h =
    let p = load_parts m old new h in
    let t = all_through load loads uses m.name m.records old p.mid fit.suits p.effects in
    let list : loaded_in new ≡ Some (entries_over xs (m ∷ live)) = added_entry m (entries_over xs live) new
    (loaded_after_add p.mid new (entry_of m) (entries_over xs live) (t.loaded.list ∙ k.list) p.entry) in
    let order : AreLoadedInOrder new = add_in_order p.mid new (entry_of m) p.entry in
    let sound : AreSound (entries_over xs (m ∷ live)) = sound_of new (entries_over xs (m ∷ live)) order list in
    let same : fits.0 ≡ entries_over xs live = same_Some fits.0 (entries_over xs live) (sym fits.1 ∙ k.list) in
    let absent : has m.name (names_of (entries_over xs live)) ≡ false = subst (λ (z : List Entry). has m.name (names_of z) ≡ false) same fits.2 in
    let apart = fresh m.name xs live absent in
    let only = add_edits_loaded p.mid new (entry_of m) p.entry in
    record {
      loaded = order;
      list = list;
      held = λ w f. held_kept (uses w) b w (names_of (entries_over xs (m ∷ live))) (m ∷ live) p.mid new (loaded_keeps p.mid new w only f)
          (held_load uses b xs live m old p.mid w (uses w) refl g f fit.suits p.effects sound.names apart.0 apart.1 (k.held w f));
      others = λ q e. loaded_rest_stays p.mid new q only e ∙ t.rest q e ∙ k.others q e;
      fit = (fit, k.fit);
    }

-- an unload

-- an unload is by the name and the records alone
pub unloaded_with : Environment → Text → List Record → Result Environment RecordReason
unloaded_with e name records = moved (Unloads (record { name = name; path = []; records = records })) e

pub same_unload : (m : Module) (n : Text) (e : Environment) → n ≡ m.name → unloaded_with e n m.records ≡ moved (Unloads m) e
unfolding unloaded_with
same_unload m n e h = ap (λ (t : Text). unloaded_with e t m.records) h

held_unload : (uses : Text → VariableUse) (b : Environment) (xs : List Entry) (live : List Module) (m : Module)
    (old mid : Environment) (w : Text) (y : VariableUse) → uses w ≡ y → Begun uses b xs → is_editable w ≡ true
    → live_named m.name live ≡ Some m → AreReversibleTogether uses live → AreSound (entries_over xs live) → effects unload m.name (undo_of m.records) old ≡ Ok mid
    → Held y b w (names_of (entries_over xs live)) live old → Held y b w (names_of (entries_over xs (without_live m.name live))) (without_live m.name live) mid
held_unload uses b xs live m old mid w Untouched q g f l fit sound e h = all_untouched unload unloads uses m.name w (undo_of m.records) b old mid (lookup b w) q (left_suit uses m.records (suits_of uses m.name live m l fit)) f e h
held_unload uses b xs live m old mid w (Fixed k) q g f l fit sound e h =
    let s = suits_of uses m.name live m l fit in
    let before = unwrap_or (live_set w live) (lookup b w) in
    go (last_set w m.records) refl
    (subst (HasValue b mid w) (same_pick (last_set w (undo_of m.records)) (last_set w m.records) before k (left_sets uses w m.records s))
    (unloads_fixed uses m.name w k (undo_of m.records) b old mid before q (left_suit uses m.records s) f e h))
  where
    go : (o : Option (Option Text)) → last_set w m.records ≡ o
        → HasValue b mid w (pick (last_set w m.records) (unwrap_or (live_set w live) (lookup b w)) k)
        → HasValue b mid w (unwrap_or (live_set w (without_live m.name live)) (lookup b w))
    go None i v =
        let v2 : HasValue b mid w (unwrap_or (live_set w live) (lookup b w)) = rw i at v in
        subst (λ (z : Option (Option Text)). HasValue b mid w (unwrap_or z (lookup b w))) (sym (set_same w m.name live m l i)) v2
    go (Some x) i v =
        let v2 : HasValue b mid w k = rw i at v in
        let none_left = set_alone uses w m.name live m l fit (ap (λ (z : Option (Option Text)). is_some z) i) in
        subst (λ (z : Option (Option Text)). HasValue b mid w (unwrap_or z (lookup b w))) (sym none_left)
        (subst (HasValue b mid w) (sym (g.start.fixed w k f q)) v2)
held_unload uses b xs live m old mid w Absent q g f l fit sound e h = unloads_absent uses m.name w (undo_of m.records) b old mid (lookup b w) q (left_suit uses m.records (suits_of uses m.name live m l fit)) f e h
held_unload uses b xs live m old mid w (Pathed d) q g f l fit sound e h =
    unloads_path uses m.name w d (undo_of m.records) b old mid (live_adds w (without_live m.name live)) q (left_suit uses m.records (suits_of uses m.name live m l fit)) f e
    (path_same b old w d (live_adds w live) (λ x. adds w x (undo_of m.records) + live_adds w (without_live m.name live) x)
    (λ x. adds_less w x m.name live m l ∙ ap (λ (n : ℕ). n + live_adds w (without_live m.name live) x) (sym (left_adds w x m.records))) h)
held_unload uses b xs live m old mid w Stacked q g f l fit sound e h =
    let apart = apart_of xs live sound.once in
    let absent = apart_named m.name xs live m l apart in
    let distinct = apart_distinct xs live apart in
    let p = pusher uses b xs w m.name (names_of (entries_over xs live)) h.base g f q h.found sound.names (named_there m.name xs live m l) absent in
    let after_left = unloads_push uses m.name w (undo_of m.records) b old mid (names_of (entries_over xs live)) h.base h.pushes q (left_suit uses m.records (suits_of uses m.name live m l fit)) f p e h.at_ in
    let after : StackAt b mid w (names_of (entries_over xs live)) h.base (popped m.name (last_push w m.records) h.pushes) = subst (StackAt b mid w (names_of (entries_over xs live)) h.base)
    (same_pick (last_push w (undo_of m.records)) (last_push w m.records) h.pushes (other_pushes m.name h.pushes) (left_pushes w m.records)) after_left in
    let order : IsPermutation (popped m.name (last_push w m.records) h.pushes) (live_pushes w (without_live m.name live)) = order_popped m.name w live m h.pushes l distinct h.order in
    let left : without m.name (names_of (entries_over xs live)) ≡ names_of (entries_over xs (without_live m.name live)) =
    sym (names_dropped (entries_over xs live) m.name) ∙ ap names_of (entries_less m.name xs live absent distinct) in
    let none_left : holds m.name (start_with_pushes h.base (popped m.name (last_push w m.records) h.pushes)).items ≡ false =
    standing_absent h.base (popped m.name (last_push w m.records) h.pushes) m.name p.foreign
    (order_has m.name (popped m.name (last_push w m.records) h.pushes) (live_pushes w (without_live m.name live)) order ∙ no_push m.name w (without_live m.name live) (gone m.name live distinct)) in
    record {
      base = h.base;
      found = h.found;
      pushes = popped m.name (last_push w m.records) h.pushes;
      order = order;
      at_ = record {
        order = subst (λ (z : List Text). IsStackInOrder z mid w) left
            (order_of_fewer (names_of (entries_over xs live)) mid w m.name (start_with_pushes h.base (popped m.name (last_push w m.records) h.pushes)) sound.names after.order after.state none_left);
        state = after.state;
        counters = after.counters;
      };
    }

-- of a live module, by records that undo what those of its load undo
pub kept_unload : (uses : Text → VariableUse) (b : Environment) (xs : List Entry) (live : List Module) (m : Module)
    (rs : List Record) (old new : Environment) → Begun uses b xs → Kept uses b xs live old
    → live_named m.name live ≡ Some m → UndoEquivalently rs m.records → unloaded_with old m.name rs ≡ Ok new
    → Kept uses b xs (without_live m.name live) new
unfolding unloaded_with
kept_unload uses b xs live m rs old new g k l a h =
    let p = unload_parts (record { name = m.name; path = []; records = rs }) old new h in
    let done : effects unload m.name (undo_of m.records) old ≡ Ok p.mid = subst (λ (us : List Record). effects unload m.name us old ≡ Ok p.mid) a (done_by_left m.name rs old p.mid p.effects) in
    let t = all_through unload unloads uses m.name (undo_of m.records) old p.mid (left_suit uses m.records (suits_of uses m.name live m l k.fit)) done in
    let sound : AreSound (entries_over xs live) = sound_of old (entries_over xs live) k.loaded k.list in
    let apart = apart_of xs live sound.once in
    let less = entries_less m.name xs live (apart_named m.name xs live m l apart) (apart_distinct xs live apart) in
    let only = drop_edits_loaded p.mid new m.name p.entry in
    record {
      loaded = drop_keeps_order p.mid new m.name (t.loaded.order k.loaded) p.entry;
      list = dropped_list p.mid new m.name (entries_over xs live) (t.loaded.list ∙ k.list) p.entry ∙ ap (λ (z : List Entry). Some z) less;
      held = λ w f. held_kept (uses w) b w (names_of (entries_over xs (without_live m.name live))) (without_live m.name live) p.mid new (loaded_keeps p.mid new w only f)
          (held_unload uses b xs live m old p.mid w (uses w) refl g f l k.fit sound done (k.held w f));
      others = λ q e. loaded_rest_stays p.mid new q only e ∙ t.rest q e ∙ k.others q e;
      fit = fit_less uses m.name live k.fit;
    }
