-- What holds between moves, and what other uses of variables may be taken up or laid down there.
use Rattle.std.proofs.Common.{◌≡◌, ◌⊎◌, ℕ, true, List, [], ◌∷◌, refl, sym, ◌∙◌, subst, Option, Some, None}
use Rattle.std.proofs.lemmas.Option.{same_Some}
use Rattle.envvars.specs.Texts.{Text}
use Rattle.envvars.specs.Environment.{Environment, lookup}
use Rattle.envstate.specs.paths.PathOrder.{IsPathInOrder}
use Rattle.envstate.specs.stacks.StackVariables.{IsStackInOrder}
use Rattle.envstate.specs.loaded_list.Loaded.{Entry, names_of, loaded_in, AreLoadedInOrder}
use Rattle.envstate.specs.Roles.{is_editable}
use Rattle.envstate.specs.EnvLaws.{AreSound}
use Rattle.envstate.proofs.StateLemmas.{list_in_order}
use Rattle.modulefile.specs.Moves.{Module}
use Rattle.reversal.specs.VariableUses.{VariableUse, Untouched, Fixed, Absent, Pathed, Stacked}
use Rattle.reversal.specs.VariableUses.{UsedVariable}
use Rattle.reversal.specs.Live.{entries_over}
use Rattle.reversal.specs.Starts.{HasVariable, IsInOrder, IsStart, IsStartWith}
use Rattle.reversal.specs.Laws.{RunsReturn}
use Rattle.audit_certificate.specs.RecordUses.{used_by, used_by_modules, first_use, uses_by}
use Rattle.audit_certificate.specs.Certificates.{AgreesWithUse, AgreesWith}
use Rattle.audit_certificate.specs.Laws.{AgreeingBegins}
use Rattle.audit_certificate.proofs.UsedLemmas.{by_cases, Unused, among_either, first_or_none}
use Rattle.audit_certificate.proofs.RecordLemmas.{AreOfKind}
use Rattle.audit_certificate.proofs.MovedVariables.{IsAsIn, path_moved, stack_moved, stack_over, by_any_use, IsUseInOrder}
use Rattle.audit_certificate.proofs.MovedVariables.{as_before}

-- The second uses are the first ones, but for variables that no live module uses.
abbrev pub AreUsesButForUnused : (Text → VariableUse) → (Text → VariableUse) → List Module → Type 0
AreUsesButForUnused u w live = (v : Text) → (u v ≡ w v) ⊎ Unused v (used_by_modules live)

-- Starts by uses, as what agrees with each of them.

-- a start agrees with how each variable is used that may be edited
pub agreed : (u : Text → VariableUse) (start : Environment) → IsStart u start → (v : Text) → is_editable v ≡ true → (x : VariableUse) → u v ≡ x → AgreesWithUse start v x
agreed u start s v f Untouched q = tt
agreed u start s v f (Fixed value) q = s.fixed v value f q
agreed u start s v f Absent q = s.absent v f q
agreed u start s v f (Pathed d) q = s.order.paths v d f q
agreed u start s v f Stacked q = λ xs l. s.order.stacks v xs f q l

pub is_start : (u : Text → VariableUse) (start : Environment) → AreLoadedInOrder start → ((v : Text) → is_editable v ≡ true → AgreesWithUse start v (u v)) → IsStart u start
is_start u start o a = record {
  order = record {
    loaded = o;
    paths = λ v d f q. path_of v d (subst (AgreesWithUse start v) q (a v f));
    stacks = λ v xs f q l. stack_of v xs l (subst (AgreesWithUse start v) q (a v f));
  };
  fixed = λ v value f q. value_of v value (subst (AgreesWithUse start v) q (a v f));
  absent = λ v f q. none_of v (subst (AgreesWithUse start v) q (a v f));
}
  where
    path_of : (v : Text) (d : ℕ) → AgreesWithUse start v (Pathed d) → IsPathInOrder start v d
    path_of v d h = h

    stack_of : (v : Text) (xs : List Entry) → loaded_in start ≡ Some xs → AgreesWithUse start v Stacked → IsStackInOrder (names_of xs) start v
    stack_of v xs l h = h xs l

    value_of : (v : Text) (value : Option Text) → AgreesWithUse start v (Fixed value) → lookup start v ≡ value
    value_of v value h = h

    none_of : (v : Text) → AgreesWithUse start v Absent → lookup start v ≡ None
    none_of v h = h

unused_agrees : (start : Environment) (v : Text) (ps : List UsedVariable) → Unused v ps → AgreesWithUse start v (first_use v ps)
unused_agrees start v ps n = subst (AgreesWithUse start v) (sym n.untouched) tt

-- a start that agrees with what modules use is one by their uses
pub agreeing_begins : AgreeingBegins
agreeing_begins live start a = is_start (uses_by live) start a.loaded
    (λ v f. by_cases (first_or_none v (used_by_modules live)) (λ h. a.uses v (uses_by live v) h) (unused_agrees start v (used_by_modules live)))

-- so is one by the uses of live modules that agrees with what one more uses
pub with_newest : (live : List Module) (m : Module) (start : Environment) → AreUsesButForUnused (uses_by live) (uses_by (m ∷ live)) live
    → IsStart (uses_by live) start → AgreesWith (used_by m.records) start → IsStart (uses_by (m ∷ live)) start
with_newest live m start same s a = is_start (uses_by (m ∷ live)) start s.order.loaded (λ v f. by_cases (same v)
    (λ q. agreed (uses_by live) start s v f (uses_by (m ∷ live) v) q)
    (λ n. by_cases (first_or_none v (used_by_modules (m ∷ live)))
    (λ h. by_cases (among_either (v, uses_by (m ∷ live) v) (used_by m.records) (used_by_modules live) h)
    (λ k. a.uses v (uses_by (m ∷ live) v) k)
    (λ k. absurd (n.none (uses_by (m ∷ live) v) k)))
    (unused_agrees start v (used_by_modules (m ∷ live)))))

-- and so it is by fewer uses
pub by_fewer : (u : Text → VariableUse) (live : List Module) (start : Environment) → AreUsesButForUnused u (uses_by live) live → IsStart u start → IsStart (uses_by live) start
by_fewer u live start same s = is_start (uses_by live) start s.order.loaded (λ v f. by_cases (same v)
    (λ q. agreed u start s v f (uses_by live v) q)
    (unused_agrees start v (used_by_modules live)))

-- Between moves the environment is in order, and the start with the live modules layered on it.

pub record IsOver (u : Text → VariableUse) (start : Environment) (live : List Module) (e : Environment) : Type 0 where
  pub order : IsInOrder u e
  pub start_with_live : IsStartWith u start live e

-- the entries of the start, and that they are sound
record Listed (start : Environment) : Type 0 where
  entries : List Entry
  list : loaded_in start ≡ Some entries
  sound : AreSound entries

listed : (start : Environment) → AreLoadedInOrder start → Listed start
listed start o = let p = list_in_order start o in record { entries = p.0; list = p.1; sound = p.2 }

untouched : (start e : Environment) (v : Text) (live : List Module) → Unused v (used_by_modules live) → HasVariable (uses_by live v) start v live e → IsAsIn start v e
untouched start e v live n h = as_untouched (subst (λ (y : VariableUse). HasVariable y start v live e) n.untouched h)
  where
    as_untouched : HasVariable Untouched start v live e → IsAsIn start v e
    as_untouched k = k

-- Other uses may be taken up of variables that no live module uses.
pub taken_up : RunsReturn → (u : Text → VariableUse) (start e : Environment) (live : List Module) → IsStart u start → AreUsesButForUnused (uses_by live) u live → AreOfKind live
    → IsOver (uses_by live) start live e → IsOver u start live e
taken_up runs u start e live begin same k o = record {
  order = record {
    loaded = o.order.loaded;
    paths = λ v d f q. by_cases (same v)
        (λ s. o.order.paths v d f (s ∙ q))
        (λ n. path_moved start e v d (untouched start e v live n (o.start_with_live.variables v f)) (begin.order.paths v d f q));
    stacks = λ v ys f q l. by_cases (same v)
        (λ s. o.order.stacks v ys f (s ∙ q) l)
        (λ n. subst (λ (zs : List Entry). IsStackInOrder (names_of zs) e v) (same_Some (entries_over first.entries live) ys (sym (o.start_with_live.entries first.entries first.list) ∙ l))
        (stack_over e v first.entries live (stack_moved start e v (names_of first.entries)
        (untouched start e v live n (o.start_with_live.variables v f))
        (begin.order.stacks v first.entries f q first.list))));
  };
  start_with_live = record {
    entries = o.start_with_live.entries;
    variables = λ v f. by_cases (same v)
        (λ s. subst (λ (y : VariableUse). HasVariable y start v live e) s (o.start_with_live.variables v f))
        (λ n. by_any_use (u v) start e v live k n (none_live.start_with_live.variables v f) (untouched start e v live n (o.start_with_live.variables v f)));
    others = o.start_with_live.others;
  };
}
  where
    first : Listed start
    first = listed start begin.order.loaded

    none_live : IsOver u start [] start
    none_live = let h = runs u start start [] begin tt refl in record { order = h.order; start_with_live = h.start_with_live }

-- And uses may be laid down of variables that no live module uses any more.
pub laid_down : (u : Text → VariableUse) (start e : Environment) (live : List Module) → IsStart u start → AreUsesButForUnused u (uses_by live) live → AreOfKind live
    → IsOver u start live e → IsOver (uses_by live) start live e
laid_down u start e live begin same k o = record {
  order = record {
    loaded = o.order.loaded;
    paths = λ v d f q. by_cases (same v)
        (λ s. o.order.paths v d f (s ∙ q))
        (λ n. no_path d (sym n.untouched ∙ q));
    stacks = λ v ys f q l. by_cases (same v)
        (λ s. o.order.stacks v ys f (s ∙ q) l)
        (λ n. no_stack (sym n.untouched ∙ q));
  };
  start_with_live = record {
    entries = o.start_with_live.entries;
    variables = λ v f. by_cases (same v)
        (λ s. subst (λ (y : VariableUse). HasVariable y start v live e) s (o.start_with_live.variables v f))
        (λ n. subst (λ (y : VariableUse). HasVariable y start v live e) (sym n.untouched) (before v f n));
    others = o.start_with_live.others;
  };
}
  where
    no_path : {P : Type 0} (d : ℕ) → Untouched ≡ Pathed d → P
    no_path d h = absurd cc

    no_stack : {P : Type 0} → Untouched ≡ Stacked → P
    no_stack h = absurd cc

    first : Listed start
    first = listed start begin.order.loaded

    now : Listed e
    now = listed e o.order.loaded

    ordered : (d : Environment) (xs : List Entry) → IsInOrder u d → loaded_in d ≡ Some xs → (v : Text) → is_editable v ≡ true → (y : VariableUse) → u v ≡ y → IsUseInOrder y (names_of xs) d v
    ordered d xs i l v f Untouched q = tt
    ordered d xs i l v f (Fixed value) q = tt
    ordered d xs i l v f Absent q = tt
    ordered d xs i l v f (Pathed delim) q = i.paths v delim f q
    ordered d xs i l v f Stacked q = i.stacks v xs f q l

    before : (v : Text) → is_editable v ≡ true → Unused v (used_by_modules live) → IsAsIn start v e
    before v f n =
        as_before (u v) start e v live (names_of now.entries) (names_of first.entries) k n now.sound.names first.sound.names
        (ordered e now.entries o.order now.list v f (u v) refl) (ordered start first.entries begin.order first.list v f (u v) refl) (o.start_with_live.variables v f)
