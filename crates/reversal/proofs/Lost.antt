-- The worked examples, by computation.
use Rattle.std.proofs.Common.{◌≡◌, ℕ, Bool, true, false, cond, List, [], ◌∷◌, refl, sym, ap, ◌∙◌, subst, Option, Some}
use Rattle.std.proofs.Common.{None, inl}
use Rattle.std.specs.Prelude.{◌≢◌, bytes_eq, unwrap_or, codes}
use Rattle.std.proofs.lemmas.Bool.{false≢true}
use Rattle.envvars.specs.Texts.{Text}
use Rattle.envvars.specs.Names.{share_name, stack_name}
use Rattle.envvars.specs.Environment.{Environment, lookup, with_value}
use Rattle.envvars.specs.Fields.{colon}
use Rattle.envvars.specs.Changes.{same_value}
use Rattle.envvars.proofs.TextLemmas.{bytes_eq-same, same_text}
use Rattle.envvars.proofs.EnvLemmas.{same_environment, lookup-with_value}
use Rattle.envstate.specs.paths.Paths.{PathState}
use Rattle.envstate.specs.paths.PathTexts.{elements_text, counters_as_text}
use Rattle.envstate.specs.paths.PathOrder.{IsPathInOrder}
use Rattle.envstate.specs.stacks.StackVariables.{IsStackInOrder}
use Rattle.envstate.specs.loaded_list.LoadedTexts.{names_variable, files_variable, conflicts_variable, prereqs_variable}
use Rattle.envstate.specs.loaded_list.Loaded.{Entry, IsLoadedList, AreLoadedInOrder, names_of, names_text, files_text}
use Rattle.envstate.specs.loaded_list.Loaded.{conflicts_text, prereqs_text, with_loaded}
use Rattle.modulefile.specs.Records.{Record, Set, Unset, Path}
use Rattle.modulefile.specs.declared.records.PathEdit.TheVariants.{Back, Remove}
use Rattle.modulefile.specs.Moves.{Module, Move, Loads, Unloads}
use Rattle.reversal.specs.VariableUses.{VariableUse, Untouched, Fixed, Absent, Pathed, Stacked}
use Rattle.reversal.specs.Undone.{undo_of}
use Rattle.reversal.specs.Starts.{IsStart}
use Rattle.reversal.specs.Runs.{live_after}
use Rattle.reversal.specs.Examples.{of_kind, follows_use, apart, alive, undoes_alike, HasPart, OtherParts, only_use, Lose}
use Rattle.reversal.specs.Examples.{first_module, second_module, variable, there_and_back, crossed, add_front}
use Rattle.reversal.specs.Examples.{push_value, EmptyPath, CounterOfNone, BottomAlone, HiddenValue, OtherEscapes}
use Rattle.reversal.specs.Examples.{OwnerNotLoaded, ValueBeforeSet, OtherValue, EmptyLists, NeedsOfNone, ConflictTwice}
use Rattle.reversal.specs.Examples.{IllSpelled, EmptyGroup, ValueBeforeUnset, ElementRemoved, OtherRecords}
use Rattle.reversal.specs.Examples.{StartUnloaded, SetAndPushed, UnsetAndPushed, AddedAndPushed, TwoDelimiters}
use Rattle.reversal.specs.Examples.{SetByTwo, SetAndAbsent}
use Rattle.reversal.proofs.OneVariable.{by_test}
use Rattle.reversal.proofs.Histories.{History, env, seen, lookup_seen, path_at, path_seen, played, played_leads}

abbrev pub end_of : List Move → History → History
end_of ms h = unwrap_or (played ms h) []

same : (o : Option Text) → same_value o o ≡ true
same None = refl
same (Some x) = bytes_eq-same x

pub differ : (a b : Option Text) → same_value a b ≡ false → a ≢ b
differ a b d e = false≢true (sym d ∙ ap (same_value a) (sym e) ∙ same a)

-- a run that is played to its end, and a variable that isn't as it was
lose : (ms : List Move) (h : History) (q : Text) → played ms h ≡ Some (end_of ms h) → live_after [] ms ≡ [] → same_value (seen (end_of ms h) q) (seen h q) ≡ false → Lose (env h) ms
lose ms h q p n d = record {
  end = env (end_of ms h);
  reach = played_leads ms h (end_of ms h) p;
  none = n;
  lost = λ e. differ (seen (end_of ms h) q) (seen h q) d (sym (lookup_seen (end_of ms h) q) ∙ ap (λ (t : Environment). lookup t q) e ∙ lookup_seen h q);
}

-- what is written again changes nothing

at_name : (e : Environment) (n q : Text) (b : Bool) → bytes_eq q n ≡ b → cond b (lookup e n) (lookup e q) ≡ lookup e q
at_name e n q true h = ap (lookup e) (sym (same_text q n h))
at_name e n q false h = refl

rewritten : (e : Environment) (n : Text) (v : Option Text) → lookup e n ≡ v → with_value e n v ≡ e
rewritten e n v h = same_environment (with_value e n v) e (λ q.
    lookup-with_value e n v q ∙ ap (λ (t : Option Text). cond (bytes_eq q n) t (lookup e q)) (sym h) ∙ at_name e n q (bytes_eq q n) refl)

-- the four texts are those of the list
record IsListed (h : History) (xs : List Entry) : Type 0 where
  each : IsLoadedList xs
  names : seen h names_variable ≡ names_text xs
  files : seen h files_variable ≡ files_text xs
  conflicts : seen h conflicts_variable ≡ conflicts_text xs
  prereqs : seen h prereqs_variable ≡ prereqs_text xs

listed : (h : History) (xs : List Entry) → IsListed h xs → AreLoadedInOrder (env h)
listed h xs l = record { entries = xs; list = l.each; written = all }
  where
    all : with_loaded (env h) xs ≡ env h
    all =
        ap (λ (d : Environment). with_value (with_value (with_value d files_variable (files_text xs)) conflicts_variable (conflicts_text xs)) prereqs_variable (prereqs_text xs))
        (rewritten (env h) names_variable (names_text xs) (lookup_seen h names_variable ∙ l.names))
        ∙ ap (λ (d : Environment). with_value (with_value d conflicts_variable (conflicts_text xs)) prereqs_variable (prereqs_text xs))
        (rewritten (env h) files_variable (files_text xs) (lookup_seen h files_variable ∙ l.files))
        ∙ ap (λ (d : Environment). with_value d prereqs_variable (prereqs_text xs))
        (rewritten (env h) conflicts_variable (conflicts_text xs) (lookup_seen h conflicts_variable ∙ l.conflicts))
        ∙ rewritten (env h) prereqs_variable (prereqs_text xs) (lookup_seen h prereqs_variable ∙ l.prereqs)

-- no module is loaded, or a/1
pub nothing_listed : (h : History) → seen h names_variable ≡ None → seen h files_variable ≡ None → seen h conflicts_variable ≡ None → seen h prereqs_variable ≡ None → AreLoadedInOrder (env h)
nothing_listed h n f c p = listed h [] (record { each = record { each = refl; names = refl; conflicts = refl }; names = n; files = f; conflicts = c; prereqs = p })

abbrev a1 : List Entry
a1 = record { name = codes "a/1"; path = codes "/m/a/1"; conflicts = []; prereqs = [] } ∷ []

a1_listed : (h : History) → seen h names_variable ≡ names_text a1 → seen h files_variable ≡ files_text a1 → seen h conflicts_variable ≡ None → seen h prereqs_variable ≡ None → AreLoadedInOrder (env h)
a1_listed h n f c p = listed h a1 (record { each = record { each = refl; names = refl; conflicts = refl }; names = n; files = f; conflicts = c; prereqs = p })

-- a start, by its one variable

abbrev pub AtStart : VariableUse → Environment → Text → Type 0
AtStart Untouched e name = Unit {0}
AtStart (Fixed value) e name = lookup e name ≡ value
AtStart Absent e name = lookup e name ≡ None
AtStart (Pathed delim) e name = IsPathInOrder e name delim
AtStart Stacked e name = lookup e (stack_name name) ≡ None

this_way : (name v : Text) (variable_use other : VariableUse) → bytes_eq v name ≡ true → only_use name variable_use v ≡ other → variable_use ≡ other
this_way name v variable_use other t q = rw t at q

no_way : (name v : Text) (variable_use other : VariableUse) → bytes_eq v name ≡ false → only_use name variable_use v ≡ other → Untouched ≡ other
no_way name v variable_use other t q = rw t at q

pub start_at : (name : Text) (variable_use : VariableUse) (e : Environment) → AreLoadedInOrder e → AtStart variable_use e name → IsStart (only_use name variable_use) e
start_at name variable_use e l a = record {
  order = record {
    loaded = l;
    paths = λ v d f q. by_test (bytes_eq v name) _
        (λ t. subst (λ (z : Text). IsPathInOrder e z d) (sym (same_text v name t)) (subst (λ (y : VariableUse). AtStart y e name) (this_way name v variable_use (Pathed d) t q) a))
        (λ t. let z = no_way name v variable_use (Pathed d) t q in absurd cc);
    stacks = λ v xs f q i. by_test (bytes_eq v name) _
        (λ t. subst (λ (z : Text). IsStackInOrder (names_of xs) e z) (sym (same_text v name t)) (inl (subst (λ (y : VariableUse). AtStart y e name) (this_way name v variable_use Stacked t q) a)))
        (λ t. let z = no_way name v variable_use Stacked t q in absurd cc);
  };
  fixed = λ v value f q. by_test (bytes_eq v name) _
      (λ t. subst (λ (z : Text). lookup e z ≡ value) (sym (same_text v name t)) (subst (λ (y : VariableUse). AtStart y e name) (this_way name v variable_use (Fixed value) t q) a))
      (λ t. let z = no_way name v variable_use (Fixed value) t q in absurd cc);
  absent = λ v f q. by_test (bytes_eq v name) _
      (λ t. subst (λ (z : Text). lookup e z ≡ None) (sym (same_text v name t)) (subst (λ (y : VariableUse). AtStart y e name) (this_way name v variable_use Absent t q) a))
      (λ t. let z = no_way name v variable_use Absent t q in absurd cc);
}

pub path_ordered : (h : History) (name : Text) (delim : ℕ)
    → seen h name ≡ elements_text delim (path_at h name delim).elements
    → seen h (share_name name) ≡ counters_as_text (path_at h name delim) → IsPathInOrder (env h) name delim
path_ordered h name delim e c = record {
  elements = lookup_seen h name ∙ e ∙ ap (λ (s : PathState). elements_text delim s.elements) (sym (path_seen h name delim));
  counters = lookup_seen h (share_name name) ∙ c ∙ ap counters_as_text (sym (path_seen h name delim));
}

pub empty_path : EmptyPath
empty_path =
    let h : History = (codes "V", Some ([])) ∷ [] in
    record {
      reversible = (record { suits = ((refl, refl), tt); sets_apart = λ v s. refl }, (record { loaded = _; found = refl; alike = refl }, tt));
      listed = nothing_listed h refl refl refl refl;
      lose = lose _ h (codes "V") refl refl refl;
    }

pub counter_of_none : CounterOfNone
counter_of_none =
    let h : History = (codes "V", Some (codes "/b")) ∷ (codes "__MODULES_SHARE_V", Some (codes "/z:3")) ∷ [] in
    record {
      reversible = (record { suits = ((refl, refl), tt); sets_apart = λ v s. refl }, (record { loaded = _; found = refl; alike = refl }, tt));
      listed = nothing_listed h refl refl refl refl;
      lose = lose _ h (codes "__MODULES_SHARE_V") refl refl refl;
    }

pub bottom_alone : BottomAlone
bottom_alone =
    let h : History = (codes "V", Some (codes "y")) ∷ (codes "__MODULES_PUSHENV_V", Some (codes "&y")) ∷ [] in
    record {
      reversible = (record { suits = ((refl, refl), tt); sets_apart = λ v s. refl }, (record { loaded = _; found = refl; alike = refl }, tt));
      listed = nothing_listed h refl refl refl refl;
      lose = lose _ h (codes "__MODULES_PUSHENV_V") refl refl refl;
    }

pub hidden_value : HiddenValue
hidden_value =
    let h : History = (codes "LOADEDMODULES", Some (codes "a/1")) ∷ (codes "_LMFILES_", Some (codes "/m/a/1")) ∷
    (codes "V", Some (codes "z")) ∷ (codes "__MODULES_PUSHENV_V", Some (codes "a/1&y")) ∷ [] in
    record {
      reversible = (record { suits = ((refl, refl), tt); sets_apart = λ v s. refl }, (record { loaded = _; found = refl; alike = refl }, tt));
      listed = a1_listed h refl refl refl refl;
      lose = lose _ h (codes "V") refl refl refl;
    }

pub other_escapes : OtherEscapes
other_escapes =
    let h : History = (codes "LOADEDMODULES", Some (codes "a/1")) ∷ (codes "_LMFILES_", Some (codes "/m/a/1")) ∷
    (codes "V", Some (codes "\\y")) ∷ (codes "__MODULES_PUSHENV_V", Some (codes "a/1&\\y")) ∷ [] in
    record {
      reversible = (record { suits = ((refl, refl), tt); sets_apart = λ v s. refl }, (record { loaded = _; found = refl; alike = refl }, tt));
      listed = a1_listed h refl refl refl refl;
      lose = lose _ h (codes "__MODULES_PUSHENV_V") refl refl refl;
    }

pub owner_not_loaded : OwnerNotLoaded
owner_not_loaded =
    let h : History = (codes "V", Some (codes "y")) ∷ (codes "__MODULES_PUSHENV_V", Some (codes "m/1&y")) ∷ [] in
    record {
      reversible = (record { suits = ((refl, refl), tt); sets_apart = λ v s. refl }, (record { loaded = _; found = refl; alike = refl }, tt));
      listed = nothing_listed h refl refl refl refl;
      lose = lose _ h (codes "V") refl refl refl;
    }

pub value_before_set : ValueBeforeSet
value_before_set =
    let h : History = (codes "V", Some (codes "y")) ∷ [] in
    record {
      reversible = (record { suits = ((refl, refl), tt); sets_apart = λ v s. refl }, (record { loaded = _; found = refl; alike = refl }, tt));
      listed = nothing_listed h refl refl refl refl;
      lose = lose _ h (codes "V") refl refl refl;
    }

pub other_value : OtherValue
other_value =
    let h : History = (codes "V", Some (codes "y")) ∷ [] in
    record {
      reversible = (record { suits = ((refl, refl), tt); sets_apart = λ v s. refl }, (record { loaded = _; found = refl; alike = refl }, tt));
      listed = nothing_listed h refl refl refl refl;
      lose = lose _ h (codes "V") refl refl refl;
    }

pub value_before_unset : ValueBeforeUnset
value_before_unset =
    let h : History = (codes "V", Some (codes "y")) ∷ [] in
    record {
      reversible = (record { suits = ((refl, refl), tt); sets_apart = λ v s. refl }, (record { loaded = _; found = refl; alike = refl }, tt));
      listed = nothing_listed h refl refl refl refl;
      lose = lose _ h (codes "V") refl refl refl;
    }

pub empty_lists : EmptyLists
empty_lists =
    let h : History = (codes "LOADEDMODULES", Some ([])) ∷ (codes "_LMFILES_", Some ([])) ∷ [] in
    record { reversible = (record { suits = tt; sets_apart = λ v s. refl }, (record { loaded = _; found = refl; alike = refl }, tt)); lose = lose _ h (codes "LOADEDMODULES") refl refl refl }

pub needs_of_none : NeedsOfNone
needs_of_none =
    let h : History = (codes "__MODULES_LMPREREQ", Some (codes "z/1&k")) ∷ [] in
    record { reversible = (record { suits = tt; sets_apart = λ v s. refl }, (record { loaded = _; found = refl; alike = refl }, tt)); lose = lose _ h (codes "__MODULES_LMPREREQ") refl refl refl }

pub conflict_twice : ConflictTwice
conflict_twice =
    let h : History = (codes "LOADEDMODULES", Some (codes "a/1")) ∷ (codes "_LMFILES_", Some (codes "/m/a/1")) ∷ (codes "__MODULES_LMCONFLICT", Some (codes "a/1&k&k")) ∷ [] in
    record { reversible = (record { suits = tt; sets_apart = λ v s. refl }, (record { loaded = _; found = refl; alike = refl }, tt)); lose = lose _ h (codes "__MODULES_LMCONFLICT") refl refl refl }

pub ill_spelled : IllSpelled
ill_spelled =
    let h : History = (codes "LOADEDMODULES", Some (codes "a/1")) ∷ (codes "_LMFILES_", Some (codes "/m/a/1")) ∷ (codes "__MODULES_LMPREREQ", Some (codes "a/1&k|.l")) ∷ [] in
    record { reversible = (record { suits = tt; sets_apart = λ v s. refl }, (record { loaded = _; found = refl; alike = refl }, tt)); lose = lose _ h (codes "__MODULES_LMPREREQ") refl refl refl }

pub empty_group : EmptyGroup
empty_group =
    let h : History = (codes "LOADEDMODULES", Some (codes "a/1")) ∷ (codes "_LMFILES_", Some (codes "/m/a/1")) ∷ (codes "__MODULES_LMPREREQ", Some (codes "a/1&k&")) ∷ [] in
    record { reversible = (record { suits = tt; sets_apart = λ v s. refl }, (record { loaded = _; found = refl; alike = refl }, tt)); lose = lose _ h (codes "__MODULES_LMPREREQ") refl refl refl }

-- every part but one
but_kind : (uses : Text → VariableUse) (ms : List Move) → HasPart follows_use uses [] ms → HasPart apart uses [] ms
    → HasPart alive uses [] ms → HasPart undoes_alike uses [] ms → OtherParts of_kind uses ms
but_kind uses ms w a l u of_kind n = absurd (n refl)
but_kind uses ms w a l u follows_use n = w
but_kind uses ms w a l u apart n = a
but_kind uses ms w a l u alive n = l
but_kind uses ms w a l u undoes_alike n = u

but_way : (uses : Text → VariableUse) (ms : List Move) → HasPart of_kind uses [] ms → HasPart apart uses [] ms
    → HasPart alive uses [] ms → HasPart undoes_alike uses [] ms → OtherParts follows_use uses ms
but_way uses ms k a l u of_kind n = k
but_way uses ms k a l u follows_use n = absurd (n refl)
but_way uses ms k a l u apart n = a
but_way uses ms k a l u alive n = l
but_way uses ms k a l u undoes_alike n = u

but_apart : (uses : Text → VariableUse) (ms : List Move) → HasPart of_kind uses [] ms → HasPart follows_use uses [] ms
    → HasPart alive uses [] ms → HasPart undoes_alike uses [] ms → OtherParts apart uses ms
but_apart uses ms k w l u of_kind n = k
but_apart uses ms k w l u follows_use n = w
but_apart uses ms k w l u apart n = absurd (n refl)
but_apart uses ms k w l u alive n = l
but_apart uses ms k w l u undoes_alike n = u

but_alive : (uses : Text → VariableUse) (ms : List Move) → HasPart of_kind uses [] ms → HasPart follows_use uses [] ms
    → HasPart apart uses [] ms → HasPart undoes_alike uses [] ms → OtherParts alive uses ms
but_alive uses ms k w a u of_kind n = k
but_alive uses ms k w a u follows_use n = w
but_alive uses ms k w a u apart n = a
but_alive uses ms k w a u alive n = absurd (n refl)
but_alive uses ms k w a u undoes_alike n = u

but_alike : (uses : Text → VariableUse) (ms : List Move) → HasPart of_kind uses [] ms
    → HasPart follows_use uses [] ms → HasPart apart uses [] ms → HasPart alive uses [] ms
    → OtherParts undoes_alike uses ms
but_alike uses ms k w a l of_kind n = k
but_alike uses ms k w a l follows_use n = w
but_alike uses ms k w a l apart n = a
but_alike uses ms k w a l alive n = l
but_alike uses ms k w a l undoes_alike n = absurd (n refl)

-- what the records of a module that is found undo
abbrev undo_in : Option Module → List Record
undo_in None = []
undo_in (Some m) = undo_of m.records

nothing_found : (loaded : Module) → ◌≡◌ {A = Option Module} None (Some loaded) → ⊥
nothing_found loaded h = absurd cc

pub element_removed : ElementRemoved
element_removed =
    let h : History = (codes "V", Some (codes "/a:/b")) ∷ [] in
    record {
      begins = start_at variable (Pathed colon) (env h) (nothing_listed h refl refl refl refl) (path_ordered h variable colon refl refl);
      others = but_kind (only_use variable (Pathed colon)) (there_and_back (Path Remove colon variable (codes "/a" ∷ [])))
          ((tt, tt), (tt, tt)) ((λ v s. refl), (tt, tt)) (tt, ((_, refl), tt))
          (tt, ((λ loaded f. ap undo_in f), tt));
      lose = lose _ h (codes "V") refl refl refl;
    }

pub other_records : OtherRecords
other_records =
    let h : History = (codes "V", Some (codes "/b")) ∷ [] in
    record {
      begins = start_at variable (Pathed colon) (env h) (nothing_listed h refl refl refl refl) (path_ordered h variable colon refl refl);
      others = but_alike (only_use variable (Pathed colon))
          (Loads (first_module (add_front ∷ [])) ∷ Unloads (first_module []) ∷ []) (refl, (tt, tt))
          ((refl, tt), (tt, tt)) ((λ v s. refl), (tt, tt)) (tt, ((_, refl), tt));
      lose = lose _ h (codes "V") refl refl refl;
    }

pub start_unloaded : StartUnloaded
start_unloaded =
    let h : History = (codes "LOADEDMODULES", Some (codes "a/1")) ∷ (codes "_LMFILES_", Some (codes "/m/a/1")) ∷ [] in
    record {
      begins = start_at variable Untouched (env h) (a1_listed h refl refl refl refl) tt;
      others = but_alive (only_use variable Untouched) (Unloads
          (record { name = codes "a/1"; path = codes "/m/a/1"; records = [] }) ∷ []) (tt, tt) (tt, tt) (tt, tt)
          ((λ loaded f. absurd (nothing_found loaded f)), tt);
      lose = lose _ h (codes "LOADEDMODULES") refl refl refl;
    }

-- modules that are loaded, and unloaded in that order
crossed_alive : (uses : Text → VariableUse) (r s : Record) → HasPart alive uses [] (crossed r s)
crossed_alive uses r s = (tt, (tt, ((_, refl), ((_, refl), tt))))

crossed_alike : (uses : Text → VariableUse) (r s : Record) → HasPart undoes_alike uses [] (crossed r s)
crossed_alike uses r s = (tt, (tt, ((λ loaded f. ap undo_in f), ((λ loaded f. ap undo_in f), tt))))

pub set_and_pushed : SetAndPushed
set_and_pushed =
    let h : History = [] in
    record {
      in_one = record {
        begins = start_at variable (Fixed None) (env h) (nothing_listed h refl refl refl refl) (lookup_seen h variable);
        others = but_way (only_use variable (Fixed None)) (crossed (Set variable (codes "y")) push_value)
            (refl, (refl, (tt, (tt, tt)))) ((λ v s. refl), ((λ v s. absurd (false≢true s)), (tt, (tt, tt))))
            (crossed_alive (λ v. Untouched) _ _) (crossed_alike (λ v. Untouched) _ _);
        lose = lose _ h (codes "V") refl refl refl;
      };
      in_other = start_at variable Stacked (env h) (nothing_listed h refl refl refl refl) (lookup_seen h (stack_name variable));
      first = ((refl, refl), tt);
      second = ((refl, refl), tt);
    }

pub unset_and_pushed : UnsetAndPushed
unset_and_pushed =
    let h : History = (codes "V", Some (codes "y")) ∷ [] in
    record {
      in_one = record {
        begins = start_at variable (Fixed (Some (codes "y"))) (env h) (nothing_listed h refl refl refl refl) (lookup_seen h variable);
        others = but_way (only_use variable (Fixed (Some (codes "y"))))
            (crossed (Unset variable (Some (codes "y"))) push_value) (refl, (refl, (tt, (tt, tt))))
            ((λ v s. refl), ((λ v s. absurd (false≢true s)), (tt, (tt, tt)))) (crossed_alive (λ v. Untouched) _ _)
            (crossed_alike (λ v. Untouched) _ _);
        lose = lose _ h (codes "V") refl refl refl;
      };
      in_other = start_at variable Stacked (env h) (nothing_listed h refl refl refl refl) (lookup_seen h (stack_name variable));
      first = ((refl, refl), tt);
      second = ((refl, refl), tt);
    }

pub added_and_pushed : AddedAndPushed
added_and_pushed =
    let h : History = (codes "V", Some (codes "/b")) ∷ [] in
    record {
      in_one = record {
        begins = start_at variable (Pathed colon) (env h) (nothing_listed h refl refl refl refl) (path_ordered h variable colon refl refl);
        others = but_way (only_use variable (Pathed colon)) (crossed add_front push_value)
            (refl, (refl, (tt, (tt, tt)))) ((λ v s. refl), ((λ v s. refl), (tt, (tt, tt))))
            (crossed_alive (λ v. Untouched) _ _) (crossed_alike (λ v. Untouched) _ _);
        lose = lose _ h (codes "V") refl refl refl;
      };
      in_other = start_at variable Stacked (env h) (nothing_listed h refl refl refl refl) (lookup_seen h (stack_name variable));
      first = ((refl, refl), tt);
      second = ((refl, refl), tt);
    }

pub two_delimiters : TwoDelimiters
two_delimiters =
    let h : History = (codes "V", Some (codes "a")) ∷ [] in
    record {
      in_one = record {
        begins = start_at variable (Pathed colon) (env h) (nothing_listed h refl refl refl refl) (path_ordered h variable colon refl refl);
        others = but_way (only_use variable (Pathed colon))
            (crossed (Path Back colon variable (codes "b" ∷ [])) (Path Back 59 variable (codes "c" ∷ [])))
            (refl, (refl, (tt, (tt, tt)))) ((λ v s. refl), ((λ v s. refl), (tt, (tt, tt))))
            (crossed_alive (λ v. Untouched) _ _) (crossed_alike (λ v. Untouched) _ _);
        lose = lose _ h (codes "V") refl refl refl;
      };
      in_other = start_at variable (Pathed 59) (env h) (nothing_listed h refl refl refl refl) (path_ordered h variable 59 refl refl);
      first = ((refl, refl), tt);
      second = ((refl, refl), tt);
    }

abbrev set_by_two : List Move
set_by_two = Loads (first_module (Set variable (codes "x") ∷ [])) ∷ Loads (second_module (Set variable (codes "y") ∷ [])) ∷ Unloads (first_module (Set variable (codes "x") ∷ [])) ∷ []

pub set_by_two_falls : SetByTwo
set_by_two_falls = record {
  begins = start_at variable (Fixed None) (env []) (nothing_listed [] refl refl refl refl) (lookup_seen [] variable);
  others = but_apart (only_use variable (Fixed None)) set_by_two (refl, (refl, (tt, tt)))
      ((refl, tt), ((refl, tt), (tt, tt))) (tt, (tt, ((_, refl), tt))) (tt, (tt, ((λ loaded f. ap undo_in f), tt)));
  end = env (end_of set_by_two []);
  reach = played_leads set_by_two [] (end_of set_by_two []) refl;
  differs = λ s. differ (seen (end_of set_by_two []) variable) (Some (codes "y")) refl (sym (lookup_seen (end_of set_by_two []) variable) ∙ (s.variables variable refl).value);
}

abbrev set_and_absent : List Move
set_and_absent = Loads (first_module (Set variable (codes "x") ∷ [])) ∷ Loads (second_module (Unset variable None ∷ [])) ∷ Unloads (second_module (Unset variable None ∷ [])) ∷ []

pub set_and_absent_falls : SetAndAbsent
set_and_absent_falls = record {
  begins = start_at variable (Fixed None) (env []) (nothing_listed [] refl refl refl refl) (lookup_seen [] variable);
  others = but_way (only_use variable (Fixed None)) set_and_absent (refl, (refl, (tt, tt)))
      ((λ v s. refl), ((λ v s. absurd (false≢true s)), (tt, tt))) (tt, (tt, ((_, refl), tt))) (tt, (tt, ((λ loaded f. ap undo_in f), tt)));
  end = env (end_of set_and_absent []);
  reach = played_leads set_and_absent [] (end_of set_and_absent []) refl;
  differs = λ s. differ (seen (end_of set_and_absent []) variable) (Some (codes "x")) refl (sym (lookup_seen (end_of set_and_absent []) variable) ∙ (s.variables variable refl).value);
}
