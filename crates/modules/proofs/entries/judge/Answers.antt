use Rattle.std.proofs.Common.{◌≡◌, List, map, string_bytes, String, Option, Some, None, Ok, Err, refl, sym, ap, ◌∙◌}
use Rattle.std.specs.Option.{option_map, option_or}
use Rattle.std.specs.declared.alloc.Global.{Global}
use Rattle.envvars.specs.Texts.{Text}
use Rattle.envstate.specs.loaded_list.Loaded.{Entry}
use Rattle.envstate.specs.loaded_list.LoadedEntries.{entry_view}
use Rattle.requests.specs.Conditions.{recorded_conflict}
use Rattle.requests.specs.Reasons.{RequestReason, conflict_with, prereq_missing}
use Rattle.requests.specs.Refusals.{unless}
use Rattle.modules.proofs.entries.judge.Goals as goal

-- what forbids a module, by the first conflict and by the others, and by the group that isn't met
abbrev first_of : Option Entry → Option Entry → Option (List Text) → Option RequestReason
first_of recorded own missing =
    option_or (option_map (λ x. conflict_with x.name) recorded) (
    option_or (option_map (λ x. conflict_with x.name) own) (
    option_map prereq_missing missing))

in_conflict : (recorded : Option Entry) (others : Option RequestReason) (x : Entry) (name : Text) → Some x ≡ recorded → name ≡ x.name
    → Err (conflict_with name) ≡ unless {A = Unit {0}} (option_or (option_map (λ y. conflict_with y.name) recorded) others) (Ok tt)
in_conflict recorded others x name is same = rw (sym is, same) refl

unmet : (recorded own : Option Entry) (missing : Option (List Text)) (names shown : List Text) → None ≡ recorded → None ≡ own → Some names ≡ missing → shown ≡ names
    → Err (prereq_missing shown) ≡ unless {A = Unit {0}} (first_of recorded own missing) (Ok tt)
unmet recorded own missing names shown a b is same = rw (sym a, sym b, sym is, same) refl

unforbidden : (recorded own : Option Entry) (missing : Option (List Text)) → None ≡ recorded → None ≡ own → None ≡ missing
    → Ok tt ≡ unless {A = Unit {0}} (first_of recorded own missing) (Ok tt)
unforbidden recorded own missing a b c = rw (sym a, sym b, sym c) refl

pub returns-in-Some : goal.returns-in-Some
returns-in-Some c =
    let entries = map entry_view c.args.entries.now in
    let recorded : Some (entry_view c.in-Some.entry.now) ≡ recorded_conflict c.args.name.now entries = c.in-Some.ensures in
    in_conflict (recorded_conflict c.args.name.now entries) _ (entry_view c.in-Some.entry.now) _ recorded (c.in_ok-from_str.ensures.ok ∙ c.as_str.ensures.value)

pub returns-in_ok-of-in-Some-missing_group : goal.returns-in_ok-of-in-Some-missing_group
returns-in_ok-of-in-Some-missing_group c =
    let entries = map entry_view c.args.entries.now in
    let recorded : None ≡ recorded_conflict c.args.name.now entries = c.in_default.ensures in
    unmet (recorded_conflict c.args.name.now entries) _ _ _ _ recorded c.in_default-own_conflict.ensures c.in-Some-missing_group.ensures
    (c.in_ok-of-in-Some-missing_group.ensures ∙ ap (λ (names : List (String Global)). map (λ (s : String Global). string_bytes s) names) c.as_slice.ensures.value)

pub returns-in-None : goal.returns-in-None
returns-in-None c =
    let entries = map entry_view c.args.entries.now in
    let recorded : None ≡ recorded_conflict c.args.name.now entries = c.in_default.ensures in
    unforbidden (recorded_conflict c.args.name.now entries) _ _ recorded c.in_default-own_conflict.ensures c.in-None.ensures
