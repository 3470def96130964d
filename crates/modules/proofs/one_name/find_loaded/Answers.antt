use Rattle.std.proofs.Common.{◌≡◌, true, false, map, Some, None, Ok, Err, refl, sym, ◌∙◌, subst}
use Rattle.std.proofs.lemmas.Result.{err_from_is_err_and}
use Rattle.std.specs.Option.{option_map}
use Rattle.envvars.specs.Texts.{Text}
use Rattle.envstate.specs.loaded_list.LoadedEntries.{entry_view}
use Rattle.modulename.specs.ModuleName.{is_module_name}
use Rattle.filetree.specs.Relations.{Is}
use Rattle.search.specs.Reasons.{bad_name}
use Rattle.search.specs.Answers.{found_view}
use Rattle.requests.specs.Reasons.{missed}
use Rattle.requests.specs.Steps.{last_meant}
use Rattle.modules.specs.Parts.{ReadsEntry, ReadsMeant, FindsLoaded, LoadedLooksAt}
use Rattle.modules.proofs.StepLemmas.{if_yes, if_no}
use Rattle.modules.proofs.TreeAnswers.{same_tree, answers_now, refused, then_answers, starved_now}
use Rattle.modules.proofs.one_name.find_loaded.Goals as goal

pub returns-then-not-is_module_name : goal.returns-then-not-is_module_name
returns-then-not-is_module_name g c =
    let typed = c.args.typed.now in
    let xs = map entry_view c.args.entries.now in
    let no : is_module_name typed ≡ false = sym c.is_module_name.ensures ∙ c.if-not-is_module_name.true in
    record {
      reads = same_tree c.args.tree.now;
      over_tree = λ files listings k. subst (λ (t : Text). FindsLoaded files typed xs (Err (missed (bad_name t)))) (sym c.in_ok-name.ensures.ok)
          (if_no (is_module_name typed) (ReadsMeant files (last_meant typed xs)) (Is (Err (missed (bad_name typed)))) (Err (missed (bad_name typed))) no refl);
      failed_at = refl;
    }

pub returns-in-None : goal.returns-in-None
returns-in-None g c =
    let typed = c.args.typed.now in
    let xs = map entry_view c.args.entries.now in
    let yes : is_module_name typed ≡ true = sym c.is_module_name.ensures ∙ c.if-not-is_module_name.false in
    answers_now c.args.tree.now (option_map found_view) None (λ files listings. FindsLoaded files typed xs) (λ files listings. LoadedLooksAt typed xs)
    (λ files listings. if_yes (is_module_name typed) (ReadsMeant files (last_meant typed xs)) (Is (Err (missed (bad_name typed)))) (Ok None) yes
    (subst (λ x. ReadsMeant files x (Ok None)) c.in-None.ensures refl))

pub returns-in_err-read_entry-in-Some : goal.returns-in_err-read_entry-in-Some
returns-in_err-read_entry-in-Some g c =
    let typed = c.args.typed.now in
    let xs = map entry_view c.args.entries.now in
    let x = entry_view c.in-Some.entry.now in
    let yes : is_module_name typed ≡ true = sym c.is_module_name.ensures ∙ c.if-not-is_module_name.false in
    refused found_view c.in_err-read_entry-in-Some.field-0.0 (λ files listings. ReadsEntry files x) (λ files listings at. at ≡ x.path)
    (option_map found_view) c.from_residual-in_err-read_entry-in-Some.result (λ files listings. FindsLoaded files typed xs) (λ files listings. LoadedLooksAt typed xs)
    (err_from_is_err_and c.from_residual-in_err-read_entry-in-Some.result c.from_residual-in_err-read_entry-in-Some.ensures.1) c.in_err-read_entry-in-Some.ensures
    (λ files listings r h. if_yes (is_module_name typed) (ReadsMeant files (last_meant typed xs)) (Is (Err (missed (bad_name typed)))) (Err r) yes
    (subst (λ o. ReadsMeant files o (Err r)) c.in-Some.ensures (Err r, h, refl)))
    (λ files listings at h. record { spelled = yes; entry = x; meant = c.in-Some.ensures; recorded = h })

pub returns-in_ok-read_entry-in-Some : goal.returns-in_ok-read_entry-in-Some
returns-in_ok-read_entry-in-Some g c =
    let typed = c.args.typed.now in
    let xs = map entry_view c.args.entries.now in
    let x = entry_view c.in-Some.entry.now in
    let found = c.in_ok-read_entry-in-Some.field-0 in
    let yes : is_module_name typed ≡ true = sym c.is_module_name.ensures ∙ c.if-not-is_module_name.false in
    then_answers found_view found (λ files listings. ReadsEntry files x) (λ files listings at. at ≡ x.path)
    (option_map found_view) (Some found) (λ files listings. FindsLoaded files typed xs) (λ files listings. LoadedLooksAt typed xs) c.in_ok-read_entry-in-Some.ensures
    (λ files listings h. if_yes (is_module_name typed) (ReadsMeant files (last_meant typed xs)) (Is (Err (missed (bad_name typed)))) (Ok (Some (found_view found))) yes
    (subst (λ o. ReadsMeant files o (Ok (Some (found_view found)))) c.in-Some.ensures (Ok (found_view found), h, refl)))

pub returns-in_err-name : goal.returns-in_err-name
returns-in_err-name g c = starved_now c.args.tree.now _ c.from_residual.result _ _ (err_from_is_err_and c.from_residual.result c.from_residual.ensures.1)
