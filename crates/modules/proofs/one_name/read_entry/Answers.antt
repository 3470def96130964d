use Rattle.std.proofs.Common.{◌≡◌, ◌<◌, string_bytes, String, Ok, Err, refl, ap, ◌∙◌, subst}
use Rattle.std.proofs.lemmas.Result.{err_from_is_err_and}
use Rattle.std.specs.declared.alloc.Global.{Global}
use Rattle.envvars.specs.Texts.{Text}
use Rattle.filetree.specs.Agreement.{InEachPair}
use Rattle.filetree.specs.Modulefiles.{modulefile}
use Rattle.filetree.specs.Relations.{Is}
use Rattle.envstate.specs.loaded_list.LoadedEntries.{entry_view}
use Rattle.requests.specs.Steps.{script_at}
use Rattle.search.specs.Found.{FoundModule}
use Rattle.search.specs.Answers.{found_view}
use Rattle.filetree.proofs.FailedPaths.{fails_then}
use Rattle.modules.specs.Answers.{is_failure}
use Rattle.modules.specs.Parts.{ReadsEntry}
use Rattle.modules.proofs.StepLemmas.{over_tree_refused}
use Rattle.modules.proofs.TreeAnswers.{starved_now}
use Rattle.modules.proofs.one_name.read_entry.Goals as goal

pub returns-in_err-script_at : goal.returns-in_err-script_at
returns-in_err-script_at g c =
    let p = err_from_is_err_and c.from_residual-in_err-script_at.result c.from_residual-in_err-script_at.ensures.1 in
    let x = entry_view c.args.entry.now in
    let q = c.as_str-3.result.now in
    let path : q ≡ x.path = c.as_str-3.ensures.value in
    let e = c.in_err-script_at.field-0.0 in
    let agrees = g.T.Tree.agrees c.script_at.new.tree in
    let rose = g.T.Tree.failures c.args.tree.now < g.T.Tree.failures c.script_at.new.tree in
    let before = g.T.Tree.failed c.args.tree.now in
    rw (p.1, p.2) (record {
      reads = c.script_at.ensures.reads;
      over_tree = over_tree_refused agrees rose rose (λ (t : String Global). string_bytes t) found_view e
          (λ files listings. Is (script_at q (modulefile (files q)))) (λ files listings. ReadsEntry files x) (λ z. z)
          (λ files listings r a h. (Err r, subst (λ (z : Text). Err r ≡ script_at z (modulefile (files z))) path h, refl)) c.in_err-script_at.ensures.over_tree;
      failed_at = fails_then (is_failure e) (is_failure e) before before (g.T.Tree.failed c.script_at.new.tree) (λ at. at ≡ q) (λ at. InEachPair agrees (λ files listings. at ≡ x.path))
          refl refl (λ at h files listings a. h ∙ path) c.in_err-script_at.ensures.failed;
    })

pub returns-in_err-from_str : goal.returns-in_err-from_str
returns-in_err-from_str g c = starved_now c.args.tree.now _ c.from_residual.result _ _ (err_from_is_err_and c.from_residual.result c.from_residual.ensures.1)

pub returns-in_err-from_str-2 : goal.returns-in_err-from_str-2
returns-in_err-from_str-2 g c = starved_now c.args.tree.now _ c.from_residual-in_err-from_str-2.result _ _
    (err_from_is_err_and c.from_residual-in_err-from_str-2.result c.from_residual-in_err-from_str-2.ensures.1)

abbrev of_parts : Text → Text → Text → FoundModule
of_parts name path text = record { name = name; path = path; text = text }

same_parts : (n m p q t : Text) → n ≡ m → p ≡ q → of_parts n p t ≡ of_parts m q t
same_parts n m p q t a b = ap (λ (y : Text). of_parts y p t) a ∙ ap (λ (y : Text). of_parts m y t) b

pub returns : goal.returns
returns g c =
    let x = entry_view c.args.entry.now in
    let q = c.as_str-3.result.now in
    let path : q ≡ x.path = c.as_str-3.ensures.value in
    let text = string_bytes c.in_ok-script_at.field-0 in
    record {
      reads = c.script_at.ensures.reads;
      over_tree = λ files listings a. (
        Ok text,
        subst (λ (z : Text). Ok text ≡ script_at z (modulefile (files z))) path (c.in_ok-script_at.ensures.over_tree files listings a),
        ap Ok (same_parts (string_bytes c.in_ok-from_str.field-0) x.name (string_bytes c.in_ok-from_str-2.field-0) x.path text
            (c.in_ok-from_str.ensures.ok ∙ c.as_str.ensures.value) (c.in_ok-from_str-2.ensures.ok ∙ c.as_str-2.ensures.value)),
      );
      failed_at = c.in_ok-script_at.ensures.failed;
    }
