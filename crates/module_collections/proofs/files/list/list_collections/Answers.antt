use Rattle.std.proofs.Common.{◌≡◌, Bool, ◌||◌, List, ap, ◌∙◌, inl, inr, subst, Ok, string_bytes, String, Global}
use Rattle.std.specs.Option.{option_map}
use Rattle.std.specs.BTreeSet.{contains_text}
use Rattle.std.proofs.lemmas.Result.{err_from_is_err_and}
use Rattle.envvars.specs.Texts.{Text}
use Rattle.module_collections.specs.files.Calls.{InEach}
use Rattle.module_collections.specs.files.Failures.{IsInFolder, IsInSome, IsListing, failure_of}
use Rattle.module_collections.specs.files.Lists.{is_in, is_in_some}
use Rattle.module_collections.specs.files.Places.{Folders, folders_of}
use Rattle.module_collections.specs.files.PathKind.{folders_view}
use Rattle.module_collections.proofs.files.EndLemmas.{some_as}
use Rattle.module_collections.proofs.files.list.list_collections.Goals as goal

pub returns-clause-listed : goal.returns-clause-listed
returns-clause-listed g c =
    let folders = c.in_ok-folders.folders in (
      folders_view folders,
      c.in_ok-folders.ensures.answer,
      λ e b q.
          c.in_ok-add_others.ensures.added e b q
          ∙ ap (λ (t : Bool). t || is_in_some e (option_map string_bytes folders.others) q)
          (c.in_ok-add_folder.ensures.added e (c.add_others.ensures.narrows e b) q
          ∙ (ap (λ (ks : List (String Global)). contains_text (record { keys = ks }) q || is_in e c.as_str.result.now q) c.new-found.ensures.empty
          ∙ ap (λ (x : Text). is_in e x q) c.as_str.ensures.value)),
    )

pub returns-in_err-add_folder-clause-failure : goal.returns-in_err-add_folder-clause-failure
returns-in_err-add_folder-clause-failure g c =
    let agrees = g.S.Storage.agrees c.add_folder.new.storage in
    let p = err_from_is_err_and c.from_residual-in_err-add_folder.result c.from_residual-in_err-add_folder.ensures.1 in
    rw (p.1, p.2) (some_as (failure_of c.in_err-add_folder.field-0.0) (λ f. InEach agrees (λ e. IsInFolder e c.as_str.result.now f))
    (λ f. (folders : Folders) × (folders_of c.args.env.now ≡ Ok folders) × InEach agrees (λ e. IsListing e folders f))
    (λ f h. (folders_view c.in_ok-folders.folders, c.in_ok-folders.ensures.answer, λ e b. inl (subst (λ (x : Text). IsInFolder e x f) c.as_str.ensures.value (h e b))))
    c.in_err-add_folder.ensures.failure)

pub returns-in_err-add_others-clause-failure : goal.returns-in_err-add_others-clause-failure
returns-in_err-add_others-clause-failure g c =
    let agrees = g.S.Storage.agrees c.add_others.new.storage in
    let folders = folders_view c.in_ok-folders.folders in
    let p = err_from_is_err_and c.from_residual-in_err-add_others.result c.from_residual-in_err-add_others.ensures.1 in
    rw (p.1, p.2) (some_as (failure_of c.in_err-add_others.field-0.0) (λ f. InEach agrees (λ e. IsInSome e folders.others f))
    (λ f. (folders : Folders) × (folders_of c.args.env.now ≡ Ok folders) × InEach agrees (λ e. IsListing e folders f))
    (λ f h. (folders, c.in_ok-folders.ensures.answer, λ e b. inr (h e b)))
    c.in_err-add_others.ensures.failure)
