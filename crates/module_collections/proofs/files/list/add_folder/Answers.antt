use Rattle.std.proofs.Common.{◌≡◌, Bool, ◌||◌, ◌&&◌, List, map, ap, ◌∙◌, inl, subst, string_bytes, String, Global}
use Rattle.std.specs.Prelude.{bytes_eq}
use Rattle.std.specs.BTreeSet.{contains_text}
use Rattle.std.specs.List.{list_any}
use Rattle.envvars.specs.Texts.{Text, texts_in}
use Rattle.module_collections.specs.files.Calls.{InEach}
use Rattle.module_collections.specs.files.Failures.{IsAtOne, IsInFolder, unread}
use Rattle.module_collections.specs.files.Lists.{is_in}
use Rattle.module_collections.proofs.files.EndLemmas.{some_as}
use Rattle.module_collections.proofs.files.ListLemmas.{failed_in_folder, fails_as, listed_is, map_on}
use Rattle.module_collections.proofs.files.list.add_folder.Goals as goal

pub returns-in-Ok-clause-added : goal.returns-in-Ok-clause-added
returns-in-Ok-clause-added g c =
    let folder = c.args.folder.now in
    let old = c.args.found.now in
    map_on c.add_names.result
    (InEach (g.S.Storage.agrees c.add_names.new.storage) (λ e. (q : Text) → contains_text c.add_names.new.found q
    ≡ (contains_text old q || list_any (λ n. bytes_eq q n && is_in e folder n) (map string_bytes c.as_slice.result.now))))
    (InEach (g.S.Storage.agrees c.add_names.new.storage) (λ e. (q : Text) → contains_text c.add_names.new.found q
    ≡ (contains_text old q || is_in e folder q)))
    (λ h e b q. h e b q ∙ ap (λ (t : Bool). contains_text old q || t)
    (ap (λ (l : List (String Global)). list_any (λ n. bytes_eq q n && is_in e folder n) (map string_bytes l)) c.as_slice.ensures.value
    ∙ listed_is e folder q (texts_in c.in-Ok.names) (λ k. c.in-Ok.ensures.answer e (c.add_names.ensures.narrows e b) q k)))
    c.add_names.ensures.added

pub returns-in-Ok-clause-failure : goal.returns-in-Ok-clause-failure
returns-in-Ok-clause-failure g c =
    let folder = c.args.folder.now in
    fails_as c.add_names.result (IsAtOne folder (map string_bytes c.as_slice.result.now)) (λ f. InEach (g.S.Storage.agrees c.add_names.new.storage) (λ e. IsInFolder e folder f))
    (λ f h e b. failed_in_folder e folder (texts_in c.in-Ok.names) (λ q k. c.in-Ok.ensures.answer e (c.add_names.ensures.narrows e b) q k) f
    (subst (λ (l : List (String Global)). IsAtOne folder (map string_bytes l) f) c.as_slice.ensures.value h))
    c.add_names.ensures.failure

pub returns-in-Err-clause-failure : goal.returns-in-Err-clause-failure
returns-in-Err-clause-failure g c =
    some_as _ (λ f. f ≡ unread c.args.folder.now) (λ f. InEach (g.S.Storage.agrees c.names.new.self) (λ e. IsInFolder e c.args.folder.now f)) (λ f is e b. inl is) c.reading.ensures.failure
