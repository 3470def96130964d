use Rattle.std.proofs.Common.{◌≡◌, Bool, ◌||◌, sym, ap, ◌∙◌, subst, string_bytes, String, Global}
use Rattle.std.specs.Prelude.{Option}
use Rattle.std.specs.Option.{option_map}
use Rattle.std.specs.BTreeSet.{contains_text}
use Rattle.envvars.specs.Texts.{Text}
use Rattle.module_collections.specs.files.Calls.{InEach}
use Rattle.module_collections.specs.files.Failures.{IsInFolder, IsInSome}
use Rattle.module_collections.specs.files.Lists.{is_in, is_in_some}
use Rattle.module_collections.proofs.files.ListLemmas.{fails_as, map_on}
use Rattle.module_collections.proofs.files.list.add_others.Goals as goal

pub returns-in-Some-clause-added : goal.returns-in-Some-clause-added
returns-in-Some-clause-added g c =
    let old = c.args.found.now in
    map_on c.add_folder.result
    (InEach (g.S.Storage.agrees c.add_folder.new.storage) (λ e. (q : Text) → contains_text c.add_folder.new.found q
    ≡ (contains_text old q || is_in e c.as_str.result.now q)))
    (InEach (g.S.Storage.agrees c.add_folder.new.storage) (λ e. (q : Text) → contains_text c.add_folder.new.found q
    ≡ (contains_text old q || is_in_some e (option_map string_bytes c.args.folders.now.others) q)))
    (λ h e b q. h e b q ∙ ap (λ (t : Bool). contains_text old q || t)
    (ap (λ (x : Text). is_in e x q) c.as_str.ensures.value
    ∙ ap (λ (o : Option (String Global)). is_in_some e (option_map string_bytes o) q) (sym c.in-Some.is)))
    c.add_folder.ensures.added

pub returns-in-Some-clause-failure : goal.returns-in-Some-clause-failure
returns-in-Some-clause-failure g c =
    fails_as c.add_folder.result (λ f. InEach (g.S.Storage.agrees c.add_folder.new.storage) (λ e. IsInFolder e c.as_str.result.now f))
    (λ f. InEach (g.S.Storage.agrees c.add_folder.new.storage) (λ e. IsInSome e (option_map string_bytes c.args.folders.now.others) f))
    (λ f h e b. subst (λ (o : Option (String Global)). IsInSome e (option_map string_bytes o) f) (sym c.in-Some.is)
    (subst (λ (x : Text). IsInFolder e x f) c.as_str.ensures.value (h e b)))
    c.add_folder.ensures.failure
