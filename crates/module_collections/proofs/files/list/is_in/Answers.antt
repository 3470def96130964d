use Rattle.std.proofs.Common.{◌≡◌, Bool, ◌&&◌, sym, ap, ◌∙◌}
use Rattle.module_collections.specs.files.Calls.{InEach}
use Rattle.module_collections.specs.files.Entries.{in_folder}
use Rattle.module_collections.specs.files.Failures.{IsAtName, unread}
use Rattle.module_collections.specs.files.Lists.{is_in, leads_to_file}
use Rattle.module_collections.proofs.files.EntryLemmas.{map_ok}
use Rattle.module_collections.proofs.files.ListLemmas.{fails_as}
use Rattle.module_collections.proofs.files.list.is_in.Goals as goal

pub returns-then-is_collection_name-clause-answer : goal.returns-then-is_collection_name-clause-answer
returns-then-is_collection_name-clause-answer g c =
    map_ok c.has_file.result
    (λ (has : Bool). InEach (g.S.Storage.agrees c.has_file.new.storage) (λ e. leads_to_file e (in_folder c.args.folder.now c.args.name.now) ≡ has))
    (λ (has : Bool). InEach (g.S.Storage.agrees c.has_file.new.storage) (λ e. is_in e c.args.folder.now c.args.name.now ≡ has))
    (λ has h e b.
    ap (λ (t : Bool). t && leads_to_file e (in_folder c.args.folder.now c.args.name.now)) (sym c.is_collection_name.ensures ∙ c.if-is_collection_name.true) ∙ h e b)
    c.has_file.ensures.answer

pub returns-then-is_collection_name-clause-failure : goal.returns-then-is_collection_name-clause-failure
returns-then-is_collection_name-clause-failure g c =
    fails_as c.has_file.result (λ f. f ≡ unread (in_folder c.args.folder.now c.args.name.now)) (IsAtName c.args.folder.now c.args.name.now)
    (λ f e. (sym c.is_collection_name.ensures ∙ c.if-is_collection_name.true, e)) c.has_file.ensures.failure
