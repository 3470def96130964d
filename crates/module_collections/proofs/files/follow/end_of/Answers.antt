use Rattle.std.proofs.Common.{◌≡◌, sym, ap, ◌∙◌, string_bytes}
use Rattle.std.specs.Prelude.{Option}
use Rattle.std.specs.Option.{option_map}
use Rattle.envvars.specs.Texts.{Text}
use Rattle.module_collections.specs.files.Entries.{end_of, leads, max_links}
use Rattle.module_collections.specs.files.Calls.{InEach}
use Rattle.module_collections.specs.files.PathKind.{path_in}
use Rattle.module_collections.specs.declared.files.follow.LinkEnd.{LinkEnd}
use Rattle.module_collections.proofs.files.EntryLemmas.{map_ok}
use Rattle.module_collections.proofs.files.follow.end_of.Goals as goal

pub returns-clause-path : goal.returns-clause-path
returns-clause-path g c =
    map_ok c.follow.result
    (λ (found : Option LinkEnd). InEach (g.S.Storage.agrees c.follow.new.storage) (λ e. leads max_links e (string_bytes c.in_ok-path.path) ≡ option_map path_in found))
    (λ (found : Option LinkEnd). InEach (g.S.Storage.agrees c.follow.new.storage) (λ e. end_of e c.args.path.now ≡ option_map path_in found))
    (λ found h e b. ap (λ (x : Text). leads max_links e x) (sym c.in_ok-path.ensures.ok) ∙ h e b)
    c.follow.ensures.path
