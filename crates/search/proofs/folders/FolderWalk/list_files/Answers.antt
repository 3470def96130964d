use Rattle.std.proofs.Common.{map, vec_len, option_map, string_bytes, refl, sym, subst}
use Rattle.std.proofs.lemmas.Result.{err_from_is_err_and}
use Rattle.filetree.specs.Agreement.{InEachPair, is_device}
use Rattle.filetree.proofs.FailedPaths.{fails_then}
use Rattle.search.specs.ListingEntries.{listing_entry_of}
use Rattle.search.specs.BelowFolder.{LooksAmong}
use Rattle.search.specs.Walks.{IsDefaultOf, LooksForDefault, LooksFromFolder}
use Rattle.search.proofs.FileLemmas.{files_made}
use Rattle.search.proofs.ListingLookLemmas.{looks_among, looks_at_default, some_seen}
use Rattle.search.proofs.folders.FolderWalk.list_files.Goals as goal

pub returns-clause-added : goal.returns-clause-added
returns-clause-added g c = λ files folders a.
    let results = g.D.DefaultFiles.results c.args.self.now.default_files.now in
    let dir = c.args.self.now.dir.now in
    let texts = map string_bytes c.args.self.now.texts.now in
    let prefix = option_map (λ f. f.now) c.args.prefix in
    let default = option_map (λ t. t.now) c.as_deref.result in
    let before = c.default_name.ensures.narrows files folders a in (
      map (listing_entry_of default) (map string_bytes c.in_ok-modules.field-0.modules.items),
      c.in_ok-push_listing_entries.ensures,
      files_made results files folders texts dir prefix default (map string_bytes c.args.entries.now)
          (map string_bytes c.args.names.items) (map string_bytes c.in_ok-modules.field-0.modules.items) c.requires.named
          (c.in_ok-modules.ensures.answer files folders before)
          (subst (IsDefaultOf results files folders dir prefix) (sym c.as_deref.ensures.value) (c.in_ok-default.ensures.answer files folders a)),
    )

pub returns-in_err-modules-clause-failed : goal.returns-in_err-modules-clause-failed
returns-in_err-modules-clause-failed g c =
    let results = g.D.DefaultFiles.results c.args.self.now.default_files.now in
    let dir = c.args.self.now.dir.now in
    let texts = map string_bytes c.args.self.now.texts.now in
    let prefix = option_map (λ f. f.now) c.args.prefix in
    let entries = map string_bytes c.args.entries.now in
    let names = map string_bytes c.args.names.items in
    let agrees = g.T.Tree.agrees c.sort_out.new.tree in
    let fails = is_device c.in_err-modules.field-0.0 in
    let p = err_from_is_err_and c.from_residual.result c.from_residual.ensures.1 in
    rw (p.1, p.2) (fails_then fails fails (g.T.Tree.failed c.args.tree.now) (g.T.Tree.failed c.args.tree.now) (g.T.Tree.failed c.sort_out.new.tree)
    (LooksAmong dir names) (λ at. InEachPair agrees (λ files folders. LooksFromFolder results files folders texts dir prefix at)) refl refl
    (λ at h files folders a.
    looks_among results files folders texts dir prefix entries (c.requires.listed files folders (c.sort_out.ensures.narrows files folders a)) names c.requires.named at h)
    c.in_err-modules.ensures.failed)

pub returns-in_err-default-clause-failed : goal.returns-in_err-default-clause-failed
returns-in_err-default-clause-failed g c =
    let results = g.D.DefaultFiles.results c.args.self.now.default_files.now in
    let dir = c.args.self.now.dir.now in
    let texts = map string_bytes c.args.self.now.texts.now in
    let prefix = option_map (λ f. f.now) c.args.prefix in
    let entries = map string_bytes c.args.entries.now in
    let names = map string_bytes c.args.names.items in
    let modules = map string_bytes c.in_ok-modules.field-0.modules.items in
    let agrees = g.T.Tree.agrees c.default_name.new.tree in
    let fails = is_device c.in_err-default.field-0.0 in
    let p = err_from_is_err_and c.from_residual-in_err-default.result c.from_residual-in_err-default.ensures.1 in
    rw (p.1, p.2) (fails_then fails fails (g.T.Tree.failed c.args.tree.now) (g.T.Tree.failed c.sort_out.new.tree) (g.T.Tree.failed c.default_name.new.tree)
    (λ at. InEachPair agrees (λ files folders. LooksForDefault results files folders dir prefix at))
    (λ at. InEachPair agrees (λ files folders. LooksFromFolder results files folders texts dir prefix at)) c.in_ok-modules.ensures.failed refl
    (λ at h files folders a.
    let b = c.default_name.ensures.narrows files folders a in
    looks_at_default results files folders texts dir prefix entries (c.requires.listed files folders (c.sort_out.ensures.narrows files folders b)) names modules c.requires.named
    (c.in_ok-modules.ensures.answer files folders b)
    (some_seen string_bytes c.in_ok-modules.field-0.modules.items (vec_len c.in_ok-modules.field-0.modules)
    c.is_empty.result c.in_ok-modules.field-0.modules.ok.0 c.is_empty.ensures c.if-is_empty.false) at
    (h files folders a))
    c.in_err-default.ensures.failed)
