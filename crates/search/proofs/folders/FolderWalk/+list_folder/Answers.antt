use Rattle.std.proofs.lemmas.List.{take_all}
use Rattle.std.proofs.Common.{◌≡◌, ◌≤◌, ◌++◌, ◌∷◌, [], length, map, option_map, string_bytes, take, Some, None, refl}
use Rattle.std.proofs.Common.{sym, ap, ◌∙◌, append_assoc, append-nil, subst, arith, rules}
use Rattle.std.proofs.lemmas.Result.{err_from_is_err_and}
use Rattle.filetree.specs.Agreement.{InEachPair, is_device, listing_answer}
use Rattle.filetree.proofs.FailedPaths.{fails_then}
use Rattle.search.proofs.VersionLemmas.{has}
use Rattle.search.specs.ListingEntries.{listing_entry_view}
use Rattle.search.specs.BelowFolder.{folder_path, names_in, parts_of, IsUnder, IsInside, AreAmong, HasAllFolders}
use Rattle.search.specs.Walks.{AreListingEntries, LooksFromFolder}
use Rattle.search.proofs.UnderLemmas.{none_under, deep_under}
use Rattle.search.proofs.RowLemmas.{rows_none}
use Rattle.search.proofs.NameLemmas.{sorted_among}
use Rattle.search.proofs.WalkLemmas.{deeper, rows_begun, rows_more, one_more}
use Rattle.search.proofs.FolderLemmas.{read_among, rows_ended}
use Rattle.search.proofs.ListingLookLemmas.{looks_inside}
use Rattle.search.proofs.folders.FolderWalk.+list_folder.Goals as goal

pub returns-then-levels-eq0-clause-added : goal.returns-then-levels-eq0-clause-added
returns-then-levels-eq0-clause-added g t c = λ files folders a.
    let dir = c.args.self.now.dir.now in
    let texts = map string_bytes c.args.self.now.texts.now in
    let prefix = option_map (λ f. f.now) c.args.prefix in
    let deep : 4 ≤ length (parts_of prefix) = omega arith in (
      [],
      sym (append-nil _),
      rows_none (g.D.DefaultFiles.results c.args.self.now.default_files.now) files folders dir
          (IsUnder files folders texts dir prefix) (λ v u. deep_under files folders texts dir prefix v deep u),
    )

pub returns-in_default-clause-added : goal.returns-in_default-clause-added
returns-in_default-clause-added g t c = λ files folders a.
    let dir = c.args.self.now.dir.now in
    let texts = map string_bytes c.args.self.now.texts.now in
    let prefix = option_map (λ f. f.now) c.args.prefix in
    let absent : folders (folder_path dir prefix) ≡ None = ap folders (sym (c.deref.ensures ∙ c.in_ok-folder.ensures))
    ∙ c.in_ok-entries.ensures.answer files folders a ∙ ap listing_answer c.in_default.is in (
      [],
      sym (append-nil _),
      rows_none (g.D.DefaultFiles.results c.args.self.now.default_files.now) files folders dir
          (IsUnder files folders texts dir prefix) (λ v u. none_under files folders texts dir prefix v absent u),
    )

pub loop-name-init : goal.loop-name-init
loop-name-init g t c =
    let texts = map string_bytes c.args.self.now.texts.now in
    let prefix = option_map (λ f. f.now) c.args.prefix in
    let all = names_in texts prefix (map string_bytes c.in-Some.entries.items) in
    let given = sorted_among c.in_ok-names.names.items c.sort_names.new.names.items all c.in_ok-sort_names.ensures.same
    (c.in_ok-names.ensures ∙ ap (λ es. names_in texts prefix (map string_bytes es)) c.deref-2.ensures.value) in record {
      reads = record { narrows = λ files folders a. a; counts_failures = omega arith };
      walked = λ files folders a.
          let f = c.in_ok-below.ensures.added files folders a in (
            f.0,
            f.1,
            rows_begun (g.D.DefaultFiles.results c.args.self.now.default_files.now) files folders texts c.args.self.now.dir.now
                (map string_bytes c.sort_names.new.names.items) all f.0 given.0 given.1 f.2,
          );
      unfailed = refl;
    }

pub list_folder-requires : goal.list_folder-requires
list_folder-requires g t c = λ κs h.
    let texts = map string_bytes c.args.self.now.texts.now in
    let prefix = option_map (λ f. f.now) c.args.prefix in
    let entries = map string_bytes c.in-Some.entries.items in
    let below = c.deref-name-items.result.now in
    let i = c.loop-name.name-index in
    let name = c.as_str.result.now in
    let given = sorted_among c.in_ok-names.names.items c.sort_names.new.names.items (names_in texts prefix entries) c.in_ok-sort_names.ensures.same
    (c.in_ok-names.ensures ∙ ap (λ es. names_in texts prefix (map string_bytes es)) c.deref-2.ensures.value) in
    let among = subst (λ fs. AreAmong (map string_bytes fs) (map string_bytes c.sort_names.new.names.items)) (sym c.deref-name-items.ensures.value) c.in_ok-below.ensures.named in
    let there = ap (λ x. has x (names_in texts prefix entries)) c.as_str.ensures.value
    ∙ read_among string_bytes below c.name-item.result i c.loop-name-test.true c.name-item.is _
    (names_in texts prefix entries) given.0 among in
    let deep = deeper texts prefix entries (names_in texts prefix entries) name c.args.levels refl there c.requires c.if-levels-eq0.false in
    (omega arith, (h.0, (h.1, deep)))

pub list_files-requires-clause-named : goal.list_files-requires-clause-named
list_files-requires-clause-named g t c =
    let texts = map string_bytes c.args.self.now.texts.now in
    let prefix = option_map (λ f. f.now) c.args.prefix in
    (sorted_among c.in_ok-names.names.items c.sort_names.new.names.items (names_in texts prefix (map string_bytes c.deref-3.result.now)) c.in_ok-sort_names.ensures.same
    (c.in_ok-names.ensures ∙ ap (λ es. names_in texts prefix (map string_bytes es)) (c.deref-2.ensures.value ∙ sym c.deref-3.ensures.value))).0

pub returns-in_err-list_folder-clause-narrows : goal.returns-in_err-list_folder-clause-narrows
returns-in_err-list_folder-clause-narrows g t c = λ files folders a.
    c.entries.ensures.narrows files folders (c.list_files.ensures.narrows files folders (c.loop-name.invariant.reads.narrows files folders (c.list_folder.ensures.narrows files folders a)))

pub loop-name-preserved : goal.loop-name-preserved
loop-name-preserved g t c =
    let results = g.D.DefaultFiles.results c.args.self.now.default_files.now in
    let dir = c.args.self.now.dir.now in
    let texts = map string_bytes c.args.self.now.texts.now in
    let prefix = option_map (λ f. f.now) c.args.prefix in
    let names = names_in texts prefix (map string_bytes c.in-Some.entries.items) in
    let below = c.deref-name-items.result.now in
    let i = c.loop-name.name-index in
    let done = map string_bytes (take i below) in
    let name = c.as_str.result.now in record {
      reads = record { narrows = λ files folders a. c.loop-name.invariant.reads.narrows files folders (c.list_folder.ensures.narrows files folders a); counts_failures = omega arith };
      walked = λ files folders a.
          let v = c.loop-name.invariant.walked files folders (c.list_folder.ensures.narrows files folders a) in
          let m = c.in_ok-list_folder.ensures.added files folders a in
          let one = ap (λ n. done ++ n ∷ []) c.as_str.ensures.value ∙ sym (one_more string_bytes c.name-item.result below i c.loop-name-test.true c.name-item.is) in (
            v.0 ++ m.0,
            m.1 ∙ ap (λ listing_entries. listing_entries ++ m.0) v.1 ∙ append_assoc (map listing_entry_view c.args.listing_entries.now.items) v.0 m.0,
            subst (λ walked. AreListingEntries results files folders dir (IsInside files folders texts dir names walked) (v.0 ++ m.0)) one
                (rows_more results files folders texts dir names done name v.0 m.0 v.2 m.2),
          );
      unfailed = c.in_ok-list_folder.ensures.failed ∙ c.loop-name.invariant.unfailed;
    }

pub returns-in_err-list_folder-clause-failed : goal.returns-in_err-list_folder-clause-failed
returns-in_err-list_folder-clause-failed g t c =
    let results = g.D.DefaultFiles.results c.args.self.now.default_files.now in
    let dir = c.args.self.now.dir.now in
    let texts = map string_bytes c.args.self.now.texts.now in
    let prefix = option_map (λ f. f.now) c.args.prefix in
    let entries = map string_bytes c.in-Some.entries.items in
    let below = c.deref-name-items.result.now in
    let i = c.loop-name.name-index in
    let name = c.as_str.result.now in
    let agrees = g.T.Tree.agrees c.list_folder.new.tree in
    let fails = is_device c.in_err-list_folder.field-0.0 in
    let p = err_from_is_err_and c.from_residual-in_err-list_folder.result c.from_residual-in_err-list_folder.ensures.1 in
    let given = sorted_among c.in_ok-names.names.items c.sort_names.new.names.items (names_in texts prefix entries) c.in_ok-sort_names.ensures.same
    (c.in_ok-names.ensures ∙ ap (λ es. names_in texts prefix (map string_bytes es)) c.deref-2.ensures.value) in
    let among = subst (λ fs. AreAmong (map string_bytes fs) (map string_bytes c.sort_names.new.names.items)) (sym c.deref-name-items.ensures.value) c.in_ok-below.ensures.named in
    let there = ap (λ x. has x (names_in texts prefix entries)) c.as_str.ensures.value
    ∙ read_among string_bytes below c.name-item.result i c.loop-name-test.true c.name-item.is _
    (names_in texts prefix entries) given.0 among in
    rw (p.1, p.2) (fails_then fails fails (g.T.Tree.failed c.args.tree.now) (g.T.Tree.failed c.loop-name.tree) (g.T.Tree.failed c.list_folder.new.tree)
    (λ at. InEachPair agrees (λ files folders. LooksFromFolder results files folders texts dir (Some name) at))
    (λ at. InEachPair agrees (λ files folders. LooksFromFolder results files folders texts dir prefix at))
    (c.loop-name.invariant.unfailed ∙ c.in_ok-below.ensures.failed ∙ c.in_ok-entries.ensures.failed) refl
    (λ at h files folders a.
    let b = c.list_files.ensures.narrows files folders (c.loop-name.invariant.reads.narrows files folders (c.list_folder.ensures.narrows files folders a)) in
    let listed : folders (folder_path dir prefix) ≡ Some entries =
    ap folders (sym (c.deref.ensures ∙ c.in_ok-folder.ensures)) ∙ c.in_ok-entries.ensures.answer files folders b ∙ ap listing_answer c.in-Some.is in
    looks_inside results files folders texts dir prefix entries listed (names_in texts prefix entries) (λ v h. h) name there at (h files folders a))
    c.in_err-list_folder.ensures.failed)

pub returns-clause-failed : goal.returns-clause-failed
returns-clause-failed g t c = c.loop-name.invariant.unfailed ∙ c.in_ok-below.ensures.failed ∙ c.in_ok-entries.ensures.failed

pub returns-clause-narrows : goal.returns-clause-narrows
returns-clause-narrows g t c = λ files folders a.
    c.entries.ensures.narrows files folders (c.list_files.ensures.narrows files folders (c.loop-name.invariant.reads.narrows files folders a))

pub returns-clause-added : goal.returns-clause-added
returns-clause-added g t c = λ files folders a.
    let results = g.D.DefaultFiles.results c.args.self.now.default_files.now in
    let dir = c.args.self.now.dir.now in
    let texts = map string_bytes c.args.self.now.texts.now in
    let prefix = option_map (λ f. f.now) c.args.prefix in
    let entries = map string_bytes c.in-Some.entries.items in
    let v = c.loop-name.invariant.walked files folders a in
    let below = c.deref-name-items.result.now in
    let read = map string_bytes below in
    let i = c.loop-name.name-index in
    let given = sorted_among c.in_ok-names.names.items c.sort_names.new.names.items (names_in texts prefix entries) c.in_ok-sort_names.ensures.same
    (c.in_ok-names.ensures ∙ ap (λ es. names_in texts prefix (map string_bytes es)) c.deref-2.ensures.value) in
    let all = ap (map string_bytes) (sym c.deref-name-items.ensures.value) in
    let walked = ap (map string_bytes) (take_all i below c.loop-name-test.false) in
    let l = c.loop-name.invariant.reads.narrows files folders a in
    let b = c.list_files.ensures.narrows files folders l in
    let listed : folders (folder_path dir prefix) ≡ Some entries =
    ap folders (sym (c.deref.ensures ∙ c.in_ok-folder.ensures)) ∙ c.in_ok-entries.ensures.answer files folders b ∙ ap listing_answer c.in-Some.is in (
      v.0,
      v.1,
      rows_ended results files folders texts dir prefix entries listed (names_in texts prefix entries) read refl
          (λ n h. given.0 n (subst (λ fs. AreAmong fs (map string_bytes c.sort_names.new.names.items)) all c.in_ok-below.ensures.named n h))
          (λ n h. subst (λ fs. HasAllFolders folders dir (map string_bytes c.sort_names.new.names.items) fs) all
          (c.in_ok-below.ensures.others files folders l) n (given.1 n h))
          v.0 (subst (λ fs. AreListingEntries results files folders dir (IsInside files folders texts dir (names_in texts prefix entries) fs) v.0) walked v.2),
    )

pub returns-clause-cause : goal.returns-clause-cause
returns-clause-cause g t c = record { counts_failures = omega arith; device = search rules }
