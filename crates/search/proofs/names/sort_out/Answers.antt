use Rattle.std.proofs.Common.{◌≡◌, ◌++◌, ◌∷◌, [], true, filter, map, sym, subst, string_bytes, ap, ◌∙◌, append_assoc}
use Rattle.std.proofs.Common.{refl, arith}
use Rattle.std.specs.Vec.Iter.{into_iter_items}
use Rattle.std.proofs.lemmas.List.{map-append}
use Rattle.std.proofs.lemmas.Result.{err_from_is_err_and}
use Rattle.filetree.specs.Agreement.{is_device}
use Rattle.filetree.specs.Modulefiles.{path_of}
use Rattle.filetree.proofs.FailedPaths.{fails_then}
use Rattle.search.proofs.VersionLemmas.{has}
use Rattle.search.specs.BelowFolder.{is_selected_module, LooksAmong, AreAmong, HasAllFolders}
use Rattle.search.proofs.NameLemmas.{has_middle, filter_more, more_among, more_others}
use Rattle.search.proofs.names.sort_out.Goals as goal

pub returns-in_err-seen-clause-failed : goal.returns-in_err-seen-clause-failed
returns-in_err-seen-clause-failed g c =
    let dir = c.args.dir.now in
    let name = c.in-Some.name in
    let names = c.args.names.items in
    let done = c.loop-name.yielded in
    let rest = into_iter_items c.next.new.self in
    let fails = is_device c.in_err-seen.field-0.0 in
    let p = err_from_is_err_and c.from_residual-in_err-seen.result c.from_residual-in_err-seen.ensures.1 in
    let whole = ap (λ xs. done ++ xs) (sym c.in-Some.ensures.steps.0) ∙ c.loop-name.invariant.whole in
    let there : has (string_bytes name) (map string_bytes names) ≡ true =
    ap (λ xs. has (string_bytes name) (map string_bytes xs)) (sym whole)
    ∙ ap (has (string_bytes name)) (map-append string_bytes done (name ∷ rest)) ∙ has_middle (string_bytes name) (map string_bytes done) (map string_bytes rest) in
    rw (p.1, p.2) (fails_then fails fails (g.T.Tree.failed c.args.tree.now) (g.T.Tree.failed c.loop-name.tree) (g.T.Tree.failed c.see_selected.new.tree)
    (λ at. at ≡ path_of dir c.deref.result.now) (LooksAmong dir (map string_bytes names)) c.loop-name.invariant.unfailed refl
    (λ at e. (string_bytes name, there, e ∙ ap (path_of dir) c.deref.ensures))
    c.in_err-seen.ensures.failed)

pub returns-clause-failed : goal.returns-clause-failed
returns-clause-failed g c = c.loop-name.invariant.unfailed

pub loop-name-preserved : goal.loop-name-preserved
loop-name-preserved g c =
    let dir = c.args.dir.now in
    let texts = map string_bytes c.args.texts.now in
    let name = c.in-Some.name in
    let step = c.in-Some.ensures.steps.0 in
    let rest = map string_bytes (into_iter_items c.next.new.self) in
    let done = map string_bytes c.loop-name.yielded in
    let modules = map string_bytes c.loop-name.sorted.modules.items in
    let below = map string_bytes c.loop-name.sorted.folders.items in
    let later = map string_bytes c.add.new.self.folders.items in
    let is_module = c.in_ok-seen.seen.begins in
    let may_list = c.in_ok-seen.seen.may_list in
    let more = map-append string_bytes c.loop-name.yielded (name ∷ []) in record {
      reads = record { narrows = λ files folders a. c.loop-name.invariant.reads.narrows files folders (c.see_selected.ensures.narrows files folders a); counts_failures = omega arith };
      so_far = λ files folders a.
          filter_more (is_selected_module files texts dir) is_module (string_bytes name) rest modules _ (filter (is_selected_module files texts dir) (map string_bytes c.args.names.items))
          (ap (is_selected_module files texts dir) (sym c.deref.ensures) ∙ c.in_ok-seen.ensures.answer files folders a)
          c.in_ok-add.ensures.modules
          (c.loop-name.invariant.so_far files folders (c.see_selected.ensures.narrows files folders a)
          ∙ ap (λ xs. modules ++ filter (is_selected_module files texts dir) (map string_bytes xs)) step);
      named = subst (λ ns. AreAmong later ns) (sym more) (more_among may_list below done _ (string_bytes name) c.in_ok-add.ensures.folders c.loop-name.invariant.named);
      others = λ files listings a.
          subst (λ ns. HasAllFolders listings dir ns later) (sym more)
          (more_others listings dir may_list below done _ (string_bytes name) c.in_ok-add.ensures.folders
          (λ q. ap (λ x. listings (path_of dir x)) (sym c.deref.ensures) ∙ c.in_ok-seen.ensures.nothing q files listings a)
          (c.loop-name.invariant.others files listings (c.see_selected.ensures.narrows files listings a)));
      unfailed = c.in_ok-seen.ensures.failed ∙ c.loop-name.invariant.unfailed;
      whole = append_assoc c.loop-name.yielded (name ∷ []) (into_iter_items c.next.new.self) ∙ ap (λ xs. c.loop-name.yielded ++ xs) (sym step) ∙ c.loop-name.invariant.whole;
    }
