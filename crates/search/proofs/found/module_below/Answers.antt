use Rattle.std.proofs.Common.{◌≡◌, ◌<◌, ◌⊎◌, ◌∙◌, inl, inr, ⊎_elim, Ok, Err, Some, None, option_map, string_bytes, refl}
use Rattle.std.proofs.Common.{sym, ap, subst, arith}
use Rattle.std.specs.declared.alloc.Global.{Global}
use Rattle.std.proofs.lemmas.Result.{err_from_is_err_and}
use Rattle.filetree.specs.Agreement.{InEachPair}
use Rattle.filetree.specs.Modulefiles.{modulefile, path_of}
use Rattle.filetree.specs.Relations.{Is}
use Rattle.search.specs.Looked.{LooksInFolder, LooksBelow}
use Rattle.search.specs.Answers.{found_view, is_failure}
use Rattle.search.specs.Steps.{module_at, DefaultIn, FoundBelow}
use Rattle.filetree.proofs.FailedPaths.{fails_then, fails_last}
use Rattle.search.proofs.LookLemmas.{not_at, default_looked}
use Rattle.search.proofs.StepLemmas.{over_tree_fault, over_tree_weaker, below_first, below_default, below_fault}
use Rattle.search.proofs.found.module_below.Goals as goal

pub returns-in_err-found-clause-over_tree : goal.returns-in_err-found-clause-over_tree
returns-in_err-found-clause-over_tree g c =
    let results = g.D.DefaultFiles.results c.args.default_files.now in
    let dir = c.args.dir.now in
    let name = c.args.name.now in
    let rose = g.T.Tree.failures c.args.tree.now < g.T.Tree.failures c.module_at.new.tree in
    let p = err_from_is_err_and c.from_residual.result c.from_residual.ensures.1 in
    rw (p.1, p.2) (over_tree_fault (g.T.Tree.agrees c.module_at.new.tree) rose rose (option_map found_view) (option_map found_view)
    (λ files listings. Is (module_at files dir name)) (λ files listings. FoundBelow results files listings dir name) c.in_err-found.field-0.0 (λ q. q)
    (λ files listings r a h. below_first results files listings dir name (Err r) (modulefile (files (path_of dir name))) refl h (λ q. absurd (cc)))
    c.in_err-found.ensures.over_tree)

pub returns-in_err-default_in-clause-over_tree : goal.returns-in_err-default_in-clause-over_tree
returns-in_err-default_in-clause-over_tree g c =
    let results = g.D.DefaultFiles.results c.args.default_files.now in
    let dir = c.args.dir.now in
    let name = c.args.name.now in
    let p = err_from_is_err_and c.from_residual-in_err-default_in.result c.from_residual-in_err-default_in.ensures.1 in
    rw (p.1, p.2) (over_tree_fault (g.T.Tree.agrees c.default_in.new.tree)
    (g.T.Tree.failures c.module_at.new.tree < g.T.Tree.failures c.default_in.new.tree) (g.T.Tree.failures c.args.tree.now < g.T.Tree.failures c.default_in.new.tree)
    (option_map (string_bytes {Z = Global})) (option_map found_view)
    (λ files listings. DefaultIn results files listings dir name) (λ files listings. FoundBelow results files listings dir name) c.in_err-default_in.field-0.0 (λ q. omega arith)
    (λ files listings r a h. below_fault results files listings dir name (modulefile (files (path_of dir name))) refl
    (sym (ap (λ m. Ok (option_map found_view m)) c.in_default.is) ∙ c.in_ok-found.ensures.over_tree files listings (c.default_in.ensures.reads.narrows files listings a)) r h)
    c.in_err-default_in.ensures.over_tree)

pub returns-in-None-clause-over_tree : goal.returns-in-None-clause-over_tree
returns-in-None-clause-over_tree g c = λ files listings a.
    let results = g.D.DefaultFiles.results c.args.default_files.now in
    let dir = c.args.dir.now in
    let name = c.args.name.now in
    below_default results files listings dir name (modulefile (files (path_of dir name))) refl
    (sym (ap (λ m. Ok (option_map found_view m)) c.in_default.is) ∙ c.in_ok-found.ensures.over_tree files listings (c.default_in.ensures.reads.narrows files listings a))
    None (Ok None) (subst (λ v. DefaultIn results files listings dir name (Ok (option_map string_bytes v))) c.in-None.is (c.in_ok-default_in.ensures.over_tree files listings a)) refl

pub returns-in_ok-full-in-Some-2-clause-over_tree : goal.returns-in_ok-full-in-Some-2-clause-over_tree
returns-in_ok-full-in-Some-2-clause-over_tree g c =
    let results = g.D.DefaultFiles.results c.args.default_files.now in
    let dir = c.args.dir.now in
    let name = c.args.name.now in
    let version = string_bytes c.in-Some-2.version in
    let full = c.deref-in-Some-2.result.now in
    let full_is : full ≡ path_of name version = c.deref-in-Some-2.ensures ∙ c.in_ok-full-in-Some-2.ensures ∙ ap (path_of name) c.deref.ensures in
    over_tree_weaker (g.T.Tree.agrees c.module_at-in-Some-2.new.tree)
    (g.T.Tree.failures c.default_in.new.tree < g.T.Tree.failures c.module_at-in-Some-2.new.tree) (g.T.Tree.failures c.args.tree.now < g.T.Tree.failures c.module_at-in-Some-2.new.tree)
    (option_map found_view) c.module_at-in-Some-2.result
    (λ files listings. Is (module_at files dir full)) (λ files listings. FoundBelow results files listings dir name) (λ q. omega arith)
    (λ files listings o a h.
    let b = c.module_at-in-Some-2.ensures.reads.narrows files listings a in
    below_default results files listings dir name (modulefile (files (path_of dir name))) refl
    (sym (ap (λ m. Ok (option_map found_view m)) c.in_default.is) ∙ c.in_ok-found.ensures.over_tree files listings (c.default_in.ensures.reads.narrows files listings b))
    (Some version) o (subst (λ v. DefaultIn results files listings dir name (Ok (option_map (string_bytes {Z = Global}) v))) c.in-Some-2.is (c.in_ok-default_in.ensures.over_tree files listings b))
    (h ∙ ap (module_at files dir) full_is))
    c.module_at-in-Some-2.ensures.over_tree

pub returns-in_err-default_in-clause-failed : goal.returns-in_err-default_in-clause-failed
returns-in_err-default_in-clause-failed g c =
    let results = g.D.DefaultFiles.results c.args.default_files.now in
    let dir = c.args.dir.now in
    let name = c.args.name.now in
    let agrees = g.T.Tree.agrees c.default_in.new.tree in
    let fails = is_failure c.in_err-default_in.field-0.0 in
    let p = err_from_is_err_and c.from_residual-in_err-default_in.result c.from_residual-in_err-default_in.ensures.1 in
    rw (p.1, p.2) (fails_then fails fails (g.T.Tree.failed c.args.tree.now) (g.T.Tree.failed c.module_at.new.tree) (g.T.Tree.failed c.default_in.new.tree)
    (λ at. InEachPair agrees (λ files listings. (at ≡ path_of dir name) ⊎ LooksInFolder results files listings dir name at))
    (λ at. InEachPair agrees (λ files listings. LooksBelow results files listings dir name at))
    c.in_ok-found.ensures.failed refl
    (λ at h files listings a. ⊎_elim (λ e. inl e) (λ l. inr (
      not_at files dir name
          (sym (ap (λ m. Ok (option_map found_view m)) c.in_default.is) ∙ c.in_ok-found.ensures.over_tree files listings (c.default_in.ensures.reads.narrows files listings a)),
      l,
    )) (h files listings a))
    c.in_err-default_in.ensures.failed)

pub returns-in_ok-full-in-Some-2-clause-failed : goal.returns-in_ok-full-in-Some-2-clause-failed
returns-in_ok-full-in-Some-2-clause-failed g c =
    let results = g.D.DefaultFiles.results c.args.default_files.now in
    let dir = c.args.dir.now in
    let name = c.args.name.now in
    let version = string_bytes c.in-Some-2.version in
    let full = c.deref-in-Some-2.result.now in
    let full_is : full ≡ path_of name version = c.deref-in-Some-2.ensures ∙ c.in_ok-full-in-Some-2.ensures ∙ ap (path_of name) c.deref.ensures in
    let agrees = g.T.Tree.agrees c.module_at-in-Some-2.new.tree in
    fails_last is_failure (g.T.Tree.failed c.args.tree.now) (g.T.Tree.failed c.default_in.new.tree) (g.T.Tree.failed c.module_at-in-Some-2.new.tree) c.module_at-in-Some-2.result
    (λ at. at ≡ path_of dir full) (λ at. InEachPair agrees (λ files listings. LooksBelow results files listings dir name at))
    (c.in_ok-default_in.ensures.failed ∙ c.in_ok-found.ensures.failed)
    (λ at e files listings a.
    let b = c.module_at-in-Some-2.ensures.reads.narrows files listings a in
    inr (
      not_at files dir name (sym (ap (λ m. Ok (option_map found_view m)) c.in_default.is) ∙ c.in_ok-found.ensures.over_tree files listings (c.default_in.ensures.reads.narrows files listings b)),
      subst (LooksInFolder results files listings dir name) (sym (e ∙ ap (path_of dir) full_is))
          (default_looked results files listings dir name version
          (subst (λ v. DefaultIn results files listings dir name (Ok (option_map (string_bytes {Z = Global}) v))) c.in-Some-2.is (c.in_ok-default_in.ensures.over_tree files listings b))),
    ))
    c.module_at-in-Some-2.ensures.failed
