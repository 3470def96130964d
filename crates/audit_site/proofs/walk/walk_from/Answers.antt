use Rattle.std.proofs.Common.{◌≡◌, ◌<◌, ◌≤◌, List, [], ◌∷◌, Some, None, map, length, slice_get, option_map, add-one}
use Rattle.std.proofs.Common.{string_bytes, String, Global, refl, sym, ap, ◌∙◌, subst, arith}
use Rattle.envvars.specs.Texts.{Text}
use Rattle.filetree.specs.Agreement.{InEachPair}
use Rattle.filetree.specs.Modulefiles.{directories}
use Rattle.audit_laws.specs.site.DirectorySets.{with_directories}
use Rattle.audit_laws.specs.site.Sites.{site_of}
use Rattle.audit_site.specs.declared.walk.Evaluation.{Evaluation}
use Rattle.audit_site.specs.WalkLooked.{DirectoryLooksAt, WalkLooksAt}
use Rattle.audit_site.specs.Walks.{IsWalk, most_directories}
use Rattle.std.proofs.lemmas.List.{length-map}
use Rattle.std.proofs.lemmas.Result.{err_from_is_err_and}
use Rattle.filetree.proofs.FailedPaths.{fails_then}
use Rattle.modules.specs.Answers.{is_failure}
use Rattle.audit_site.proofs.AmongSites.{place_below, place_gone}
use Rattle.audit_site.proofs.DirectoryLemmas.{is_alone}
use Rattle.audit_site.proofs.WalkLemmas.{IsWalkTo, walk_begins, walks_on, walk_goes_on, walk_ends, walk_exceeds}
use Rattle.audit_site.proofs.walk.walk_from.Goals as goal

pub loop-evaluations-init : goal.loop-evaluations-init
loop-evaluations-init g c =
    let a = c.args.settings in
    let dirs = map string_bytes c.push_directories.new.dirs.keys in
    let begun = c.in_ok-push_directories.ensures
    ∙ (ap (λ (ks : List (String Global)). with_directories (map string_bytes ks) (directories c.args.modulepath.now)) c.new-dirs.ensures.empty
    ∙ ap (λ (t : Text). with_directories [] (directories t)) c.requires.begins) in
    record {
      reads = record { narrows = λ files listings k. k; counts_failures = omega arith };
      unfailed = refl;
      within = omega arith;
      walked = λ files listings k.
          let site = site_of a.limits a.env.now files listings in
          subst (λ (xs : List Evaluation). IsWalkTo site 0 dirs xs) (sym c.new-evaluations.ensures.items) (walk_begins site dirs begun);
    }

pub returns-then-len-gt-MAX_DIRECTORIES-clause-cause : goal.returns-then-len-gt-MAX_DIRECTORIES-clause-cause
returns-then-len-gt-MAX_DIRECTORIES-clause-cause g c = λ files listings k.
    let a = c.args.settings in
    let keys = c.loop-evaluations.dirs.keys in
    let dirs = map string_bytes keys in
    let same : length dirs ≡ length keys = length-map keys string_bytes in
    let many : most_directories < length dirs = omega (arith, c.len.ensures.len) in
    walk_exceeds (site_of a.limits a.env.now files listings) c.loop-evaluations.place dirs c.loop-evaluations.evaluations.items (c.loop-evaluations.invariant.walked files listings k) many

pub overflow_add-place : goal.overflow_add-place
overflow_add-place g c =
    let keys = c.loop-evaluations.dirs.keys in
    let dirs = map string_bytes keys in
    let same : length dirs ≡ length keys = length-map keys string_bytes in
    let at : slice_get dirs c.loop-evaluations.place ≡ Some (string_bytes c.in-Some.dir) = sym c.in_ok-dir.ensures ∙ ap (option_map string_bytes) c.in-Some.is in
    let below : c.loop-evaluations.place < length dirs = place_below (string_bytes c.in-Some.dir) dirs c.loop-evaluations.place at in
    omega (arith, c.len.ensures.len)

pub loop-evaluations-smaller : goal.loop-evaluations-smaller
loop-evaluations-smaller g c =
    let keys = c.loop-evaluations.dirs.keys in
    let dirs = map string_bytes keys in
    let same : length dirs ≡ length keys = length-map keys string_bytes in
    let at : slice_get dirs c.loop-evaluations.place ≡ Some (string_bytes c.in-Some.dir) = sym c.in_ok-dir.ensures ∙ ap (option_map string_bytes) c.in-Some.is in
    let below : c.loop-evaluations.place < length dirs = place_below (string_bytes c.in-Some.dir) dirs c.loop-evaluations.place at in
    omega (arith, c.len.ensures.len)

pub loop-evaluations-preserved : goal.loop-evaluations-preserved
loop-evaluations-preserved g c =
    let a = c.args.settings in
    let place = c.loop-evaluations.place in
    let dirs = map string_bytes c.loop-evaluations.dirs.keys in
    let last = map string_bytes c.walk_directory.new.dirs.keys in
    let dir = c.as_str.result.now in
    let at : slice_get dirs place ≡ Some dir = sym c.in_ok-dir.ensures ∙ (ap (option_map string_bytes) c.in-Some.is ∙ ap (λ (t : Text). Some t) (sym c.as_str.ensures.value)) in
    let same : length dirs ≡ length c.loop-evaluations.dirs.keys = length-map c.loop-evaluations.dirs.keys string_bytes in
    let below : place < length dirs = place_below dir dirs place at in
    record {
      reads = record {
        narrows = λ files listings k. c.loop-evaluations.invariant.reads.narrows files listings
            (c.walk_directory.ensures.reads.narrows files listings k);
        counts_failures = omega arith;
      };
      unfailed = c.in_ok-walk_directory.ensures.failed ∙ c.loop-evaluations.invariant.unfailed;
      within = omega (arith, c.len.ensures.len);
      walked = λ files listings k.
          let site = site_of a.limits a.env.now files listings in
          let so_far = c.loop-evaluations.invariant.walked files listings (c.walk_directory.ensures.reads.narrows files listings k) in
          let alone = is_alone site dir (walks_on site place dirs c.loop-evaluations.evaluations.items dir so_far at) in
          let through = c.in_ok-walk_directory.ensures.walked alone files listings k in
          rw add-one (walk_goes_on site place dirs last c.loop-evaluations.evaluations.items c.walk_directory.new.evaluations.items dir so_far at through);
    }

pub returns-clause-walked : goal.returns-clause-walked
returns-clause-walked g c = λ files listings k.
    let a = c.args.settings in
    let place = c.loop-evaluations.place in
    let dirs = map string_bytes c.loop-evaluations.dirs.keys in
    let site = site_of a.limits a.env.now files listings in
    let gone : slice_get dirs place ≡ None = sym c.in_ok-dir.ensures ∙ ap (option_map string_bytes) c.in_default.is in
    let within : length dirs ≤ most_directories = omega (arith, place_gone dirs place gone, c.loop-evaluations.invariant.within) in
    let ends = walk_ends site place dirs c.loop-evaluations.evaluations.items (c.loop-evaluations.invariant.walked files listings k) c.files.ensures.one c.walks.ensures.directories within gone in
    (ends.0, subst (λ (ds : List Text). IsWalk site ds ends.0) (sym c.in_ok-in_order.ensures) ends.1, ends.2)

pub returns-in_err-walk_directory-clause-failed : goal.returns-in_err-walk_directory-clause-failed
returns-in_err-walk_directory-clause-failed g c =
    let a = c.args.settings in
    let place = c.loop-evaluations.place in
    let dirs = map string_bytes c.loop-evaluations.dirs.keys in
    let dir = c.as_str.result.now in
    let at : slice_get dirs place ≡ Some dir = sym c.in_ok-dir.ensures ∙ (ap (option_map string_bytes) c.in-Some.is ∙ ap (λ (t : Text). Some t) (sym c.as_str.ensures.value)) in
    let fails = is_failure c.in_err-walk_directory.field-0.0 in
    let agrees = g.T.Tree.agrees c.walk_directory.new.tree in
    let p = err_from_is_err_and c.from_residual-in_err-walk_directory.result c.from_residual-in_err-walk_directory.ensures.1 in
    rw (p.1, p.2) (fails_then fails fails (g.T.Tree.failed c.args.tree.now) (g.T.Tree.failed c.loop-evaluations.tree) (g.T.Tree.failed c.walk_directory.new.tree)
    (λ path. InEachPair agrees (λ files listings. directories dir ≡ dir ∷ [] → DirectoryLooksAt (site_of a.limits a.env.now files listings) dir path))
    (λ path. InEachPair agrees (λ files listings. WalkLooksAt (site_of a.limits a.env.now files listings) path)) c.loop-evaluations.invariant.unfailed refl
    (λ path h files listings k.
    let site = site_of a.limits a.env.now files listings in
    let so_far = c.loop-evaluations.invariant.walked files listings (c.walk_directory.ensures.reads.narrows files listings k) in
    let directory = walks_on site place dirs c.loop-evaluations.evaluations.items dir so_far at in
    (dir, directory, h files listings k (is_alone site dir directory))) c.in_err-walk_directory.ensures.failed)

pub returns-clause-failed : goal.returns-clause-failed
returns-clause-failed g c = c.loop-evaluations.invariant.unfailed
