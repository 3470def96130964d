use Rattle.std.proofs.Common.{◌≡◌, ◌++◌, ◌∷◌, [], map, sym, string_bytes, ap, ◌∙◌, append_assoc, refl, arith}
use Rattle.std.specs.Vec.Iter.{into_iter_items}
use Rattle.std.proofs.lemmas.Result.{err_from_is_err_and}
use Rattle.filetree.proofs.FailedPaths.{fails_then}
use Rattle.modules.specs.Answers.{is_failure}
use Rattle.search.proofs.NameLemmas.{filter_more}
use Rattle.audit_certificate.specs.RecordUses.{IsAmong}
use Rattle.audit_site.specs.Missing.{is_missing, missing_among}
use Rattle.audit_site.proofs.MissingLemmas.{in_the_middle}
use Rattle.audit_site.proofs.missing.missing_among.Goals as goal

pub loop-dir-preserved : goal.loop-dir-preserved
loop-dir-preserved g c =
    let dir = c.in-Some.dir in
    let step = c.in-Some.ensures.steps.0 in
    let rest = map string_bytes (into_iter_items c.next.new.self) in
    let missing = map string_bytes c.loop-dir.missing.items in record {
      reads = record { narrows = λ files listings k. c.loop-dir.invariant.reads.narrows files listings (c.is_missing.ensures.reads.narrows files listings k); counts_failures = omega arith };
      so_far = λ files listings k.
          filter_more (is_missing listings) c.in_ok-absent.absent (string_bytes dir) rest missing (map string_bytes c.add_if.new.missing.items) (missing_among listings (map string_bytes c.args.dirs.items))
          (ap (is_missing listings) (sym c.as_str.ensures.value) ∙ c.in_ok-absent.ensures.answer files listings k) c.in_ok-add_if.ensures
          (c.loop-dir.invariant.so_far files listings (c.is_missing.ensures.reads.narrows files listings k) ∙ ap (λ xs. missing ++ missing_among listings (map string_bytes xs)) step);
      unfailed = c.in_ok-absent.ensures.failed ∙ c.loop-dir.invariant.unfailed;
      whole = append_assoc c.loop-dir.yielded (dir ∷ []) (into_iter_items c.next.new.self) ∙ ap (λ xs. c.loop-dir.yielded ++ xs) (sym step) ∙ c.loop-dir.invariant.whole;
    }

pub returns-in_err-absent-clause-failed : goal.returns-in_err-absent-clause-failed
returns-in_err-absent-clause-failed g c =
    let dir = c.in-Some.dir in
    let fails = is_failure c.in_err-absent.field-0.0 in
    let p = err_from_is_err_and c.from_residual.result c.from_residual.ensures.1 in
    let whole = ap (λ xs. c.loop-dir.yielded ++ xs) (sym c.in-Some.ensures.steps.0) ∙ c.loop-dir.invariant.whole in
    rw (p.1, p.2) (fails_then fails fails (g.T.Tree.failed c.args.tree.now) (g.T.Tree.failed c.loop-dir.tree) (g.T.Tree.failed c.is_missing.new.tree)
    (λ at. at ≡ c.as_str.result.now) (λ at. IsAmong at (map string_bytes c.args.dirs.items)) c.loop-dir.invariant.unfailed refl
    (λ at e. rw (e ∙ c.as_str.ensures.value) (in_the_middle c.args.dirs.items c.loop-dir.yielded (into_iter_items c.next.new.self) dir whole))
    c.in_err-absent.ensures.failed)

pub returns-in_err-add_if-clause-failed : goal.returns-in_err-add_if-clause-failed
returns-in_err-add_if-clause-failed g c =
    let p = err_from_is_err_and c.from_residual-in_err-add_if.result c.from_residual-in_err-add_if.ensures.1 in
    rw (p.1, p.2) (c.in_ok-absent.ensures.failed ∙ c.loop-dir.invariant.unfailed)

pub returns-clause-failed : goal.returns-clause-failed
returns-clause-failed g c = c.loop-dir.invariant.unfailed
