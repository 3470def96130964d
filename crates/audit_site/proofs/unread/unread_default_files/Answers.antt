use Rattle.std.proofs.Common.{◌≡◌, map, string_bytes, ◌∙◌, ap, sym, refl, arith, String, Global}
use Rattle.std.proofs.lemmas.Result.{err_from_is_err_and}
use Rattle.filetree.proofs.FailedPaths.{fails_then}
use Rattle.modules.specs.Answers.{is_failure}
use Rattle.audit_certificate.specs.RecordUses.{IsAmong}
use Rattle.envvars.specs.Texts.{Text}
use Rattle.audit_site.specs.Unread.{has_default_file}
use Rattle.audit_site.proofs.AmongLemmas.{among_map, among_at}
use Rattle.audit_site.proofs.UnreadLemmas.{unread_turn}
use Rattle.audit_site.proofs.unread.unread_default_files.Goals as goal

pub loop-dir-preserved : goal.loop-dir-preserved
loop-dir-preserved g c =
    let dir = c.dir-item.result in record {
      reads = record { narrows = λ files listings k. c.loop-dir.invariant.reads.narrows files listings (c.is_there.ensures.reads.narrows files listings k); counts_failures = omega arith };
      so_far = λ files listings k.
          unread_turn listings c.args.dirs.now c.loop-dir.dir-index dir c.in_ok-there.there (map string_bytes c.loop-dir.found.items) (map string_bytes c.add_if.new.found.items)
          c.loop-dir-test.true c.dir-item.is (ap (λ (t : Text). has_default_file (listings t)) (sym c.as_str.ensures.value) ∙ c.in_ok-there.ensures.answer files listings k)
          (c.loop-dir.invariant.so_far files listings (c.is_there.ensures.reads.narrows files listings k)) (rw c.as_str-in-loop-dir.ensures.value at c.in_ok-add_if.ensures);
      unfailed = c.in_ok-there.ensures.failed ∙ c.loop-dir.invariant.unfailed;
    }

pub returns-in_err-there-clause-failed : goal.returns-in_err-there-clause-failed
returns-in_err-there-clause-failed g c =
    let dir = c.dir-item.result in
    let fails = is_failure c.in_err-there.field-0.0 in
    let p = err_from_is_err_and c.from_residual.result c.from_residual.ensures.1 in
    rw (p.1, p.2) (fails_then fails fails (g.T.Tree.failed c.args.tree.now) (g.T.Tree.failed c.loop-dir.tree) (g.T.Tree.failed c.is_there.new.tree)
    (λ at. at ≡ c.as_str.result.now) (λ at. IsAmong at (map string_bytes c.args.dirs.now)) c.loop-dir.invariant.unfailed refl
    (λ at e. rw (e ∙ c.as_str.ensures.value) (among_map (λ (s : String Global). string_bytes s) dir c.args.dirs.now
    (among_at c.args.dirs.now c.loop-dir.dir-index dir c.loop-dir-test.true c.dir-item.is)))
    c.in_err-there.ensures.failed)

pub returns-in_err-add_if-clause-failed : goal.returns-in_err-add_if-clause-failed
returns-in_err-add_if-clause-failed g c =
    let p = err_from_is_err_and c.from_residual-in_err-add_if.result c.from_residual-in_err-add_if.ensures.1 in
    rw (p.1, p.2) (c.in_ok-there.ensures.failed ∙ c.loop-dir.invariant.unfailed)

pub returns-clause-failed : goal.returns-clause-failed
returns-clause-failed g c = c.loop-dir.invariant.unfailed
