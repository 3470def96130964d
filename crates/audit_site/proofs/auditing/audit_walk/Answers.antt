use Rattle.std.proofs.Common.{◌≡◌, map, flat_map, subst, ap, List, refl, inl, inr, ◌∙◌, String, Global, string_bytes}
use Rattle.std.proofs.lemmas.Result.{err_from_is_err_and}
use Rattle.envvars.specs.Texts.{texts_in}
use Rattle.filetree.specs.Agreement.{InEachPair, is_device}
use Rattle.filetree.proofs.FailedPaths.{fails_then}
use Rattle.modules.specs.Answers.{is_failure, refused_read}
use Rattle.modules.proofs.FailureLemmas.{read_failure}
use Rattle.audit_certificate.specs.RecordUses.{IsAmong}
use Rattle.audit_site.specs.declared.walk.Evaluation.{Evaluation}
use Rattle.requests.specs.Steps.{modulepath}
use Rattle.audit_site.specs.Audits.{addition_of, mention_of}
use Rattle.audit_site.specs.Unreachable.{is_stable_directory, additions_after}
use Rattle.audit_site.specs.FilesBelow.{LooksAtAny}
use Rattle.audit_site.specs.DeterministicRuns.{evaluated_file}
use Rattle.audit_site.specs.Folders.{AreBadDefaultFiles, EvaluatedLookAt}
use Rattle.audit_site.specs.Mentions.{is_known, is_accepted, unknown_after}
use Rattle.audit_site.specs.NoModulefiles.{AreNoModulefiles}
use Rattle.audit_site.specs.Unread.{unread_among}
use Rattle.audit_site.specs.Parts.{WalkedLookAt}
use Rattle.audit_site.proofs.auditing.audit_walk.Goals as goal

pub returns-clause-parts : goal.returns-clause-parts
returns-clause-parts g c = λ files listings agrees.
    let before = c.in_ok-bad_default_files.ensures.reads.narrows files listings agrees in
    let unread = c.in_ok-missing_directories.ensures.reads.narrows files listings before in record {
      standings = c.in_ok-modules.ensures;
      missing_directories = c.in_ok-missing_directories.ensures.answer files listings before;
      unreachable = subst (λ (es : List Evaluation). map addition_of c.in_ok-unreachable_directories.unreachable_directories.items ≡ flat_map
          (additions_after (is_stable_directory (modulepath c.args.env.now) es)) es) c.as_slice-2.ensures.value
          (rw c.modulepath.ensures at c.in_ok-unreachable_directories.ensures);
      no_modulefiles = subst (λ (dirs : List (String Global)). AreNoModulefiles files listings (map string_bytes dirs) (texts_in c.in_ok-no_modulefiles.no_modulefiles)) c.as_slice-3.ensures.value
          (c.in_ok-no_modulefiles.ensures.answer files listings (c.in_ok-unread_default_files.ensures.reads.narrows files listings unread));
      unread = c.in_ok-unread_default_files.ensures.answer files listings unread ∙ ap (λ (dirs : List (String Global)). unread_among listings (map string_bytes dirs)) c.as_slice-4.ensures.value;
      bad_default_files = subst (λ (es : List Evaluation). AreBadDefaultFiles c.args.limits files listings (map evaluated_file es) (texts_in c.in_ok-bad_default_files.bad_default_files)) c.as_slice-5.ensures.value
          (c.in_ok-bad_default_files.ensures.answer files listings agrees);
      unknown_names = subst (λ (es : List Evaluation). map mention_of c.in_ok-unknown_names.unknown_names.items ≡ flat_map
          (unknown_after (is_known es) (is_accepted es)) es) c.as_slice.ensures.value c.in_ok-unknown_names.ensures;
      agrees = rw (← c.as_slice-6.ensures.value) c.in_ok-disagreements.ensures.agrees;
      disagreements = rw (← c.as_slice-6.ensures.value) c.in_ok-disagreements.ensures.order;
    }

pub returns-in_err-no_modulefiles-clause-failed : goal.returns-in_err-no_modulefiles-clause-failed
returns-in_err-no_modulefiles-clause-failed g c =
    let a = c.args in
    let fault = c.in_err-no_modulefiles.field-0.0 in
    let agrees = g.T.Tree.agrees c.no_modulefiles.new.tree in
    let p = err_from_is_err_and c.from_residual-in_err-no_modulefiles.result c.from_residual-in_err-no_modulefiles.ensures.1 in
    rw (p.1, p.2) (fails_then (is_device fault) (is_failure (refused_read fault)) (g.T.Tree.failed a.tree.now) (g.T.Tree.failed a.tree.now) (g.T.Tree.failed c.no_modulefiles.new.tree)
    (λ at. InEachPair agrees (λ files listings. LooksAtAny listings (texts_in a.walk.directories) at))
    (λ at. InEachPair agrees (λ files listings. WalkedLookAt a.limits files listings a.walk at)) refl (read_failure fault)
    (λ at h files listings k. inl (h files listings k)) (rw c.as_slice-3.ensures.value at c.in_err-no_modulefiles.ensures.failed))

pub returns-in_err-unread_default_files-clause-failed : goal.returns-in_err-unread_default_files-clause-failed
returns-in_err-unread_default_files-clause-failed g c =
    let a = c.args in
    let fails = is_failure c.in_err-unread_default_files.field-0.0 in
    let agrees = g.T.Tree.agrees c.unread_default_files.new.tree in
    let p = err_from_is_err_and c.from_residual-in_err-unread_default_files.result c.from_residual-in_err-unread_default_files.ensures.1 in
    rw (p.1, p.2) (fails_then fails fails (g.T.Tree.failed a.tree.now) (g.T.Tree.failed c.no_modulefiles.new.tree) (g.T.Tree.failed c.unread_default_files.new.tree)
    (λ at. IsAmong at (texts_in a.walk.directories))
    (λ at. InEachPair agrees (λ files listings. WalkedLookAt a.limits files listings a.walk at)) c.in_ok-no_modulefiles.ensures.failed refl
    (λ at h files listings k. inl (at, h, inl refl)) (rw c.as_slice-4.ensures.value at c.in_err-unread_default_files.ensures.failed))

pub returns-in_err-missing_directories-clause-failed : goal.returns-in_err-missing_directories-clause-failed
returns-in_err-missing_directories-clause-failed g c =
    let a = c.args in
    let fails = is_failure c.in_err-missing_directories.field-0.0 in
    let agrees = g.T.Tree.agrees c.missing_among.new.tree in
    let p = err_from_is_err_and c.from_residual-in_err-missing_directories.result c.from_residual-in_err-missing_directories.ensures.1 in
    rw (p.1, p.2) (fails_then fails fails (g.T.Tree.failed a.tree.now) (g.T.Tree.failed c.unread_default_files.new.tree) (g.T.Tree.failed c.missing_among.new.tree)
    (λ at. IsAmong at (texts_in a.walk.directories))
    (λ at. InEachPair agrees (λ files listings. WalkedLookAt a.limits files listings a.walk at)) (c.in_ok-unread_default_files.ensures.failed ∙ c.in_ok-no_modulefiles.ensures.failed) refl
    (λ at h files listings k. inl (at, h, inl refl)) c.in_err-missing_directories.ensures.failed)

pub returns-in_err-bad_default_files-clause-failed : goal.returns-in_err-bad_default_files-clause-failed
returns-in_err-bad_default_files-clause-failed g c =
    let a = c.args in
    let fails = is_failure c.in_err-bad_default_files.field-0.0 in
    let agrees = g.T.Tree.agrees c.bad_default_files.new.tree in
    let p = err_from_is_err_and c.from_residual-in_err-bad_default_files.result c.from_residual-in_err-bad_default_files.ensures.1 in
    rw (p.1, p.2) (fails_then fails fails (g.T.Tree.failed a.tree.now) (g.T.Tree.failed c.missing_among.new.tree) (g.T.Tree.failed c.bad_default_files.new.tree)
    (λ at. InEachPair agrees (λ files listings. EvaluatedLookAt a.limits files listings a.walk.evaluations.items at))
    (λ at. InEachPair agrees (λ files listings. WalkedLookAt a.limits files listings a.walk at)) (c.in_ok-missing_directories.ensures.failed ∙ (c.in_ok-unread_default_files.ensures.failed ∙ c.in_ok-no_modulefiles.ensures.failed)) refl
    (λ at h files listings k. inr (h files listings k)) (rw c.as_slice-5.ensures.value at c.in_err-bad_default_files.ensures.failed))

pub returns-in_err-modules-clause-failed : goal.returns-in_err-modules-clause-failed
returns-in_err-modules-clause-failed g c =
    let p = err_from_is_err_and c.from_residual-in_err-modules.result c.from_residual-in_err-modules.ensures.1 in
    rw (p.1, p.2) (c.in_ok-bad_default_files.ensures.failed ∙ (c.in_ok-missing_directories.ensures.failed ∙ (c.in_ok-unread_default_files.ensures.failed ∙ c.in_ok-no_modulefiles.ensures.failed)))

pub returns-in_err-disagreements-clause-failed : goal.returns-in_err-disagreements-clause-failed
returns-in_err-disagreements-clause-failed g c =
    let p = err_from_is_err_and c.from_residual-in_err-disagreements.result c.from_residual-in_err-disagreements.ensures.1 in
    rw (p.1, p.2, c.in_err-disagreements.ensures.only) (c.in_ok-bad_default_files.ensures.failed ∙ (c.in_ok-missing_directories.ensures.failed ∙ (c.in_ok-unread_default_files.ensures.failed ∙ c.in_ok-no_modulefiles.ensures.failed)))

pub returns-clause-failed : goal.returns-clause-failed
returns-clause-failed g c = c.in_ok-bad_default_files.ensures.failed ∙ (c.in_ok-missing_directories.ensures.failed ∙ (c.in_ok-unread_default_files.ensures.failed ∙ c.in_ok-no_modulefiles.ensures.failed))
