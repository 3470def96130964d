use Rattle.std.proofs.Common.{◌≡◌, ◌++◌, ℕ, List, Ok, Result, String, Global, flat_map, ap, subst, ◌∙◌}
use Rattle.std.specs.declared.alloc.AllocError.{AllocError}
use Rattle.audit_report.specs.Remarks.{missing_line}
use Rattle.audit_report.specs.Reports.{report_of}
use Rattle.audit_report.proofs.TextLemmas.{more}
use Rattle.audit_report.proofs.report.line_report.Goals as goal

pub returns : goal.returns
returns c =
    let done : Result (Unit {0}) AllocError = Ok tt in
    let audit = c.args.audit.now in
    let end = c.push_not_utf8.new.report.items in
    let Missing : List (String Global) → List (String Global) → Type 0 = λ unreadable dirs.
    c.push_missing.new.report.items ≡ c.push_counts.new.report.items ++ flat_map (missing_line unreadable) dirs
    in
    more done c.new-report.result.items c.push_lines.new.report.items end _ _ c.in_ok-push_lines.ensures
    (more done c.push_lines.new.report.items c.push_counts.new.report.items end _ _ c.in_ok-push_counts.ensures
    (more done c.push_counts.new.report.items c.push_missing.new.report.items end _ _
    (subst (λ (unreadable : List (String Global)). Missing unreadable audit.found.missing_directories.items) c.as_slice-unreadable.ensures.value
    (subst (λ (dirs : List (String Global)). Missing c.as_slice-unreadable.result.now dirs) c.as_slice.ensures.value c.in_ok-push_missing.ensures))
    (more done c.push_missing.new.report.items c.push_unreachable_directories.new.report.items end _ _ (rw c.as_slice-2.ensures.value at c.in_ok-push_unreachable_directories.ensures)
    (more done c.push_unreachable_directories.new.report.items c.push_all_other_reasons.new.report.items end _ _ (rw c.as_slice-3.ensures.value at c.in_ok-push_all_other_reasons.ensures)
    (more done c.push_all_other_reasons.new.report.items c.push_no_modulefiles.new.report.items end _ _ (rw c.as_slice-4.ensures.value at c.in_ok-push_no_modulefiles.ensures)
    (more done c.push_no_modulefiles.new.report.items c.push_unread_files.new.report.items end _ _ (rw c.as_slice-5.ensures.value at c.in_ok-push_unread_files.ensures)
    (more done c.push_unread_files.new.report.items c.push_bad_files.new.report.items end _ _ (rw c.as_slice-6.ensures.value at c.in_ok-push_bad_files.ensures)
    (more done c.push_bad_files.new.report.items c.push_conflicts.new.report.items end _ _ (rw c.as_slice-7.ensures.value at c.in_ok-push_conflicts.ensures)
    (more done c.push_conflicts.new.report.items c.push_prereqs.new.report.items end _ _ (rw c.as_slice-8.ensures.value at c.in_ok-push_prereqs.ensures)
    (more done c.push_prereqs.new.report.items c.push_disagreements.new.report.items end _ _ (rw c.as_slice-9.ensures.value at c.in_ok-push_disagreements.ensures)
    (rw c.as_slice-10.ensures.value at c.in_ok-push_not_utf8.ensures)))))))))))
    ∙ ap (λ (l : List ℕ). l ++ report_of c.args.selection audit) c.new-report.ensures.items
