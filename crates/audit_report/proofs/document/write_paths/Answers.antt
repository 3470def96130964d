use Rattle.std.proofs.Common.{List, String, Global, append-nil, subst}
use Rattle.audit_report.specs.Documents.{missing_field, no_modulefiles_field, unread_field}
use Rattle.audit_report.specs.Tokens.{AddsTokens, field_tokens}
use Rattle.audit_report.proofs.TokenLemmas.{adds_more}
use Rattle.audit_report.proofs.document.write_paths.Goals as goal

pub returns : goal.returns
returns c =
    let last = c.write_text_array-3.result in
    let audit = c.args.audit.now in
    let found = audit.found in
    let end = c.write_text_array-3.new.writer in
    let Missing : List (String Global) → List (String Global) → Type 0 = λ unreadable dirs. AddsTokens c.args.writer.now c.write_missing.new.writer (field_tokens (missing_field unreadable dirs)) in
    adds_more last c.args.writer.now c.write_missing.new.writer end (field_tokens (missing_field audit.unreadable.items found.missing_directories.items)) _
    (subst (λ (unreadable : List (String Global)). Missing unreadable found.missing_directories.items) c.as_slice.ensures.value
    (subst (λ (dirs : List (String Global)). Missing c.as_slice.result.now dirs) c.as_slice-2.ensures.value c.in_ok-write_missing.ensures))
    (adds_more last c.write_missing.new.writer c.write_text_array.new.writer end (field_tokens (no_modulefiles_field found.no_modulefiles.items)) _
    (rw c.as_slice-3.ensures.value at c.in_ok-write_text_array.ensures)
    (adds_more last c.write_text_array.new.writer c.write_text_array-2.new.writer end (field_tokens (unread_field found.unread_default_files.items)) _
    (rw c.as_slice-4.ensures.value at c.in_ok-write_text_array-2.ensures)
    (rw append-nil (rw c.as_slice-5.ensures.value at c.write_text_array-3.ensures))))
