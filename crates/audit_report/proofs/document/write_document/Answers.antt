use Rattle.std.proofs.Common.{List, ◌∷◌, ◌++◌, length, Ok, Result, subst, sym}
use Rattle.std.specs.Prelude.{OnOk}
use Rattle.std.proofs.lemmas.Grind.{flat_map-append}
use Rattle.json.specs.Token.{Token}
use Rattle.std.specs.declared.alloc.AllocError.{AllocError}
use Rattle.audit_report.specs.Documents.{modules_field, unreadable_field, count_fields, certificate_field, paths_fields, unreachable_field, not_utf8_field, rest_fields}
use Rattle.audit_report.specs.Tokens.{AddsTokens, field_tokens, fields_tokens}
use Rattle.audit_report.proofs.TokenLemmas.{adds_one, adds_more, adds_object}
use Rattle.audit_report.proofs.document.write_document.Goals as goal

pub returns : goal.returns
returns c =
    let done : Result (Unit {0}) AllocError = Ok tt in
    let audit = c.args.audit.now in
    let found = audit.found in
    let modules = found.modules.items in
    let paths = audit.unreadable.items in
    let begun = c.begin_object.new.self in
    let end = c.write_rest.new.writer in
    let rest = rest_fields found.unknown_names.items found.disagreements.items in
    let others = not_utf8_field audit.not_utf8.items ∷ rest in
    let last = unreachable_field found.unreachable_directories.items ∷ others in
    let later = certificate_field found.certificate.items ∷ paths_fields audit ++ last in
    adds_object c.end_object.result c.args.writer.now begun end c.end_object.new.self
    (modules_field c.args.selection modules audit.dry_runs.items ∷ unreadable_field paths ∷ count_fields (length paths) modules ++ later)
    (adds_one done c.args.writer.now begun _ c.in_ok-begin_object.ensures)
    (adds_more done begun c.write_modules.new.writer end (field_tokens (modules_field c.args.selection modules audit.dry_runs.items)) _ (rw (c.as_slice.ensures.value, c.as_slice-2.ensures.value) at c.in_ok-write_modules.ensures)
    (adds_more done c.write_modules.new.writer c.write_text_array.new.writer end (field_tokens (unreadable_field paths)) _ (rw c.as_slice-unreadable.ensures.value at c.in_ok-write_text_array.ensures)
    (adds_more done c.write_text_array.new.writer c.write_counts.new.writer end (fields_tokens (count_fields (length paths) modules)) (fields_tokens later) (rw (c.as_slice-unreadable.ensures.value, c.as_slice-3.ensures.value) at c.in_ok-write_counts.ensures)
    (adds_more done c.write_counts.new.writer c.write_certificate.new.writer end (field_tokens (certificate_field found.certificate.items)) (fields_tokens (paths_fields audit ++ last)) (rw c.as_slice-4.ensures.value at c.in_ok-write_certificate.ensures)
    (subst (λ (ts : List Token). OnOk done (AddsTokens c.write_certificate.new.writer end ts)) (sym (flat_map-append field_tokens (paths_fields audit) last))
    (adds_more done c.write_certificate.new.writer c.write_paths.new.writer end (fields_tokens (paths_fields audit)) (fields_tokens last) c.in_ok-write_paths.ensures
    (adds_more done c.write_paths.new.writer c.write_unreachable.new.writer end (field_tokens (unreachable_field found.unreachable_directories.items)) (fields_tokens others) (rw c.as_slice-5.ensures.value at c.in_ok-write_unreachable.ensures)
    (adds_more done c.write_unreachable.new.writer c.write_text_array-2.new.writer end (field_tokens (not_utf8_field audit.not_utf8.items)) (fields_tokens rest) (rw c.as_slice-6.ensures.value at c.in_ok-write_text_array-2.ensures)
    (rw (c.as_slice-7.ensures.value, c.as_slice-8.ensures.value) at c.in_ok-write_rest.ensures)))))))))
    (adds_one c.end_object.result end c.end_object.new.self _ c.end_object.ensures)
