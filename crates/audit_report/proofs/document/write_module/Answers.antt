use Rattle.std.proofs.Common.{List, ◌++◌, Ok, Result, option_map, subst, sym}
use Rattle.std.specs.Prelude.{OnOk}
use Rattle.std.proofs.lemmas.Grind.{flat_map-append}
use Rattle.json.specs.Token.{Token}
use Rattle.std.specs.declared.alloc.AllocError.{AllocError}
use Rattle.audit_report.specs.Documents.{other_reasons_fields, here_fields, module_fields, standing_fields}
use Rattle.audit_report.specs.Tokens.{AddsTokens, field_tokens, fields_tokens}
use Rattle.audit_report.proofs.TokenLemmas.{adds_one, adds_more, adds_object}
use Rattle.audit_report.proofs.document.write_module.Goals as goal

pub returns : goal.returns
returns c =
    let done : Result (Unit {0}) AllocError = Ok tt in
    let m = c.args.module.now in
    let dry_run = option_map (λ t. t.now) c.args.dry_run in
    let end = c.write_here.new.writer in
    let why = standing_fields m.reads.items m.standing in
    let more = other_reasons_fields m.other_reasons.items in
    let last = here_fields dry_run in
    adds_object c.end_object.result c.args.writer.now c.begin_object.new.self end
    c.end_object.new.self (module_fields m dry_run)
    (adds_one done c.args.writer.now c.begin_object.new.self _ c.in_ok-begin_object.ensures)
    (adds_more done c.begin_object.new.self c.write_text.new.writer end _ _ (rw c.as_str.ensures.value at c.in_ok-write_text.ensures)
    (adds_more done c.write_text.new.writer c.write_text-2.new.writer end _ _ (rw c.as_str-2.ensures.value at c.in_ok-write_text-2.ensures)
    (adds_more done c.write_text-2.new.writer c.write_text-3.new.writer end _ (fields_tokens (why ++ (more ++ last))) (rw c.standing_word.ensures at c.in_ok-write_text-3.ensures)
    (subst (λ (ts : List Token). OnOk done (AddsTokens c.write_text-3.new.writer end ts)) (sym (flat_map-append field_tokens why (more ++ last)))
    (adds_more done c.write_text-3.new.writer c.write_standing.new.writer end (fields_tokens why) (fields_tokens (more ++ last)) (rw c.as_slice.ensures.value at c.in_ok-write_standing.ensures)
    (subst (λ (ts : List Token). OnOk done (AddsTokens c.write_standing.new.writer end ts)) (sym (flat_map-append field_tokens more last))
    (adds_more done c.write_standing.new.writer c.write_other_reasons.new.writer end (fields_tokens more) (fields_tokens last) (rw c.as_slice-2.ensures.value at c.in_ok-write_other_reasons.ensures)
    c.in_ok-write_here.ensures)))))))
    (adds_one c.end_object.result end c.end_object.new.self _ c.end_object.ensures)
