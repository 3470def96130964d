use Rattle.std.proofs.Common.{sym, ◌∙◌, string_bytes}
use Rattle.std.proofs.lemmas.Result.{err_from_is_err_and}
use Rattle.module_collections.proofs.texts.Same.{saved_again, saved_differs, saved_refused}
use Rattle.module_collections.proofs.texts.save.save_text.Goals as goal

pub returns-then-same-clause-saved : goal.returns-then-same-clause-saved
returns-then-same-clause-saved c =
    saved_again c.args.collection.now c.in_ok-again.again c.in_ok-bytes.bytes.items c.as_slice.result.now (string_bytes c.in_ok-text.text) c.as_str.result.now
    c.in_ok-bytes.ensures c.as_slice.ensures.value c.in_ok-text.ensures.lossy c.as_str.ensures.value c.in_ok-again.ensures (sym c.keep_same-same.ensures ∙ c.if-same.true)

pub returns-clause-fault : goal.returns-clause-fault
returns-clause-fault c =
    saved_differs c.args.collection.now c.in_ok-again.again c.in_ok-bytes.bytes.items c.as_slice.result.now (string_bytes c.in_ok-text.text) c.as_str.result.now
    c.in_ok-bytes.ensures c.as_slice.ensures.value c.in_ok-text.ensures.lossy c.as_str.ensures.value c.in_ok-again.ensures (sym c.keep_same-same.ensures ∙ c.if-same.false)

pub returns-in_err-again-clause-fault : goal.returns-in_err-again-clause-fault
returns-in_err-again-clause-fault c =
    let p = err_from_is_err_and c.from_residual-in_err-again.result c.from_residual-in_err-again.ensures.1 in
    rw (p.1, p.2) (saved_refused c.args.collection.now c.in_err-again.field-0.0 c.in_ok-bytes.bytes.items c.as_slice.result.now (string_bytes c.in_ok-text.text) c.as_str.result.now
    c.in_ok-bytes.ensures c.as_slice.ensures.value c.in_ok-text.ensures.lossy c.as_str.ensures.value c.in_err-again.ensures)
