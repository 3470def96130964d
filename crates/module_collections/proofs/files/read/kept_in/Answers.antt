use Rattle.std.proofs.Common.{◌≡◌, sym, ap, ◌∙◌, subst, string_bytes, vec_items}
use Rattle.std.specs.Prelude.{IfSome, Err, Ok}
use Rattle.std.proofs.lemmas.Bool.{false≢true}
use Rattle.std.proofs.lemmas.Str.{IsUtf8-string_bytes, is_utf8-from_IsUtf8}
use Rattle.envvars.specs.Texts.{Text}
use Rattle.module_collections.specs.texts.Collections.{read}
use Rattle.module_collections.specs.texts.Views as views
use Rattle.module_collections.specs.texts.Views.{kept_view}
use Rattle.module_collections.specs.files.Faults.{reason_of}
use Rattle.module_collections.specs.files.Found as found
use Rattle.module_collections.proofs.files.FoundLemmas.{kept_is, no_text_kept, wrong_kept}
use Rattle.module_collections.proofs.files.read.kept_in.Goals as goal

pub returns-in_default-clause-answer : goal.returns-in_default-clause-answer
returns-in_default-clause-answer c =
    no_text_kept (reason_of c.no_collection.result) c.args.path.now c.args.bytes.items
    (λ u. absurd (false≢true (c.in_default.ensures.succeeds u))) c.no_collection.ensures.reason

pub returns-in-Ok-read_collection-clause-answer : goal.returns-in-Ok-read_collection-clause-answer
returns-in-Ok-read_collection-clause-answer c =
    let text = string_bytes c.in-Ok.text in
    let same : text ≡ c.args.bytes.items = ap (λ v. vec_items v) c.in-Ok.ensures.ok in
    subst (λ (t : Text). found.kept_in c.args.path.now (Ok t) ≡ Ok (kept_view c.in-Ok-read_collection.collection)) same
    (kept_is c.args.path.now text (kept_view c.in-Ok-read_collection.collection)
    (is_utf8-from_IsUtf8 text (IsUtf8-string_bytes c.in-Ok.text)) (ap read (sym c.as_str.ensures.value) ∙ c.in-Ok-read_collection.ensures))

pub returns-clause-answer : goal.returns-clause-answer
returns-clause-answer c =
    let text = string_bytes c.in-Ok.text in
    let same : text ≡ c.args.bytes.items = ap (λ v. vec_items v) c.in-Ok.ensures.ok in
    let wrong = subst (λ (t : Text). IfSome (views.reason_of c.in-Err.fault) (λ r. read t ≡ Err r)) c.as_str.ensures.value c.in-Err.ensures in
    subst (λ (t : Text). IfSome (reason_of c.no_collection-in-Err.result) (λ r. found.kept_in c.args.path.now (Ok t) ≡ Err r)) same
    (wrong_kept (reason_of c.no_collection-in-Err.result) (views.reason_of c.in-Err.fault) c.args.path.now text
    (is_utf8-from_IsUtf8 text (IsUtf8-string_bytes c.in-Ok.text)) wrong c.no_collection-in-Err.ensures.reason)
