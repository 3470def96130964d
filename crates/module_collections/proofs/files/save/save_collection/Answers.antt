use Rattle.std.proofs.Common.{string_bytes}
use Rattle.std.proofs.lemmas.Str.{IsUtf8-string_bytes, is_utf8-from_IsUtf8}
use Rattle.module_collections.specs.texts.Views.{kept_view}
use Rattle.module_collections.specs.files.Places.{folders_for}
use Rattle.module_collections.proofs.files.EndLemmas.{ended, none_made, refused}
use Rattle.module_collections.proofs.files.save.save_collection.Goals as goal

pub returns-in-Ok : goal.returns-in-Ok
returns-in-Ok g c = λ new b.
    let x = c.write_prepared.ensures new b in
    let p = c.in-Ok.prepared in
    let ready = c.in-Ok.ensures.ready in (
      x.0,
      x.1,
      ended c.args.env.now c.args.name.now (string_bytes p.path) ready.0 ready.1 ready.2 c.args.number (string_bytes p.folder) ready.4 (kept_view c.args.collection.now) (string_bytes p.text)
          ready.3 (is_utf8-from_IsUtf8 (string_bytes p.text) (IsUtf8-string_bytes p.text)) c.write_prepared.result x.0 new x.2,
    )

pub returns-in-Err : goal.returns-in-Err
returns-in-Err g c = λ new b.
    (new, b, (new, none_made (folders_for c.args.env.now c.args.name.now) c.in-Err.fault new, refused c.args.env.now c.args.name.now c.args.number (kept_view c.args.collection.now) c.in-Err.fault new c.in-Err.ensures.fault c.in-Err.ensures.failure))
