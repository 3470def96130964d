use Rattle.std.proofs.Common.{◌≡◌, refl, inl, subst, string_bytes}
use Rattle.envvars.specs.Texts.{Text}
use Rattle.module_collections.specs.files.Calls.{AddsFolders, AddsSome}
use Rattle.module_collections.specs.files.Ends.{free_end}
use Rattle.module_collections.specs.files.Saves.{Writes}
use Rattle.module_collections.proofs.files.EndLemmas.{folder_unmade, in_made_folder, no_reason}
use Rattle.std.specs.Prelude.{Err}
use Rattle.module_collections.proofs.files.save.write_prepared.Goals as goal

pub returns-in-Ok : goal.returns-in-Ok
returns-in-Ok g c = λ new b.
    let y = c.write.ensures new b in
    let x = c.in-Ok.ensures.made y.0 y.1 in (
      x.0,
      x.1,
      in_made_folder (string_bytes c.args.prepared.now.folder) (string_bytes c.args.prepared.now.path) (string_bytes c.args.prepared.now.text) c.args.number c.write.result x.0 y.0 new
          (subst (λ (t : Text). AddsFolders t x.0 y.0) c.as_str.ensures.value x.2)
          (subst (λ (t : Text). Writes (string_bytes c.args.prepared.now.path) c.args.number t c.write.result y.0 new) c.as_str-in-Ok-2.ensures.value
          (subst (λ (p : Text). Writes p c.args.number c.as_str-in-Ok-2.result.now c.write.result y.0 new) c.as_str-in-Ok.ensures.value y.2)),
    )

pub returns-in-Err : goal.returns-in-Err
returns-in-Err g c = λ new b.
    let x = c.in-Err.ensures.made new b in (
      x.0,
      x.1,
      (
        new,
        subst (λ (t : Text). AddsSome t x.0 new) c.as_str.ensures.value x.2,
        no_reason c.in-Err.fault (λ r. free_end new (string_bytes c.args.prepared.now.path) ≡ Err r) c.in-Err.ensures.fault,
        inl (λ p. refl),
        folder_unmade (string_bytes c.args.prepared.now.folder) c.as_str.result.now (string_bytes c.args.prepared.now.path) c.args.number c.in-Err.fault new c.as_str.ensures.value c.in-Err.ensures.failure,
      ),
    )
