use Rattle.std.proofs.Common.{refl, inl, ap, ◌∙◌, subst, string_bytes}
use Rattle.envvars.specs.Texts.{Text}
use Rattle.module_collections.specs.files.Failures.{new_path}
use Rattle.module_collections.specs.files.Saves.{WritesAt}
use Rattle.module_collections.proofs.files.save.write_at.Goals as goal

pub returns-in-Ok : goal.returns-in-Ok
returns-in-Ok g c = λ new b.
    let x = c.write_by.ensures new b in (
      x.0,
      x.1,
      subst (λ (t : Text). WritesAt t (string_bytes c.args.end) c.args.text.now c.write_by.result x.0 new)
          (c.in-Ok.ensures ∙ ap (λ (t : Text). new_path t c.args.number) c.as_str.ensures.value) x.2,
    )

pub returns-in-Err : goal.returns-in-Err
returns-in-Err g c = λ new b. (new, b, (refl, inl (λ p. refl), tt))
