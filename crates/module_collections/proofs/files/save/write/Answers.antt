use Rattle.std.proofs.Common.{refl, inl, string_bytes}
use Rattle.module_collections.proofs.files.EndLemmas.{unwritten_at, written_at_end}
use Rattle.module_collections.proofs.files.save.write.Goals as goal

pub returns-in-Ok : goal.returns-in-Ok
returns-in-Ok g c = λ new b.
    let x = c.write_at.ensures new b in (
      x.0,
      c.in-Ok.ensures.narrows x.0 x.1,
      written_at_end c.args.path.now (string_bytes c.in-Ok.end) c.args.text.now c.args.number c.write_at.result x.0 new (c.in-Ok.ensures.answer x.0 x.1) x.2,
    )

pub returns-in-Err : goal.returns-in-Err
returns-in-Err g c = λ new b. (
  new,
  c.in-Err.ensures.narrows new b,
  (c.in-Err.ensures.answer new b, inl (λ p. refl), unwritten_at c.args.path.now c.args.number c.in-Err.fault new c.in-Err.ensures.failure),
)
