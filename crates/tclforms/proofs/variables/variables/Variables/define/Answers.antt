use Rattle.std.proofs.Common.{refl}
use Rattle.tclforms.specs.variables.Views.{procedure_view}
use Rattle.tclforms.proofs.variables.Frames.{store_named}
use Rattle.tclforms.proofs.variables.variables.Variables.define.Goals as goal

pub returns-clause-ok : goal.returns-clause-ok
returns-clause-ok c =
    rw (
      c.in_ok-insert.ensures.entries,
      ← c.self.view_is,
      store_named (λ p. procedure_view p.value)
          c.self.inside.procedures.entries c.in_ok-name.name c.in_ok-procedure.procedure,
      c.in_ok-name.ensures.ok,
      c.in_ok-procedure.ensures.ok,
    ) refl
