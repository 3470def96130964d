use Rattle.std.proofs.Common.{◌≡◌, refl, subst, sym, string_bytes}
use Rattle.std.specs.Prelude.{IfSome, Option}
use Rattle.envvars.specs.Texts.{Text}
use Rattle.module_collections.specs.files.Entries.{file}
use Rattle.module_collections.specs.files.Calls.{Puts}
use Rattle.module_collections.specs.files.Failures.{Failure, failure_by}
use Rattle.module_collections.specs.files.Saves.{Leaves, left_at}
use Rattle.module_collections.specs.declared.files.unwritten.Unwritten.{Unwritten}
use Rattle.module_collections.proofs.files.EndLemmas.{leaves_by}
use Rattle.module_collections.proofs.files.save.write_by.Goals as goal

pub returns-in-Ok : goal.returns-in-Ok
returns-in-Ok g c = λ new b.
    let x = c.in-Ok.ensures new b in
    (x.0, x.1, subst (λ (t : Text). Puts t (file c.args.text.now) x.0 new) c.as_str-2.ensures.value x.2)

pub returns-in-Err : goal.returns-in-Err
returns-in-Err g c = λ new b.
    let x = c.in-Err.ensures new b in
    let left = c.in-Err.left in (
      x.0,
      x.1,
      (
        c.fault_of.ensures.reason,
        leaves_by (string_bytes c.args.new) left c.fault_of.result x.0 new c.fault_of.ensures.left
            (subst (λ (t : Text). Leaves (left_at t left) x.0 new) c.as_str.ensures.value x.2),
        subst (λ (o : Option Failure). IfSome o (λ f. (way : Unwritten) × (f ≡ failure_by way (string_bytes c.args.new) (string_bytes c.args.end)))) (sym c.fault_of.ensures.failure)
            (left, refl),
      ),
    )
