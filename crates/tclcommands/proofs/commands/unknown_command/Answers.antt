use Rattle.std.proofs.Common.{◌≡◌, true, false, sym, ◌∙◌, []}
use Rattle.tclrules.proofs.Leading.{continue_with}
use Rattle.tclforms.proofs.substitution.Leading.{passed_on}
use Rattle.tclcommands.proofs.Stopping.{fault_stops}
use Rattle.tclcommands.proofs.CommandWordLemmas.{whole}
use Rattle.tclrules.specs.Names.{is_among, unsupported_commands}
use Rattle.tclvalue.specs.operators.Faults.{unsupported}
use Rattle.tclcommands.specs.CommandTexts.{name_of}
use Rattle.tclcommands.specs.Completions.{sized_next}
use Rattle.std.proofs.lemmas.Result.{err_from_is_err_and}
use Rattle.tclcommands.proofs.commands.unknown_command.Goals as goal

pub returns-then-is_unsupported : goal.returns-then-is_unsupported
returns-then-is_unsupported g c =
    let n = name_of c.args.command.words.now in
    let e : is_among unsupported_commands n ≡ true = rw c.name.ensures at (sym c.is_unsupported.ensures ∙ c.if-is_unsupported.true) in
    let f = rw c.name-then-is_unsupported.ensures at c.unsupported.ensures in
    ([], tt, λ most used scripts b r k. rw (e, c.from.ensures) (fault_stops _ (unsupported n) c.args.variables.now f))

pub returns-in_err-value : goal.returns-in_err-value
returns-in_err-value g c =
    let n = name_of c.args.command.words.now in
    let e : is_among unsupported_commands n ≡ false = rw c.name.ensures at (sym c.is_unsupported.ensures ∙ c.if-is_unsupported.false) in
    let p = err_from_is_err_and c.from_residual.result c.from_residual.ensures.1 in (
      [],
      rw p.1 tt,
      λ most used scripts b r k.
          let h = rw (whole c.args.command.words.now c.args.command.not_empty) at (c.in_err-value.ensures most used scripts b r (sized_next c.args.limits.value_bytes k)) in
          rw e (passed_on _ _ _ _ c.from_residual.ensures.1 h),
    )

pub returns : goal.returns
returns g c =
    let n = name_of c.args.command.words.now in
    let e : is_among unsupported_commands n ≡ false = rw c.name.ensures at (sym c.is_unsupported.ensures ∙ c.if-is_unsupported.false) in
    let a = c.result_text.ensures in (
      a.0,
      a.1,
      λ most used scripts b r k.
          let h = rw (whole c.args.command.words.now c.args.command.not_empty) at (c.in_ok-value.ensures most used scripts b r (sized_next c.args.limits.value_bytes k)) in
          rw e (continue_with h (a.2 most r k _)),
    )
