use Rattle.std.proofs.Common.{◌+◌, ◌-◌, ◌≤◌, ◌∷◌, length, Some, None, length-append, sym, ap, ◌∙◌, arith, rules}
use Rattle.std.proofs.lemmas.Str.Pattern.{split_parts}
use Rattle.tcleval.specs.OpenScripts.{script_view}
use Rattle.tcleval.proofs.PlaceLemmas.{inside_within, left_other, left_before, found_in, found_nowhere}
use Rattle.tcleval.proofs.places.offset_from.Goals as goal

pub overflow_add-result : goal.overflow_add-result
overflow_add-result c =
    let s = script_view c.args.script in
    let cut = split_parts 123 c.loop-after.rest.now (Some (c.in-Some.field-0-0, c.in-Some.after)) c.in-Some.ensures.cases (omega arith) in
    let within = inside_within s c.in-Some.after.now c.in-Some-2.offset (sym c.in_ok-offset.ensures ∙ c.in-Some-2.is) in
    let le : length c.args.file.now - length c.in-Some.after.now + c.in-Some-2.offset ≤ length c.args.file.now =
    omega (arith, within, c.loop-after.invariant.1.shorter, ap length cut.0, length-append c.in-Some.field-0-0.now (123 ∷ c.in-Some.after.now)) in
    first_of (omega (arith, le), search rules)

pub returns-in-Some-2 : goal.returns-in-Some-2
returns-in-Some-2 c =
    let cut = split_parts 123 c.loop-after.rest.now (Some (c.in-Some.field-0-0, c.in-Some.after)) c.in-Some.ensures.cases (omega arith) in
    found_in (script_view c.args.script) c.args.from c.args.file.now c.loop-after.rest.now c.in-Some.field-0-0.now c.in-Some.after.now
    c.loop-after.invariant.1 cut.0 cut.1 c.if-begin-from.true c.in-Some-2.offset (sym c.in-Some-2.is ∙ c.in_ok-offset.ensures)

pub loop-after-preserved-in_default-2 : goal.loop-after-preserved-in_default-2
loop-after-preserved-in_default-2 c =
    let cut = split_parts 123 c.loop-after.rest.now (Some (c.in-Some.field-0-0, c.in-Some.after)) c.in-Some.ensures.cases (omega arith) in (
      search rules,
      left_other (script_view c.args.script) c.args.from c.args.file.now c.loop-after.rest.now c.in-Some.field-0-0.now c.in-Some.after.now
          c.loop-after.invariant.1 cut.0 cut.1 c.if-begin-from.true (sym c.in_default-2.is ∙ c.in_ok-offset.ensures),
    )

pub loop-after-preserved : goal.loop-after-preserved
loop-after-preserved c =
    let cut = split_parts 123 c.loop-after.rest.now (Some (c.in-Some.field-0-0, c.in-Some.after)) c.in-Some.ensures.cases (omega arith) in (
      search rules,
      left_before (script_view c.args.script) c.args.from c.args.file.now c.loop-after.rest.now c.in-Some.field-0-0.now c.in-Some.after.now
          c.loop-after.invariant.1 cut.0 cut.1 c.if-begin-from.false,
    )

pub returns : goal.returns
returns c =
    found_nowhere (script_view c.args.script) c.args.from c.args.file.now c.loop-after.rest.now c.loop-after.invariant.1
    (split_parts 123 c.loop-after.rest.now None c.in_default.ensures.cases (omega arith))
