use Rattle.terminal.specs.columns.Views.{width_in}
use Rattle.terminal.proofs.columns.LineLemmas.{fields_step}
use Rattle.terminal.proofs.columns.aligning.push_fields.Goals as goal

pub loop-place-preserved : goal.loop-place-preserved
loop-place-preserved c =
    fields_step (width_in c.args.widths.now) c.args.fields.now _ c.loop-place.place c.width_at.result c.loop-place.text.items c.push_field.new.text.items _
    c.loop-place-test.true c.width_at.ensures c.in_ok-push_field.ensures c.loop-place.invariant
