use Rattle.std.proofs.Common.{◌∙◌, ap, map, List}
use Rattle.std.proofs.lemmas.List.{take_all}
use Rattle.modulefile.specs.RecordViews.{record_view}
use Rattle.modulefile.specs.declared.records.Record.{Record}
use Rattle.reversal.specs.Undone.{undone_as, undo_of}
use Rattle.audit_laws.specs.determinism.ContextViews.{undone_view}
use Rattle.audit_laws.proofs.determinism.Seen.{kept_more}
use Rattle.audit_laws.proofs.determinism.undone.undo_of.Goals as goal

pub loop-recorded-preserved : goal.loop-recorded-preserved
loop-recorded-preserved c =
    kept_more undone_as record_view c.args.records.now c.loop-recorded.recorded-index c.recorded-item.result (map undone_view c.loop-recorded.seen.items) (map undone_view c.push_undone.new.undone.items)
    c.loop-recorded-test.true c.recorded-item.is c.loop-recorded.invariant c.in_ok-push_undone.ensures

pub returns : goal.returns
returns c =
    c.loop-recorded.invariant
    ∙ ap (λ (rs : List Record). undo_of (map record_view rs)) (take_all c.loop-recorded.recorded-index c.args.records.now c.loop-recorded-test.false)
