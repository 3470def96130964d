use Rattle.std.proofs.Common.{map, arith}
use Rattle.envvars.specs.Texts.{texts_in}
use Rattle.envstate.specs.loaded_list.LoadedEntries.{entry_view}
use Rattle.module_restore.specs.forgetting.Forgets.{gone}
use Rattle.module_restore.proofs.forgetting.GoneLemmas.{gone_turn}
use Rattle.module_restore.proofs.forgetting.gone.gone.Goals as goal

pub loop-entry-preserved : goal.loop-entry-preserved
loop-entry-preserved g c =
    let inv = c.loop-entry.invariant in
    let looked = c.in_ok-push_if_gone.ensures in
    record {
      reads = record {
        narrows = λ files listings x. inv.reads.narrows files listings (looked.reads.narrows files listings x);
        counts_failures = omega (arith, inv.reads.counts_failures, looked.reads.counts_failures);
      };
      gone = λ files listings a.
          gone_turn entry_view files (texts_in c.loop-entry.names) (texts_in c.push_if_gone.new.names) (gone files (map entry_view c.args.entries.now)) c.args.entries.now c.loop-entry.entry-index
          c.entry-item.result c.loop-entry-test.true c.entry-item.is (looked.pushed files listings a) (inv.gone files listings (looked.reads.narrows files listings a));
    }
