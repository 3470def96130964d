use Rattle.std.proofs.Common.{arith, map, string_bytes, String}
use Rattle.std.specs.declared.alloc.Global.{Global}
use Rattle.modules.specs.Verdicts.{in_sh}
use Rattle.modulecmd.specs.Command.{standard}
use Rattle.modaudit.specs.command.Looked.{DryRunsLookAt}
use Rattle.modaudit.specs.command.Tried.{has_failed_dry_run}
use Rattle.modaudit.proofs.command.TryingLemmas.{among_at, counted_turn, keeps_turn, looks_among, reads_turn, dry_run_counted, dry_runs_turn}
use Rattle.modaudit.proofs.command.trying.dry_runs_of.Goals as goal

pub loop-module-preserved : goal.loop-module-preserved
loop-module-preserved g c =
    let m = c.module-item.result in
    let t = c.in_ok-dry_run_of.field-0 in
    let i = c.loop-module.invariant in
    let judged = c.args.judged.now in
    let not_utf8 = map (λ (s : String Global). string_bytes s) c.args.not_utf8.now in
    let modules = c.args.modules.now in
    let failed = g.T.Tree.failed in
    let old = c.args.tree.now in
    let mid = c.loop-module.tree in
    let new = c.dry_run_of.new.tree in record {
      reads = record { narrows = λ files listings k. i.reads.narrows files listings (c.dry_run_of.ensures.reads.narrows files listings k); counts_failures = omega arith };
      tried = λ files listings k.
          dry_runs_turn (in_sh standard files listings) not_utf8 judged modules c.loop-module.module-index m c.loop-module.dry_runs.items c.push.new.self.items t c.loop-module-test.true c.module-item.is
          c.in_ok-push.ensures.items (i.tried files listings (c.dry_run_of.ensures.reads.narrows files listings k)) (c.in_ok-dry_run_of.ensures.tried files listings k);
      counted = counted_turn c.loop-module.dry_runs.items c.push.new.self.items t (g.T.Tree.failures old) (g.T.Tree.failures mid) (g.T.Tree.failures new) c.in_ok-push.ensures.items
          i.counted c.in_ok-dry_run_of.ensures.failures;
      kept = keeps_turn (has_failed_dry_run t) (failed old) (failed mid) (failed new) _ i.kept c.in_ok-dry_run_of.ensures.failed;
      looked = reads_turn g.T.Tree.agrees g.T.Tree.failures failed old mid new (DryRunsLookAt judged modules) (has_failed_dry_run t) i.looked c.dry_run_of.ensures.reads
          (dry_run_counted t (g.T.Tree.failures mid) (g.T.Tree.failures new) c.in_ok-dry_run_of.ensures.failures)
          (looks_among (g.T.Tree.agrees new) judged modules m (has_failed_dry_run t) (failed mid) (failed new)
          (among_at modules c.loop-module.module-index m c.loop-module-test.true c.module-item.is) c.in_ok-dry_run_of.ensures.failed);
    }

pub returns-in_err-push-clause-failed : goal.returns-in_err-push-clause-failed
returns-in_err-push-clause-failed g c =
    let m = c.module-item.result in
    let t = c.in_ok-dry_run_of.field-0 in
    let i = c.loop-module.invariant in
    let judged = c.args.judged.now in
    let modules = c.args.modules.now in
    let failed = g.T.Tree.failed in
    let mid = c.loop-module.tree in
    let new = c.dry_run_of.new.tree in
    reads_turn g.T.Tree.agrees g.T.Tree.failures failed c.args.tree.now mid new (DryRunsLookAt judged modules) (has_failed_dry_run t) i.looked c.dry_run_of.ensures.reads
    (dry_run_counted t (g.T.Tree.failures mid) (g.T.Tree.failures new) c.in_ok-dry_run_of.ensures.failures)
    (looks_among (g.T.Tree.agrees new) judged modules m (has_failed_dry_run t) (failed mid) (failed new)
    (among_at modules c.loop-module.module-index m c.loop-module-test.true c.module-item.is) c.in_ok-dry_run_of.ensures.failed)

pub returns-in_err-push-clause-kept : goal.returns-in_err-push-clause-kept
returns-in_err-push-clause-kept g c =
    let failed = g.T.Tree.failed in
    keeps_turn (has_failed_dry_run c.in_ok-dry_run_of.field-0) (failed c.args.tree.now) (failed c.loop-module.tree) (failed c.dry_run_of.new.tree) _ c.loop-module.invariant.kept c.in_ok-dry_run_of.ensures.failed
