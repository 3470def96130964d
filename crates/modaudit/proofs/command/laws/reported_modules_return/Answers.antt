use Rattle.modaudit.proofs.command.ReportedLemmas.{reported_modules_return, moments_are_sessions, audited_start_returns, trees_have_all}
use Rattle.modaudit.proofs.command.laws.reported_modules_return.Goals as goal

pub returns-clause-returned : goal.returns-clause-returned
returns-clause-returned g c =
    reported_modules_return (record {
      one = c.files.ensures.one;
      exact = c.certified.ensures.exact;
      stay = c.extended_sites.ensures;
      returns = c.site_commands_and_hands_return.ensures.returned;
      layer = c.site_way_back_is_open.ensures.layered;
      back = c.site_way_back_is_open.ensures.open;
      at_moment = record {
        some = c.some_outcome.ensures;
        unloads = c.unloads_are_accepted.ensures.accepted;
        named = c.unloads_are_accepted.ensures.named;
        loads = c.loads_are_accepted.ensures.accepted;
        reads = c.loads_are_accepted.ensures.reads;
        switches = c.switches_are_accepted.ensures;
      };
    }) (g.T.Tree.agrees c.args.audited.now) (g.T.Tree.failed c.args.audited.now)

pub returns-clause-moments : goal.returns-clause-moments
returns-clause-moments g c = moments_are_sessions

pub returns-clause-at_hand : goal.returns-clause-at_hand
returns-clause-at_hand g c =
    audited_start_returns c.files.ensures.one c.certified.ensures.exact c.extended_sites.ensures (g.T.Tree.agrees c.args.audited.now)
    (g.T.Tree.failed c.args.audited.now) (returns-clause-returned g c)

pub returns-clause-trees : goal.returns-clause-trees
returns-clause-trees g c = trees_have_all (g.T.Tree.agrees c.args.audited.now)
