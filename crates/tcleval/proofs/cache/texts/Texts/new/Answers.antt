use Rattle.std.proofs.Common.{◌≡◌, [], rules, arith}
use Rattle.tcleval.proofs.cache.Entries.{distinct_entries}
use Rattle.tcleval.proofs.cache.texts.Texts.new.Goals as goal

pub invariant_of-result : goal.invariant_of-result
invariant_of-result g c =
    let e : c.new.result.entries ≡ [] = search rules in
    record {
      limited = record { distinct = distinct_entries _ c.new.ensures.unique; few = rw e (omega arith); short = rw e (omega arith) };
      counted = rw e search rules;
    }

pub returns-clause-limited : goal.returns-clause-limited
returns-clause-limited g c = (invariant_of-result g c).limited
