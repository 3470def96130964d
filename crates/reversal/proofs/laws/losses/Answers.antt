use Rattle.reversal.proofs.Losses.{set_loses, unset_loses, unset_gives}
use Rattle.reversal.proofs.laws.losses.Goals as goal

pub returns-clause-set : goal.returns-clause-set
returns-clause-set c = set_loses

pub returns-clause-unset : goal.returns-clause-unset
returns-clause-unset c = unset_loses

pub returns-clause-another : goal.returns-clause-another
returns-clause-another c = unset_gives
