use Rattle.tcltext.proofs.list.RoundTrip.{list_is}
use Rattle.tcltext.proofs.list.laws.list_round_trip.Goals as goal

pub returns : goal.returns
returns c = list_is
