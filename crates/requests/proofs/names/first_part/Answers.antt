use Rattle.std.proofs.Common.{Some, None}
use Rattle.requests.proofs.FirstPart.{first_cut}
use Rattle.requests.proofs.names.first_part.Goals as goal

pub returns-in-Some : goal.returns-in-Some
returns-in-Some c = first_cut c.args.name.now (Some (c.in-Some.first, c.in-Some.field-0-1)) c.in-Some.ensures.cases

pub returns-in-None : goal.returns-in-None
returns-in-None c = first_cut c.args.name.now None c.in-None.ensures.cases
