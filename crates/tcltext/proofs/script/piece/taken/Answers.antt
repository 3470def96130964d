use Rattle.tcltext.proofs.script.Ends.{end_cut}
use Rattle.tcltext.proofs.script.piece.taken.Goals as goal

pub split_at-requires : goal.split_at-requires
split_at-requires g c = end_cut c.args.text.now c.args.rest.now c.utf8.rest c.requires.rest
