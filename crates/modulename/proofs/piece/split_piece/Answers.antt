use Rattle.std.proofs.Common.{◌∙◌, sym}
use Rattle.modulename.proofs.RunLemmas.{pieces_of_run, begins_with}
use Rattle.modulename.proofs.piece.split_piece.Goals as goal

pub returns-clause-piece : goal.returns-clause-piece
returns-clause-piece c =
    pieces_of_run c.args.version.now c.split_digits.result.0.now c.split_digits.result.1.now c.split_digits.ensures.whole
    c.split_digits.ensures.digits c.split_digits.ensures.rest
    (begins_with c.args.version.now (sym c.is_ascii_digit.ensures.value ∙ c.if-not-is_ascii_digit.false))
