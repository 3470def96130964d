use Rattle.std.proofs.Common.{◌∙◌}
use Rattle.std.proofs.lemmas.List.Sums.{prefix_len-le-length}
use Rattle.tcltext.proofs.chars.RunLemmas.{drop_run}
use Rattle.tcltext.specs.chars.Numerals.{is_digit}
use Rattle.tcltext.proofs.chars.number.after_digits.Goals as goal

pub split_at-requires : goal.split_at-requires
split_at-requires c = rw c.digit_count.ensures (prefix_len-le-length is_digit c.args.bytes.now)

pub returns : goal.returns
returns c = c.split_at.ensures.back ∙ rw c.digit_count.ensures (drop_run is_digit c.args.bytes.now)
