use Rattle.tclvalue.proofs.MatchLemmas.{match_passes, match_of}
use Rattle.tclvalue.proofs.laws.string_match.Goals as goal

pub returns : goal.returns
returns c = λ pattern t. (match_of pattern t, match_passes pattern t)
