use Rattle.std.specs.Str.{chars}
use Rattle.std.proofs.lemmas.Bool.Decides.{same_from_decides}
use Rattle.tclvalue.specs.Globs.{matches}
use Rattle.tclvalue.proofs.MatchLemmas.{match_of, match_passes}
use Rattle.tclvalue.proofs.pattern.glob.Goals as goal

pub returns : goal.returns
returns c =
    same_from_decides c.glob_match.result (matches (chars c.args.pattern.now) (chars c.args.text.now)) c.glob_match.ensures
    (match_of (chars c.args.pattern.now) (chars c.args.text.now), match_passes (chars c.args.pattern.now) (chars c.args.text.now))
