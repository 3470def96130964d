use Rattle.std.proofs.Common.{ap, ◌∙◌, false}
use Rattle.tcltext.specs.chars.Braces.{braced_at}
use Rattle.tcltext.proofs.chars.BraceClose.{close_sound, found_close}
use Rattle.tcltext.proofs.chars.laws.closing_brace.Goals as goal

pub returns : goal.returns
returns c bs inside rest = (
  λ found. close_sound bs false 0 inside rest found,
  λ is. ap (braced_at false 0) is.0 ∙ found_close inside rest is.1,
)
