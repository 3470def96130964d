use Rattle.std.proofs.Common.{sym, ap, ◌∙◌}
use Rattle.std.specs.Str.{chars}
use Rattle.std.proofs.lemmas.Slice.Eq.{bytes_eq-Decides}
use Rattle.tcltext.proofs.pattern.TextLemmas.{text_same}
use Rattle.tcltext.proofs.pattern.halves.is_same.Goals as goal

pub returns : goal.returns
returns c = (
  λ h. ap chars ((bytes_eq-Decides c.args.a.now c.args.b.now).0 (sym c.eq.ensures ∙ h)),
  λ h. c.eq.ensures ∙ (bytes_eq-Decides c.args.a.now c.args.b.now).1 (text_same c.args.a.now c.args.b.now c.utf8.a c.utf8.b h),
)
