use Rattle.std.proofs.Common.{[], map, ◌∙◌}
use Rattle.audit_certificate.specs.UseViews.{used_view}
use Rattle.audit_certificate.proofs.OnceLemmas.{inserted_once}
use Rattle.audit_certificate.proofs.distinct_uses.each_once.Goals as goal

pub returns : goal.returns
returns c = (c.in_ok-add_all.ensures [] c.new-once.ensures).0 ∙ inserted_once (map used_view c.args.all_used.now)
