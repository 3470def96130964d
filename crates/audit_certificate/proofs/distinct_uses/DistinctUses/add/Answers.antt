use Rattle.audit_certificate.specs.UseViews.{used_view}
use Rattle.audit_certificate.proofs.OnceLemmas.{added_new, added_none}
use Rattle.audit_certificate.proofs.distinct_uses.DistinctUses.add.Goals as goal

pub returns-in_ok-push : goal.returns-in_ok-push
returns-in_ok-push c = λ ps h.
    added_new ps (used_view c.args.used.now) c.args.self.now.uses.items c.push.new.self.items c.in_ok-copy_of.field-0
    c.args.self.now.keys.keys c.insert.new.self.keys c.used_key.result c.in_ok-insert.field-0 h.0 h.1
    c.used_key.ensures c.in_ok-insert.ensures.added c.if-branch.true c.in_ok-push.ensures.items c.in_ok-copy_of.ensures c.in_ok-insert.ensures.keys

pub returns-else-branch : goal.returns-else-branch
returns-else-branch c = λ ps h.
    added_none ps (used_view c.args.used.now) c.args.self.now.uses.items c.args.self.now.keys.keys c.insert.new.self.keys c.used_key.result c.in_ok-insert.field-0 h.0 h.1
    c.used_key.ensures c.in_ok-insert.ensures.added c.if-branch.false c.in_ok-insert.ensures.keys
