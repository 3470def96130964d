use Rattle.tcltext.specs.expr.View.{expr_view}
use Rattle.tcltext.proofs.expr.Clauses.{reads_found, reads_only, reads_fault}
use Rattle.tcltext.proofs.expr.text.parse_expr_pieces.Goals as goal

pub returns-clause-found : goal.returns-clause-found
returns-clause-found g c = reads_found (expr_view (g.S.Source.shown c.args.source.now)) (g.S.Source.text c.args.source.now) c.read_limited.result c.read_limited.ensures

pub returns-clause-only : goal.returns-clause-only
returns-clause-only g c = reads_only (expr_view (g.S.Source.shown c.args.source.now)) (g.S.Source.text c.args.source.now) c.read_limited.result c.read_limited.ensures

pub returns-clause-fault : goal.returns-clause-fault
returns-clause-fault g c = reads_fault (expr_view (g.S.Source.shown c.args.source.now)) (g.S.Source.text c.args.source.now) c.read_limited.result c.read_limited.ensures
