use Rattle.tcltext.specs.expr.View.{expr_view}
use Rattle.tcltext.proofs.expr.Clauses.{reads_found, reads_only, reads_fault}
use Rattle.tcltext.proofs.expr.text.parse_expr.Goals as goal

pub returns-clause-found : goal.returns-clause-found
returns-clause-found c = reads_found (expr_view (λ piece. piece.now)) c.args.text.now c.read_limited.result c.read_limited.ensures

pub returns-clause-only : goal.returns-clause-only
returns-clause-only c = reads_only (expr_view (λ piece. piece.now)) c.args.text.now c.read_limited.result c.read_limited.ensures

pub returns-clause-fault : goal.returns-clause-fault
returns-clause-fault c = reads_fault (expr_view (λ piece. piece.now)) c.args.text.now c.read_limited.result c.read_limited.ensures
