use Rattle.tcltext.specs.script.View.{script_view}
use Rattle.tcltext.proofs.script.Whole.{reads_found, reads_only, reads_fault}
use Rattle.tcltext.proofs.script.text.parse_script.Goals as goal

pub returns-clause-found : goal.returns-clause-found
returns-clause-found c = reads_found (script_view (λ piece. piece.now)) c.args.text.now c.read_whole.result c.read_whole.ensures

pub returns-clause-only : goal.returns-clause-only
returns-clause-only c = reads_only (script_view (λ piece. piece.now)) c.args.text.now c.read_whole.result c.read_whole.ensures

pub returns-clause-fault : goal.returns-clause-fault
returns-clause-fault c = reads_fault (script_view (λ piece. piece.now)) c.args.text.now c.read_whole.result c.read_whole.ensures
