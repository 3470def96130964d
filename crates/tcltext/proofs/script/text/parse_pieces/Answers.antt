use Rattle.tcltext.specs.script.View.{script_view}
use Rattle.tcltext.proofs.script.Whole.{reads_found, reads_only, reads_fault}
use Rattle.tcltext.proofs.script.text.parse_pieces.Goals as goal

pub returns-clause-found : goal.returns-clause-found
returns-clause-found g c = reads_found (script_view (g.S.Source.shown c.args.source.now)) (g.S.Source.text c.args.source.now) c.read_whole.result c.read_whole.ensures

pub returns-clause-only : goal.returns-clause-only
returns-clause-only g c = reads_only (script_view (g.S.Source.shown c.args.source.now)) (g.S.Source.text c.args.source.now) c.read_whole.result c.read_whole.ensures

pub returns-clause-fault : goal.returns-clause-fault
returns-clause-fault g c = reads_fault (script_view (g.S.Source.shown c.args.source.now)) (g.S.Source.text c.args.source.now) c.read_whole.result c.read_whole.ensures
