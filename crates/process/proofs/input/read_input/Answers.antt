use Rattle.process.proofs.InputLemmas.{failed_text, given_text}
use Rattle.process.proofs.input.read_input.Goals as goal

pub returns-clause-given : goal.returns-clause-given
returns-clause-given g c =
    let remaining = g.R.Read.remaining in
    given_text (remaining c.args.input.now) (remaining c.read_bytes.new.input) c.in_ok-bytes.bytes.items
    c.text_of_bytes.result c.in_ok-bytes.ensures.taken c.in_ok-bytes.ensures.all c.text_of_bytes.ensures

pub returns-clause-failed : goal.returns-clause-failed
returns-clause-failed g c =
    let remaining = g.R.Read.remaining in
    failed_text (remaining c.args.input.now) (remaining c.read_bytes.new.input) c.in_ok-bytes.bytes.items
    c.text_of_bytes.result c.in_ok-bytes.ensures.taken c.in_ok-bytes.ensures.within c.in_ok-bytes.ensures.all
    c.text_of_bytes.ensures
