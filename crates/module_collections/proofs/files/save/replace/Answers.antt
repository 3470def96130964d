use Rattle.module_collections.proofs.files.SaveLemmas.{replaced}
use Rattle.module_collections.proofs.files.save.replace.Goals as goal

pub returns : goal.returns
returns g c = λ new b.
    let y = c.put.ensures new b in
    let x = c.in_ok-add.ensures y.0 y.1 in
    (x.0, x.1, replaced c.args.path.now c.args.end.now c.args.text.now c.put.result x.0 y.0 new x.2 y.2)
