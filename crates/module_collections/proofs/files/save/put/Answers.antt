use Rattle.module_collections.proofs.files.SaveLemmas.{discards_after}
use Rattle.module_collections.proofs.files.save.put.Goals as goal

pub returns-in-Err : goal.returns-in-Err
returns-in-Err g c = λ new b.
    let y = c.discard.ensures new b in
    let x = c.in-Err.ensures y.0 y.1 in
    (x.0, x.1, discards_after c.args.path.now c.discard.result x.0 y.0 new x.2 y.2)
