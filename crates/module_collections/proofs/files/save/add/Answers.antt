use Rattle.module_collections.proofs.files.SaveLemmas.{added, undone}
use Rattle.module_collections.proofs.files.save.add.Goals as goal

pub returns-in-Ok : goal.returns-in-Ok
returns-in-Ok g c = λ new b.
    let y = c.compare.ensures new b in
    let x = c.in-Ok.ensures y.0 y.1 in
    (x.0, x.1, added c.args.path.now c.args.text.now c.compare.result x.0 y.0 new x.2 y.2)

pub returns-in-Err : goal.returns-in-Err
returns-in-Err g c = λ new b.
    let y = c.undo.ensures new b in
    let x = c.in-Err.ensures y.0 y.1 in
    (x.0, x.1, undone c.args.path.now c.in-Err.fault c.undo.result x.0 y.0 new x.2 y.2)
