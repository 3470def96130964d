use Rattle.std.proofs.Common.{rules, refl, ◌≡◌, Ok, Some, Option, map, string_bytes, sym, subst}
use Rattle.std.proofs.lemmas.List.{length-map}
use Rattle.modulefile_run.specs.declared.batch.PathBatch.{PathBatch}
use Rattle.modulefile.specs.Effects.{path_edited}
use Rattle.modulefile_run.specs.Batches.{with_waiting, CanWait, MoreCanWait}
use Rattle.modulefile_run.proofs.BatchLemmas.{waits_beside}
use Rattle.modulefile_run.proofs.batch.waits.Goals as goal

pub returns-clause-waits : goal.returns-clause-waits
returns-clause-waits g c =
    let e = g.V.Vars.vars c.args.env.now in
    let change = c.args.change.now in
    let ys = map string_bytes change.elements.now in
    λ t. subst (λ (l : Option PathBatch). CanWait (Some c.push.new.self) e
    × (path_edited change.edit change.delim.character change.var.now ys (with_waiting l e)
    ≡ Ok (with_waiting (Some c.push.new.self) e))) (sym c.in-Some.is)
    (waits_beside c.in-Some.batch c.push.new.self change.edit change.delim.character change.var.now ys e
    (c.if-not-is_of.ensures.edit refl) (c.if-not-is_of.ensures.delim refl) (c.if-not-is_of.ensures.var refl) c.requires.reason
    (subst (λ n. MoreCanWait c.in-Some.batch n e) (sym (length-map change.elements.now string_bytes))
    (c.in_ok-takes.ensures (search rules)))
    (subst (λ (l : Option PathBatch). CanWait l e) c.in-Some.is c.requires.last)
    c.push.ensures.edit c.push.ensures.delim c.push.ensures.var c.in_ok-push.ensures.ok)
