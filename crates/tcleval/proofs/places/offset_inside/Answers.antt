use Rattle.std.proofs.Common.{false}
use Rattle.tcleval.proofs.PlaceLemmas.{behind_shorter}
use Rattle.tcleval.proofs.places.offset_inside.Goals as goal

pub overflow_sub-result : goal.overflow_sub-result
overflow_sub-result c =
    rw (c.behind_value-rest.ensures, c.as_bytes.ensures.value) (behind_shorter false c.args.script.offset c.in-Some.inside.now)
