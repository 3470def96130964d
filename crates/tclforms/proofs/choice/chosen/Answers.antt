use Rattle.std.proofs.Common.{◌≡◌, [], map, refl, arith}
use Rattle.std.specs.Prelude.{string_bytes}
use Rattle.tclforms.specs.Views.{in_pairs}
use Rattle.tclforms.proofs.TurnLemmas.{short_twos}
use Rattle.tclforms.proofs.choice.chosen.Goals as goal

pub returns : goal.returns
returns c =
    let e : in_pairs (map string_bytes c.loop-rest.rest.now) ≡ [] = short_twos c.loop-rest.rest.now (omega arith) in
    rw (c.loop-rest.invariant, e) refl
