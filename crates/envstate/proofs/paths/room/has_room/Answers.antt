use Rattle.std.proofs.Common.{◌≤◌, ap, sym, ◌∙◌, arith, Bor, Some}
use Rattle.std.specs.Option.{option_map}
use Rattle.envvars.specs.Texts.{Text, slice_texts}
use Rattle.envstate.specs.paths.Paths.{largest_counter}
use Rattle.envstate.specs.paths.PathVariables.{path_in}
use Rattle.envstate.proofs.paths.PathEditLemmas.{looked_up}
use Rattle.envstate.proofs.paths.RoomLemmas.{counted_room}
use Rattle.envstate.proofs.paths.room.has_room.Goals as goal

pub returns : goal.returns
returns g c =
    let env = g.V.Vars.vars c.args.env.now in
    let fits = c.ranges.more.fits in
    let small : c.args.more ≤ largest_counter = omega arith in
    let seen = ap (option_map (λ (t : Bor Text). t.now)) (sym c.in-Some.is) ∙ c.get.ensures in
    λ b. counted_room c.in_ok-path.path.counters (slice_texts c.in_ok-path.path.elements.items) c.args.more
    (path_in env c.args.var.now c.args.delim) small
    (c.in_ok-path.ensures.state ∙ looked_up env c.args.var.now c.as_str.result.now c.args.delim
    (option_map (λ t. t.now) c.get-2.result) (Some c.in-Some.counts.now) c.get-2.ensures seen
    (c.as_str.ensures.value ∙ c.in_ok-share.ensures))
    (sym c.are_at_most.ensures ∙ b)
