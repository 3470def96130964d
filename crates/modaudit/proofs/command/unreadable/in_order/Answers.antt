use Rattle.std.proofs.Common.{◌≡◌, List, map, string_bytes, String}
use Rattle.std.specs.declared.alloc.Global.{Global}
use Rattle.std.specs.declared.vec.Vec.{Vec}
use Rattle.std.specs.Cmp.Lexicographic.{slice_cmp}
use Rattle.std.specs.List.Sorted.{IsStrictlySortedBy}
use Rattle.std.specs.Ordering.{nat_cmp}
use Rattle.std.specs.String.{string_cmp}
use Rattle.envvars.specs.Texts.{Text}
use Rattle.modaudit.specs.command.Steps.{AreSame}
use Rattle.modaudit.proofs.command.PathLemmas.{if_ok_so, keys_have, sorted_bytes}
use Rattle.modaudit.proofs.command.unreadable.in_order.Goals as goal

abbrev texts : List (String Global) → List Text
texts l = map (λ s. string_bytes s) l

pub returns-clause-order : goal.returns-clause-order
returns-clause-order c =
    if_ok_so c.paths_of.result (λ (v : Vec (String Global) Global). IsStrictlySortedBy string_cmp v.items) (λ (v : Vec (String Global) Global). IsStrictlySortedBy (slice_cmp nat_cmp) (texts v.items))
    (λ v h. sorted_bytes v.items h) c.paths_of.ensures.order

pub returns-clause-same : goal.returns-clause-same
returns-clause-same c =
    if_ok_so c.paths_of.result (λ (v : Vec (String Global) Global). v.items ≡ c.loop-path.found.keys) (λ (v : Vec (String Global) Global). AreSame (texts v.items) (texts c.args.paths.now))
    (λ v h q. keys_have c.loop-path.found v.items c.args.paths.now c.loop-path.path-index q c.loop-path-test.false h (c.loop-path.invariant q)) c.paths_of.ensures.keys
