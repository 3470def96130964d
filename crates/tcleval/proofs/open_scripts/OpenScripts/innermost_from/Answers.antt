use Rattle.std.proofs.Common.{reverse, sym, ◌∙◌, arith}
use Rattle.tcleval.specs.OpenScripts.{script_view}
use Rattle.tcleval.proofs.PlaceLemmas.{as_many, innermost_on, innermost_stop, innermost_past, innermost_end}
use Rattle.tcleval.proofs.open_scripts.OpenScripts.innermost_from.Goals as goal

pub returns-in_default : goal.returns-in_default
returns-in_default c =
    innermost_past c.args.file.now c.loop-index.place (reverse c.args.self.now) c.loop-index.index c.in_default.ensures
    ∙ sym c.loop-index.invariant

pub returns-in-None : goal.returns-in-None
returns-in-None c =
    innermost_stop c.args.file.now c.loop-index.place (reverse c.args.self.now) c.loop-index.index (script_view c.in-Some.script)
    c.in-Some.ensures (sym c.in-None.is ∙ c.in_ok-offset.ensures)
    ∙ sym c.loop-index.invariant

pub loop-index-preserved : goal.loop-index-preserved
loop-index-preserved c =
    c.loop-index.invariant
    ∙ innermost_on c.args.file.now c.loop-index.place (reverse c.args.self.now) c.loop-index.index (script_view c.in-Some.script)
    c.in-Some-2.offset c.in-Some.ensures (sym c.in-Some-2.is ∙ c.in_ok-offset.ensures)

pub returns : goal.returns
returns c =
    let many = as_many c.self.inside.offset c.self.inside.entries.items c.args.self.now c.self.view_is in
    innermost_end c.args.file.now c.loop-index.place (reverse c.args.self.now) c.loop-index.index
    (omega (arith, many, c.len-index-end.ensures, c.loop-index-test.false))
    ∙ sym c.loop-index.invariant
