-- What the lists of a foreach of the program stand for. Own.
use Rattle.std.specs.Prelude.{List, map}
use Rattle.tclrules.specs.Plans.{Items}
use Rattle.tclforms.specs.ArgumentViews.{remaining_after}
use Rattle.tclforms.specs.declared.loops.Loops.TheInside.{Inside}

abbrev pub loops_view : Inside → List Items
loops_view l = map (remaining_after l.turns) l.lists.items
