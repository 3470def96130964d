use Rattle.std.proofs.Common.{sym}
use Rattle.module_explain.proofs.LocationLemmas.{located, missing, unnamed, unplaced}
use Rattle.module_explain.proofs.location.explain_file.Goals as goal

pub returns-in_default-clause-none : goal.returns-in_default-clause-none
returns-in_default-clause-none g c = unnamed (g.T.Tree.agrees c.args.tree.now) c.args.fault.now c.in_default.is

pub returns-in-None-clause-none : goal.returns-in-None-clause-none
returns-in-None-clause-none g c =
    missing (g.T.Tree.agrees c.script_if_there.new.tree) c.args.fault.now c.in-Some.file c.in-Some.is c.as_str.result.now c.as_str.ensures.value
    (rw c.in-None.is at c.in_ok-text.ensures.none)

pub returns-in_ok-explanation_of-in-Some-2-clause-located : goal.returns-in_ok-explanation_of-in-Some-2-clause-located
returns-in_ok-explanation_of-in-Some-2-clause-located g c =
    located (g.T.Tree.agrees c.script_if_there.new.tree) c.args.fault.now c.in-Some.file c.in-Some.is c.in-Some-place.place c.as_str.result.now
    c.as_str-in-Some-2.result.now c.in_ok-explanation_of-in-Some-2.field-0 c.in-Some-place.is c.as_str.ensures.value
    (rw (c.in-Some-2.is, sym c.as_str-in-Some-2.ensures.value) at c.in_ok-text.ensures.there)
    c.in_ok-explanation_of-in-Some-2.ensures.«module» c.in_ok-explanation_of-in-Some-2.ensures.path c.in_ok-explanation_of-in-Some-2.ensures.line
    c.in_ok-explanation_of-in-Some-2.ensures.command c.in_ok-explanation_of-in-Some-2.ensures.messages
