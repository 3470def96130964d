use Rattle.std.proofs.Common.{arith}
use Rattle.module_explain.proofs.UnknownLemmas.{none_more, none_there, one_there}
use Rattle.module_explain.proofs.unknown.is_one_there.Goals as goal

pub returns-then-is_some-clause-one : goal.returns-then-is_some-clause-one
returns-then-is_some-clause-one g c =
    λ t. one_there (g.T.Tree.agrees c.entries.new.self) c.args.directories.now c.loop-directory.directory-index _ c.in_ok-entries.field-0 c.is_some.result
    c.loop-directory-test.true c.is_some.ensures c.in_ok-entries.ensures.answer c.if-is_some.true

pub loop-directory-preserved : goal.loop-directory-preserved
loop-directory-preserved g c = record {
  narrows = λ files listings a. c.loop-directory.invariant.narrows files listings (c.entries.ensures.narrows files listings a);
  counts = omega arith;
  none = none_more (g.T.Tree.agrees c.entries.new.self) c.args.directories.now c.loop-directory.directory-index _ c.in_ok-entries.field-0 c.is_some.result
      c.loop-directory-test.true c.is_some.ensures c.in_ok-entries.ensures.answer (g.T.Tree.agrees c.loop-directory.tree) c.entries.ensures.narrows c.if-is_some.false c.loop-directory.invariant.none;
}

pub returns-clause-none : goal.returns-clause-none
returns-clause-none g c =
    λ t. none_there (g.T.Tree.agrees c.loop-directory.tree) c.args.directories.now c.loop-directory.directory-index c.loop-directory-test.false c.loop-directory.invariant.none
