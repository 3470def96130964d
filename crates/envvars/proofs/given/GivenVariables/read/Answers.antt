use Rattle.std.proofs.Common.{List, ℕ, ◌+◌, ◌-◌, length, take, drop, ap, ◌∙◌, arith}
use Rattle.std.specs.FinMap as finite
use Rattle.envvars.specs.Environment.{Environment}
use Rattle.envvars.specs.EnvironmentBlock.{environment_of, with_entry}
use Rattle.envvars.specs.Given.{given_over}
use Rattle.envvars.proofs.EntryLemmas.{next_within, next_entry, end_entry}
use Rattle.envvars.proofs.given.GivenVariables.read.Goals as goal

pub add-requires-clause-within : goal.add-requires-clause-within
add-requires-clause-within c =
    let l = c.loop-length in
    omega (arith, next_within l.given.block.items l.start l.invariant.within c.in-Some.length c.in-Some.ensures)

pub loop-length-smaller : goal.loop-length-smaller
loop-length-smaller c =
    let l = c.loop-length in
    omega (arith, next_within l.given.block.items l.start l.invariant.within c.in-Some.length c.in-Some.ensures, ap length c.in_ok-add.ensures.block)

pub loop-length-preserved : goal.loop-length-preserved
loop-length-preserved c =
    let l = c.loop-length in
    let n = c.in-Some.length in
    let rest = λ (b : List ℕ). environment_of (drop (l.start + (n + 1)) b) in
    record {
      within = omega (arith, next_within l.given.block.items l.start l.invariant.within n c.in-Some.ensures, ap length c.in_ok-add.ensures.block);
      chains = c.in_ok-add.ensures.chains;
      chained = c.in_ok-add.ensures.chained;
      block = c.in_ok-add.ensures.block ∙ l.invariant.block;
      given = c.in_ok-add.ensures.given (rest c.add.new.self.block.items)
          ∙ ap (λ (b : List ℕ). given_over l.given.block.items
          (with_entry (take ((l.start + n) - l.start) (drop l.start l.given.block.items)) (rest b))
          l.given.entries.items) c.in_ok-add.ensures.block
          ∙ ap (λ (e : Environment). given_over l.given.block.items e l.given.entries.items) (next_entry l.given.block.items l.start l.invariant.within n c.in-Some.ensures)
          ∙ l.invariant.given;
    }

pub returns-clause-given : goal.returns-clause-given
returns-clause-given c =
    let l = c.loop-length in
    let block = c.args.block.items in
    c.in_ok-add-2.ensures.given finite.empty
    ∙ ap (λ (n : ℕ). given_over l.given.block.items (with_entry (take (n - l.start) (drop l.start l.given.block.items))
    finite.empty) l.given.entries.items) (omega (arith, c.len-end.ensures, ap length l.invariant.block))
    ∙ ap (λ (e : Environment). given_over l.given.block.items e l.given.entries.items) (end_entry l.given.block.items l.start l.invariant.within c.in_default.ensures)
    ∙ l.invariant.given
