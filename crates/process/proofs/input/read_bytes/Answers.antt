use Rattle.std.proofs.Common.{◌≤◌, ◌+◌, ◌++◌, length, take, arith}
use Rattle.std.proofs.lemmas.Grind.{common_steps}
use Rattle.std.proofs.lemmas.Result.{err_from_is_err_and}
use Rattle.process.specs.Inputs.{input_limit}
use Rattle.process.proofs.InputLemmas.{consumes_more}
use Rattle.process.proofs.input.read_bytes.Goals as goal

pub returns-in_err-extend_from_slice-in-Ok-clause-failed : goal.returns-in_err-extend_from_slice-in-Ok-clause-failed
returns-in_err-extend_from_slice-in-Ok-clause-failed g c =
    let p = err_from_is_err_and c.from_residual.result c.from_residual.ensures.1 in
    let given = take c.in-Ok.n c.read.new.buf in
    let within : length (c.loop-piece.bytes.items ++ given) ≤ input_limit + 1 = grind (arith, common_steps) in
    rw (p.1, p.2) (
      c.loop-piece.bytes.items ++ given,
      consumes_more (g.R.Read.remaining c.args.input.now) (g.R.Read.remaining c.loop-piece.input)
          (g.R.Read.remaining c.read.new.self) c.loop-piece.bytes.items given c.loop-piece.invariant.taken
          c.in-Ok.ensures.bytes.0,
      within,
      tt,
    )
