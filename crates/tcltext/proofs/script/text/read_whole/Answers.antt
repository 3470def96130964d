use Rattle.std.proofs.Common.{◌≡◌, ◌≤◌, length, ap, arith}
use Rattle.tcltext.specs.chars.Reading.{remaining_of}
use Rattle.tcltext.specs.chars.Faults.{max_nesting}
use Rattle.tcltext.proofs.script.Whole.{within}
use Rattle.tcltext.proofs.script.text.read_whole.Goals as goal

pub with_offset-requires : goal.with_offset-requires
with_offset-requires g c =
    let e : length c.as_str-len.result.now ≡ length (g.S.Source.text c.args.source.now) = ap length c.as_str-len.ensures in
    let le : remaining_of c.in-Err-Fault.fault ≤ length (g.S.Source.text c.args.source.now) =
    within max_nesting (g.S.Source.text c.args.source.now) c.in-Err-Fault.fault (rw c.in-Err-Fault.field-0-is at c.in-Err-Fault.ensures)
    in
    omega arith
