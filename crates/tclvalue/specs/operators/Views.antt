-- What the types of `src/` stand for in this crate's contracts.
use Rattle.std.specs.Prelude.{ℤ}
use Rattle.tclvalue.specs.declared.operators.operands.Operands.{Operands}

abbrev pub operands_view : Operands → ℤ × ℤ
operands_view o = (o.left, o.right)
