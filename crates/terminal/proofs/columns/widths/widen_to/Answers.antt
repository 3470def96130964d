use Rattle.std.proofs.Common.{◌≡◌, [], Bor, ap, ◌∙◌, get_or, length, inl, inr, arith}
use Rattle.std.proofs.lemmas.Bool.{cases_lt}
use Rattle.std.proofs.lemmas.List.{get_or_past, length-map}
use Rattle.terminal.specs.columns.Columns.{Text, width_of}
use Rattle.terminal.specs.columns.Views.{texts}
use Rattle.terminal.proofs.columns.WidthLemmas.{width_of-nil}
use Rattle.terminal.proofs.columns.widths.widen_to.Goals as goal

pub returns : goal.returns
returns c place = elim (cases_lt place c.loop-place.place) [
  | inl before ↦ c.loop-place.invariant.widened place before
  | inr past ↦
      let fields = texts c.args.fields.now in
      let count : length fields ≡ length c.args.fields.now = length-map c.args.fields.now (λ (slice : Bor Text). slice.now) in
      let none : width_of (get_or fields place []) ≡ 0 = ap width_of (get_or_past fields place [] (omega arith)) ∙ width_of-nil in
      omega (arith, c.loop-place.invariant.others place past)
]
