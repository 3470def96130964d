use Rattle.std.proofs.Common.{◌≡◌, ◌+◌, ℕ, suc, List, Some, slice_get, sym, ap, ap₂, ◌∙◌, arith}
use Rattle.tcleval.proofs.PlaceLemmas.{inner_offset, item_there, item_past, script_there, script_past}
use Rattle.tcleval.proofs.open_scripts.OpenScripts.script_at.Goals as goal
use Rattle.tcleval.proofs.open_scripts.OpenScripts.script_at.Goals.{in-Some, in-None}
use Rattle.tclrules.specs.Derivation.{OpenScript}
use Rattle.std.proofs.Common.{Option}

pub returns-in_err-script : goal.returns-in_err-script
returns-in_err-script c =
    let past = rw c.deref.ensures.value at (item_past c.deref.result.now c.args.index c.in_err-script.ensures.lookup) in
    rw c.from_residual.ensures (script_past c.self.inside.offset c.self.inside.entries.items c.args.self.now c.args.index c.self.view_is past)

pub returns : goal.returns
returns c =
    let es = c.self.inside.entries.items in
    let script = c.in_ok-script.script.now in
    let here = rw c.deref.ensures.value at (item_there c.deref.result.now c.args.index c.in_ok-script.script c.in_ok-script.ensures.lookup) in
    let next : c.args.index + 1 ≡ suc c.args.index = omega arith in
    let offset : c.match-get.offset ≡ inner_offset c.self.inside.offset (slice_get es (suc c.args.index)) =
    elim c.match-get.branch [
      | in-Some w ↦
          let inner = rw (c.deref-2.ensures.value, next) at (item_there c.deref-2.result.now (c.args.index + 1) w.in-Some.inner w.in-Some.ensures.lookup) in
          w.offset-is ∙ ap (inner_offset c.self.inside.offset) (sym inner)
      | in-None w ↦
          let none = rw (c.deref-2.ensures.value, next) at (item_past c.deref-2.result.now (c.args.index + 1) w.in-None.ensures.lookup) in
          w.offset-is ∙ ap (inner_offset c.self.inside.offset) (sym none)
    ] in
    let text = rw c.deref-3.ensures at c.as_str.ensures.value in
    let found : List ℕ → ℕ → Option OpenScript = λ t o. Some (record { remaining = script.remaining; text = t; offset = o }) in
    ap₂ found text offset ∙ script_there c.self.inside.offset es c.args.self.now c.args.index script c.self.view_is here
