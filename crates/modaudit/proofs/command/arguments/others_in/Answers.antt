use Rattle.std.proofs.Common.{ℕ, ◌+◌, ◌-◌, List, map, drop, length, string_bytes, String, sym, ap, ◌∙◌, arith}
use Rattle.std.proofs.lemmas.List.{drop-map, take_all, length-drop}
use Rattle.std.specs.declared.alloc.Global.{Global}
use Rattle.modaudit.proofs.command.arguments.others_in.Goals as goal

pub returns-then-count-args : goal.returns-then-count-args
returns-then-count-args c =
    let bytes : String Global → List ℕ = λ s. string_bytes s in
    let from : ℕ = c.options_count-count.result + 1 in
    let rest = take_all (length c.args.args.now - from) (drop from c.args.args.now) (simp length-drop (omega arith)) in
    ap (map bytes) rest ∙ (sym (drop-map bytes from c.args.args.now) ∙ ap (λ (n : ℕ). drop (n + 1) (map bytes c.args.args.now)) c.options_count-count.ensures.value)
