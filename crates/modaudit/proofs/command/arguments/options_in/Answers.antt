use Rattle.std.proofs.Common.{ℕ, List, map, take, string_bytes, String, sym, ap, ◌∙◌}
use Rattle.std.proofs.lemmas.List.{take-map}
use Rattle.std.specs.declared.alloc.Global.{Global}
use Rattle.modaudit.proofs.command.arguments.options_in.Goals as goal

pub returns : goal.returns
returns c =
    let bytes : String Global → List ℕ = λ s. string_bytes s in
    sym (take-map bytes c.options_count.result c.args.args.now) ∙ ap (λ (n : ℕ). take n (map bytes c.args.args.now)) c.options_count.ensures.value
