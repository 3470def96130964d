use Rattle.std.proofs.Common.{◌≡◌, ◌++◌, drop, map, string_bytes}
use Rattle.tcltext.specs.list.Lists.{list_rest}
use Rattle.tcltext.proofs.list.write.push_rest.Given as goal

abbrev pub invariant-loop-element : goal.invariant-loop-element
invariant-loop-element l = string_bytes l.text ++ list_rest (map (λ e. e.now) (drop l.element-index l.elements)) ≡ string_bytes l.initial.text ++ list_rest (map (λ e. e.now) l.elements)
