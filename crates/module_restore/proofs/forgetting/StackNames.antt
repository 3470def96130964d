-- The variables whose stacks are set.
use Rattle.std.proofs.Common.{◌≡◌, Bor, false, List, None, Result, Ok, Err, IfOk, ap, ◌∙◌, sym}
use Rattle.std.specs.declared.alloc.Global.{Global}
use Rattle.std.specs.declared.string.String.{String}
use Rattle.std.specs.declared.vec.Vec.{Vec}
use Rattle.envvars.specs.Environment.{Environment, lookup}
use Rattle.envvars.specs.Names.{stack_name}
use Rattle.envvars.specs.Texts.{Text, has, slice_texts, texts_in}

pub all_stacked : {E : Type 0} (e : Environment) (old names : List (Bor Text)) (lent : List (Bor Text)) → lent ≡ names → (r : Result (Vec (String Global) Global) E)
    → ((n : Text) → has n (slice_texts names) ≡ false → (has n (slice_texts old) ≡ false) × (lookup e n ≡ None))
    → IfOk r (λ variables. (v : Text) → has v (texts_in variables) ≡ false → has (stack_name v) (slice_texts lent) ≡ false)
    → IfOk r (λ variables. (v : Text) → has v (texts_in variables) ≡ false → lookup e (stack_name v) ≡ None)
all_stacked e old names lent same (Ok variables) set among = λ v h. (set (stack_name v) (ap (λ (ns : List (Bor Text)). has (stack_name v) (slice_texts ns)) (sym same) ∙ among v h)).1
all_stacked e old names lent same (Err x) set among = tt
