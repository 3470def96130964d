-- Edits that are refused.
use Rattle.std.proofs.Common.{◌≡◌, ap, ◌∙◌, Option, Some, None, Result, Err}
use Rattle.std.specs.Prelude.{IfSome}
use Rattle.std.specs.Option.{option_map, option_or}
use Rattle.envvars.specs.Environment.{Environment}
use Rattle.envvars.specs.Reasons.{EnvReason}
use Rattle.modulefile.specs.Judgments.{RecordReason, bad_edit}
use Rattle.modulefile.specs.Effects.{edit_outcome, permitted}

-- a variable's name that is refused, before anything else is judged
pub name_refused : (o n more : Option EnvReason) → IfSome o (λ r. n ≡ Some r) → IfSome (option_map bad_edit o) (λ r. option_map bad_edit (option_or n more) ≡ Some r)
name_refused None n more h = tt
name_refused (Some r) n more h = ap (λ (z : Option EnvReason). option_map bad_edit (option_or z more)) h

-- nothing forbids the record
pub refused_edit : (o : Option EnvReason) (n : Option RecordReason) (out : Result Environment EnvReason) → n ≡ None
    → IfSome o (λ r. out ≡ Err r) → IfSome (option_map bad_edit o) (λ r. permitted n (edit_outcome out) ≡ Err r)
refused_edit None n out h e = tt
refused_edit (Some r) n out h e = ap (λ (z : Option RecordReason). permitted z (edit_outcome out)) h ∙ ap edit_outcome e
