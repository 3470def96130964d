-- What is lost without a premise.
use Rattle.std.proofs.Common.{◌≡◌, [], ◌∷◌, sym, ap, ◌∙◌, Some, None, Ok}
use Rattle.std.proofs.lemmas.Option.{none-some}
use Rattle.envvars.specs.Texts.{Text}
use Rattle.envvars.specs.Environment.{Environment, lookup, with_value}
use Rattle.envvars.proofs.EnvLemmas.{lookup-set}
use Rattle.modulefile.specs.Records.{Record, Set, Unset}
use Rattle.modulefile.specs.Effects.{Mode, load, unload, edited, effect, effects}
use Rattle.reversal.specs.Losses.{SetLosesValue, UnsetLosesValue, UnsetGivesAnother}
use Rattle.reversal.proofs.RecordKinds.{accepted, same_accepted}
use Rattle.reversal.proofs.Frames.{effect_edits}
use Rattle.reversal.proofs.Loads.{parts}

one_edit : (mode : Mode) (owner : Text) (r : Record) (old new : Environment) → effects mode owner (r ∷ []) old ≡ Ok new → edited mode owner r old ≡ Ok new
one_edit mode owner r old new h =
    let p = parts (effect mode owner r old) (effects mode owner []) new h in
    let q = (effect_edits mode owner r old p.0 p.1).1 in
    let same : p.0 ≡ new = cc in
    q ∙ ap accepted same

pub set_loses : SetLosesValue
set_loses owner v value before old new h t e =
    let q = same_accepted (with_value t.0 v None) new (one_edit unload owner (Set v value) t.0 new t.2) in
    none-some before (sym (lookup-set t.0 v None) ∙ ap (λ (d : Environment). lookup d v) (sym q ∙ e) ∙ h)

pub unset_loses : UnsetLosesValue
unset_loses owner v before old new h t e =
    let p = same_accepted (with_value old v None) t.0 (one_edit load owner (Unset v None) old t.0 t.1) in
    let q = same_accepted t.0 new (one_edit unload owner (Unset v None) t.0 new t.2) in
    none-some before (sym (lookup-set old v None) ∙ ap (λ (d : Environment). lookup d v) (sym p ∙ sym q ∙ e) ∙ h)

pub unset_gives : UnsetGivesAnother
unset_gives owner v value old new h t e =
    let q = same_accepted (with_value t.0 v (Some value)) new (one_edit unload owner (Unset v (Some value)) t.0 new t.2) in
    h (ap (λ (d : Environment). lookup d v) (sym e ∙ q) ∙ lookup-set t.0 v (Some value))
