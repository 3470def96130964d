-- Where no counter is written and none was there, a path variable is one text.
use Rattle.std.proofs.Common.{◌≡◌, Bool, true, false, cond, refl, sym, ap, ◌∙◌, Option, Some, None, is_some, Bor}
use Rattle.std.proofs.Common.{Result, Ok, Err}
use Rattle.std.proofs.lemmas.Bool.{false≢true}
use Rattle.std.specs.Option.{option_map}
use Rattle.std.specs.Prelude.{bytes_eq}
use Rattle.std.specs.Result.{OnOk}
use Rattle.envvars.specs.Texts.{Text}
use Rattle.envvars.specs.Names.{share_name}
use Rattle.envvars.specs.Environment.{Environment, lookup, with_value}
use Rattle.envvars.specs.declared.fault.EnvFault.{EnvFault}
use Rattle.envvars.proofs.TextLemmas.{bytes_eq-symmetric, same_text}
use Rattle.envvars.proofs.EnvLemmas.{same_environment, lookup-with_value}
use Rattle.envstate.proofs.paths.PathOrderLemmas.{share_apart}

stays_unset : (e : Environment) (name : Text) → lookup e name ≡ None → with_value e name None ≡ e
stays_unset e name h = same_environment _ _ (λ q. lookup-with_value e name None q ∙ at q (bytes_eq q name) refl)
  where
    at : (q : Text) (b : Bool) → bytes_eq q name ≡ b → cond b None (lookup e q) ≡ lookup e q
    at q true k = sym (ap (lookup e) (same_text q name k) ∙ h)
    at q false k = refl

alone : (old : Environment) (name : Text) (t : Option Text) → lookup old (share_name name) ≡ None → with_value (with_value old name t) (share_name name) None ≡ with_value old name t
alone old name t h =
    stays_unset (with_value old name t) (share_name name)
    (lookup-with_value old name t (share_name name)
    ∙ ap (λ (b : Bool). cond b t (lookup old (share_name name))) (bytes_eq-symmetric (share_name name) name ∙ share_apart name)
    ∙ h)

pub uncounted : (r : Result (Unit {0}) EnvFault) (old new : Environment) (name : Text) (t c : Option Text) → lookup old (share_name name) ≡ None → c ≡ None
    → OnOk r (new ≡ with_value old name t) → OnOk r (new ≡ with_value (with_value old name t) (share_name name) c)
uncounted (Ok u) old new name t c h n k = k ∙ sym (alone old name t h) ∙ sym (ap (with_value (with_value old name t) (share_name name)) n)
uncounted (Err e) old new name t c h n k = tt

-- whether counters are written
shown : (o : Option (Bor Text)) → is_some o ≡ is_some (option_map (λ x. x.now) o)
shown None = refl
shown (Some x) = refl

pub counted_as : (o : Option (Bor Text)) (p : Option Text) (b : Bool) → b ≡ is_some o → option_map (λ x. x.now) o ≡ p → b ≡ is_some p
counted_as o p b e h = e ∙ shown o ∙ ap is_some h

pub not_counted : (o : Option Text) (b : Bool) → b ≡ is_some o → b ≡ false → o ≡ None
not_counted None b e f = refl
not_counted (Some x) b e f = absurd (false≢true (sym f ∙ e))
