-- What it is that an effect was had.
use Rattle.std.proofs.Common.{◌≡◌, true, List, [], ◌∷◌, ◌++◌, Option, Some, None, Result, Ok, Err, refl, ap, ◌∙◌}
use Rattle.std.proofs.Common.{is_none}
use Rattle.std.specs.List.{list_all}
use Rattle.envvars.specs.Texts.{Text}
use Rattle.envvars.specs.Environment.{Environment}
use Rattle.modulefile.specs.Records.{Record}
use Rattle.modulefile.specs.Judgments.{RecordReason, record_reason, is_allowed}
use Rattle.modulefile.specs.Effects.{Mode, edited, edit_outcome, permitted, effect, and_then, effects}

abbrev RecordOutcome : Type 0
RecordOutcome = Result Environment RecordReason

-- the first step of two that came to an end, and the second
pub parts : (o : RecordOutcome) (next : Environment → RecordOutcome) (e : Environment) → and_then o next ≡ Ok e → (d : Environment) × (o ≡ Ok d) × (next d ≡ Ok e)
parts (Ok d) next e h = (d, refl, h)
parts (Err r) next e h = absurd (cc)

pub whole : (o : RecordOutcome) (next : Environment → RecordOutcome) (d e : Environment) → o ≡ Ok d → next d ≡ Ok e → and_then o next ≡ Ok e
whole o next d e h k = ap (λ x. and_then x next) h ∙ k

unforbidden : (r : Option RecordReason) (o : RecordOutcome) (e : Environment) → permitted r o ≡ Ok e → r ≡ None
unforbidden None o e h = refl
unforbidden (Some r) o e h = absurd (cc)

one_allowed : (mode : Mode) (owner : Text) (r : Record) (old new : Environment) → effect mode owner r old ≡ Ok new → is_allowed r ≡ true
one_allowed mode owner r old new h = ap (λ o. is_none o) (unforbidden (record_reason r) (edit_outcome (edited mode owner r old)) new h)

pub all_allowed : (mode : Mode) (owner : Text) (rs : List Record) (old new : Environment) → effects mode owner rs old ≡ Ok new → list_all is_allowed rs ≡ true
all_allowed mode owner [] old new h = refl
all_allowed mode owner (r ∷ rs) old new h =
    let p = parts (effect mode owner r old) (effects mode owner rs) new h in
    let first : is_allowed r ≡ true = one_allowed mode owner r old p.0 p.1 in
    let rest : list_all is_allowed rs ≡ true = all_allowed mode owner rs p.0 new p.2 in
    rw (first, rest) refl

pub effects_go_on : (mode : Mode) (owner : Text) (rs more : List Record) (old mid new : Environment)
    → effects mode owner rs old ≡ Ok mid → effects mode owner more mid ≡ Ok new
    → effects mode owner (rs ++ more) old ≡ Ok new
effects_go_on mode owner [] more old mid new h k = let e : old ≡ mid = cc in rw e k
effects_go_on mode owner (r ∷ rs) more old mid new h k =
    let p = parts (effect mode owner r old) (effects mode owner rs) mid h in
    whole (effect mode owner r old) (effects mode owner (rs ++ more)) p.0 new p.1 (effects_go_on mode owner rs more p.0 mid new p.2 k)
