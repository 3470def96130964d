-- Where a file is shown, or asked for its description, nothing changes.
use Rattle.std.proofs.Common.{◌≡◌, List, [], ◌∷◌, Option, Some, None, Ok, ◌∙◌}
use Rattle.envvars.specs.Texts.{Text}
use Rattle.envvars.specs.Environment.{Environment}
use Rattle.modulefile.specs.Records.{Record}
use Rattle.modulefile.specs.Judgments.{RecordReason, record_reason}
use Rattle.modulefile.specs.Effects.{Mode, load, unload, display, whatis, permitted, effect, effects}
use Rattle.modulefile.proofs.Effected.{parts}
use Rattle.modulefile.specs.Laws.{ChangesNothing, ShowingChangesNothing}
use Rattle.modulefile.proofs.WholeFiles.{records_make}

unchanged : (o : Option RecordReason) (old new : Environment) → permitted o (Ok old) ≡ Ok new → new ≡ old
unchanged None old new h = cc
unchanged (Some r) old new h = absurd (cc)

one_stays : (mode : Mode) (owner : Text) (r : Record) (old new : Environment) → ChangesNothing mode → effect mode owner r old ≡ Ok new → new ≡ old
one_stays load owner r old new s h = absurd s
one_stays unload owner r old new s h = absurd s
one_stays display owner r old new s h = unchanged (record_reason r) old new h
one_stays whatis owner r old new s h = unchanged (record_reason r) old new h

all_stay : (mode : Mode) (owner : Text) (rs : List Record) (old new : Environment) → ChangesNothing mode → effects mode owner rs old ≡ Ok new → new ≡ old
all_stay mode owner [] old new s h = cc
all_stay mode owner (r ∷ rs) old new s h =
    let p = parts (effect mode owner r old) (effects mode owner rs) new h in
    all_stay mode owner rs p.0 new s p.2 ∙ one_stays mode owner r old p.0 s p.1

pub showing_leaves : ShowingChangesNothing
showing_leaves limits c text ran s r = all_stay c.mode c.name ran.records c.before ran.env s (records_make limits c text ran r)
