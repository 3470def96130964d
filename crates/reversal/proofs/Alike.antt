-- Unloads by records that undo equivalently.
use Rattle.std.proofs.Common.{◌≡◌, ◌+◌, true, List, [], ◌∷◌, refl, sym, ap, ◌∙◌, subst, Option, Some, None, Ok, arith}
use Rattle.std.specs.Prelude.{is_none, is_some}
use Rattle.std.specs.List.{list_all, cons_option}
use Rattle.std.specs.Option.{option_or}
use Rattle.envvars.specs.Texts.{Text}
use Rattle.envvars.specs.Environment.{Environment}
use Rattle.envvars.proofs.EditLemmas.{both_true}
use Rattle.modulefile.specs.Records.{Record}
use Rattle.modulefile.specs.Judgments.{RecordReason, record_reason, is_allowed}
use Rattle.modulefile.specs.Effects.{unload, unloaded_by, edit_outcome, permitted, effect, effects}
use Rattle.modulefile.proofs.Effected.{parts, whole}
use Rattle.reversal.specs.VariableUses.{VariableUse, IsUsedSo, Suits, AllSuit}
use Rattle.reversal.specs.Undone.{undone_as, undo_of}
use Rattle.reversal.specs.Laws.{UnloadsAreAlike}
use Rattle.reversal.specs.Live.{set_by, last_set, adds_by, adds, push_by, last_push}
use Rattle.reversal.proofs.RecordKinds.{accepted, same_accepted, LeavesOf, leaves}
use Rattle.reversal.proofs.Frames.{effect_edits}

-- what an unload makes by what is left of a record
abbrev DoneBy : Text → Option Record → Environment → Environment → Type 0
DoneBy owner None old new = new ≡ old
DoneBy owner (Some u) old new = effect unload owner u old ≡ Ok new

none_of : (o : Option RecordReason) → is_none o ≡ true → o ≡ None
none_of None h = refl
none_of (Some x) h = absurd (cc)

had : (owner : Text) (r : Record) (old new : Environment) → record_reason r ≡ None → unloaded_by owner r old ≡ Ok new → effect unload owner r old ≡ Ok new
had owner r old new n h =
    ap (λ (o : Option RecordReason). permitted o (edit_outcome (unloaded_by owner r old))) n ∙ ap edit_outcome h

left_of : (owner : Text) (r : Record) (o : Option Record) → LeavesOf r o → (old new : Environment) → record_reason r ≡ None → unloaded_by owner r old ≡ Ok new → DoneBy owner o old new
left_of owner r None l old new n h = same_accepted old new (sym (l.unloads owner old) ∙ h)
left_of owner r (Some u) l old new n h = had owner u old new (l.reason n) (sym (l.unloads owner old) ∙ h)

step : (owner : Text) (o : Option Record) (us : List Record) (old mid new : Environment) → DoneBy owner o old mid
    → effects unload owner us mid ≡ Ok new → effects unload owner (cons_option o us) old ≡ Ok new
step owner None us old mid new d h = subst (λ (e : Environment). effects unload owner us e ≡ Ok new) d h
step owner (Some u) us old mid new d h = whole (effect unload owner u old) (effects unload owner us) mid new d h

-- an unload by records is one by what is left of them
pub done_by_left : (owner : Text) (rs : List Record) (old new : Environment) → effects unload owner rs old ≡ Ok new → effects unload owner (undo_of rs) old ≡ Ok new
done_by_left owner [] old new h = h
done_by_left owner (r ∷ rs) old new h =
    let p = parts (effect unload owner r old) (effects unload owner rs) new h in
    let e = effect_edits unload owner r old p.0 p.1 in
    step owner (undone_as r) (undo_of rs) old p.0 new (left_of owner r (undone_as r) (leaves r) old p.0 e.0 e.1) (done_by_left owner rs p.0 new p.2)

-- and the other way round, where nothing forbids a record

from_left : (owner : Text) (r : Record) (o : Option Record) → LeavesOf r o → (old new : Environment) → record_reason r ≡ None → DoneBy owner o old new → effect unload owner r old ≡ Ok new
from_left owner r None l old new n h = had owner r old new n (l.unloads owner old ∙ ap accepted (sym h))
from_left owner r (Some u) l old new n h = had owner r old new n (l.unloads owner old ∙ (effect_edits unload owner u old new h).1)

first_done : (owner : Text) (o : Option Record) (us : List Record) (old new : Environment)
    → effects unload owner (cons_option o us) old ≡ Ok new
    → (mid : Environment) × DoneBy owner o old mid × (effects unload owner us mid ≡ Ok new)
first_done owner None us old new h = (old, refl, h)
first_done owner (Some u) us old new h = parts (effect unload owner u old) (effects unload owner us) new h

done_by_all : (owner : Text) (rs : List Record) (old new : Environment) → list_all is_allowed rs ≡ true → effects unload owner (undo_of rs) old ≡ Ok new → effects unload owner rs old ≡ Ok new
done_by_all owner [] old new a h = h
done_by_all owner (r ∷ rs) old new a h =
    let b = both_true (is_allowed r) (list_all is_allowed rs) a in
    let p = first_done owner (undone_as r) (undo_of rs) old new h in
    whole (effect unload owner r old) (effects unload owner rs) p.0 new
    (from_left owner r (undone_as r) (leaves r) old p.0 (none_of (record_reason r) b.0) p.1) (done_by_all owner rs p.0 new b.1 p.2)

pub unloads_are_alike : UnloadsAreAlike
unloads_are_alike owner rs ss old new alike allowed h =
    done_by_all owner ss old new allowed (subst (λ (us : List Record). effects unload owner us old ≡ Ok new) alike (done_by_left owner rs old new h))

-- What is left of records that suit the uses suits them, and sets, adds and pushes as they do, but for the values.

suit_left : (uses : Text → VariableUse) (r : Record) (o : Option Record) → LeavesOf r o → (us : List Record) → Suits uses r → AllSuit uses us → AllSuit uses (cons_option o us)
suit_left uses r None l us s k = k
suit_left uses r (Some u) l us s k = ((l.returns, subst (IsUsedSo uses) (sym l.uses) s.1), k)

pub left_suit : (uses : Text → VariableUse) (rs : List Record) → AllSuit uses rs → AllSuit uses (undo_of rs)
left_suit uses [] s = tt
left_suit uses (r ∷ rs) s = suit_left uses r (undone_as r) (leaves r) (undo_of rs) s.0 (left_suit uses rs s.1)

add_left : (w x : Text) (r : Record) (o : Option Record) → LeavesOf r o → (us rs : List Record) → adds w x us ≡ adds w x rs → adds w x (cons_option o us) ≡ adds_by w x r + adds w x rs
add_left w x r None l us rs i = let n = l.adds w x in omega (arith, n, i)
add_left w x r (Some u) l us rs i = let a = l.adds w x in omega (arith, a, i)

pub left_adds : (w x : Text) (rs : List Record) → adds w x (undo_of rs) ≡ adds w x rs
left_adds w x [] = refl
left_adds w x (r ∷ rs) = add_left w x r (undone_as r) (leaves r) (undo_of rs) rs (left_adds w x rs)

or_some : {T : Type 0} (a b c d : Option T) → is_some a ≡ is_some b → is_some c ≡ is_some d → is_some (option_or a c) ≡ is_some (option_or b d)
or_some None None c d h k = k
or_some (Some x) (Some y) c d h k = refl
or_some None (Some y) c d h k = absurd cc
or_some (Some x) None c d h k = absurd cc

or_none : {T : Type 0} (a b c : Option T) → is_some a ≡ is_some b → c ≡ None → is_some a ≡ is_some (option_or b c)
or_none a None c h k = h ∙ ap is_some (sym k)
or_none a (Some y) c h k = h

set_left : (uses : Text → VariableUse) (w : Text) (r : Record) (o : Option Record) → LeavesOf r o → (us rs : List Record) → Suits uses r → is_some (last_set w us) ≡ is_some (last_set w rs)
    → is_some (last_set w (cons_option o us)) ≡ is_some (option_or (last_set w rs) (set_by w r))
set_left uses w r None l us rs s i = or_none (last_set w us) (last_set w rs) (set_by w r) i (l.sets s.0 w)
set_left uses w r (Some u) l us rs s i = or_some (last_set w us) (last_set w rs) (set_by w u) (set_by w r) i (l.sets w)

pub left_sets : (uses : Text → VariableUse) (w : Text) (rs : List Record) → AllSuit uses rs → is_some (last_set w (undo_of rs)) ≡ is_some (last_set w rs)
left_sets uses w [] s = refl
left_sets uses w (r ∷ rs) s = set_left uses w r (undone_as r) (leaves r) (undo_of rs) rs s.0 (left_sets uses w rs s.1)

push_left : (w : Text) (r : Record) (o : Option Record) → LeavesOf r o → (us rs : List Record) → is_some (last_push w us) ≡ is_some (last_push w rs)
    → is_some (last_push w (cons_option o us)) ≡ is_some (option_or (last_push w rs) (push_by w r))
push_left w r None l us rs i = or_none (last_push w us) (last_push w rs) (push_by w r) i (l.pushes w)
push_left w r (Some u) l us rs i = or_some (last_push w us) (last_push w rs) (push_by w u) (push_by w r) i (l.pushes w)

pub left_pushes : (w : Text) (rs : List Record) → is_some (last_push w (undo_of rs)) ≡ is_some (last_push w rs)
left_pushes w [] = refl
left_pushes w (r ∷ rs) = push_left w r (undone_as r) (leaves r) (undo_of rs) rs (left_pushes w rs)
