-- Where no module needs another, none loses what it needs by an unload.
use Rattle.std.proofs.Common.{◌≡◌, ◌==◌, Bool, true, false, cond, not, ◌&&◌, List, [], ◌∷◌, find, length, Option, Some, None}
use Rattle.std.proofs.Common.{Result, Ok, Err, OnOk, refl, sym, ap, ◌∙◌, subst, arith}
use Rattle.std.specs.Prelude.{filter}
use Rattle.std.specs.List.{list_any}
use Rattle.std.specs.Option.{option_map}
use Rattle.envvars.specs.Texts.{Text, has}
use Rattle.envvars.proofs.TextLemmas.{or_left, or_right}
use Rattle.envstate.specs.loaded_list.Loaded.{Entry, names_of}
use Rattle.requests.specs.Reasons.{RequestReason, still_needed_by}
use Rattle.requests.specs.Refusals.{unless}
use Rattle.requests.specs.Conditions.{is_met, has_lost, end_objection}
use Rattle.requests.specs.Steps.{Done, entries_of, EndsRequest}
use Rattle.modules.specs.declared.refusal.Refusal.{Refusal}
use Rattle.modules.specs.declared.step.NameAction.{NameAction}
use Rattle.modules.specs.declared.step.NameAction.TheVariants.{Load, Unload, ReportOn}
use Rattle.modules.specs.Parts.{needs_another, any_needs, may_lose}

-- none of some of them needs another
pub none_needs : (keeps : Entry → Bool) (xs : List Entry) → any_needs xs ≡ false → any_needs (filter keeps xs) ≡ false
none_needs keeps [] h = refl
none_needs keeps (x ∷ xs) h =
    at (keeps x) (or_left (needs_another x) (any_needs xs) h) (none_needs keeps xs (or_right (needs_another x) (any_needs xs) h))
  where
    at : (b : Bool) → needs_another x ≡ false → any_needs (filter keeps xs) ≡ false → any_needs (cond b (x ∷ filter keeps xs) (filter keeps xs)) ≡ false
    at true k r = rw k r
    at false k r = r

groups_kept : (lost : List Text → Bool) (groups : List (List Text)) → not (length groups == 0) ≡ false → list_any lost groups ≡ false
groups_kept lost [] h = refl
groups_kept lost (group ∷ groups) h = grind arith

and_none : (a b : Bool) → b ≡ false → (a && b) ≡ false
and_none true b h = h
and_none false b h = refl

nothing_lost : (before after xs : List Entry) → any_needs xs ≡ false → find (has_lost before after) xs ≡ None
nothing_lost before after [] h = refl
nothing_lost before after (x ∷ xs) h =
    let lost : List Text → Bool = λ group. is_met before group && not (is_met after group) in
    at (has_lost before after x)
    (and_none (has x.name (names_of before)) (list_any lost x.prereqs) (groups_kept lost x.prereqs (or_left (needs_another x) (any_needs xs) h)))
    (nothing_lost before after xs (or_right (needs_another x) (any_needs xs) h))
  where
    at : (b : Bool) → b ≡ false → find (has_lost before after) xs ≡ None → cond b (Some x) (find (has_lost before after) xs) ≡ None
    at true k r = absurd (cc)
    at false k r = r

nothing_objected : (name_action : NameAction) (before after : List Entry) → may_lose name_action after ≡ false → end_objection before after ≡ None
nothing_objected Load before after h = absurd (cc)
nothing_objected Unload before after h = ap (option_map (λ (x : Entry). still_needed_by x.name)) (nothing_lost before after after h)
nothing_objected (ReportOn report_kind) before after h = absurd (cc)

-- so the request ends with what was done
pub ends_freely : (name_action : NameAction) (before after : List Entry) (d : Done) → Ok after ≡ entries_of d.env → may_lose name_action after ≡ false → EndsRequest before d (Ok d)
ends_freely name_action before after d listed free =
    (Ok after, listed, ap (λ (o : Option RequestReason). unless o (Ok d)) (sym (nothing_objected name_action before after free)))

-- after what isn't an unload
pub loses_otherwise : (result : Result (Unit {0}) Refusal) (name_action other : NameAction) (xs ys : List Entry) → name_action ≡ other → may_lose other xs ≡ true
    → OnOk result (may_lose name_action xs ≡ false → may_lose name_action ys ≡ false)
loses_otherwise (Ok u) name_action other xs ys is may = λ h.
    let k : true ≡ false = sym may ∙ subst (λ (a : NameAction). may_lose a xs ≡ false) is h in absurd (cc)
loses_otherwise (Err e) name_action other xs ys is may = tt
