-- The test whether records undo equivalently says so exactly where they do.
use Rattle.std.proofs.Common.{◌≡◌, Bool, true, ◌&&◌, ◌==◌, ℕ, List, [], ◌∷◌, Option, Some, None, refl, ap, subst}
use Rattle.std.specs.Prelude.{bytes_eq}
use Rattle.std.specs.List.{list_all, cons_option}
use Rattle.std.specs.Option.{option_eq}
use Rattle.std.proofs.lemmas.Bool.{false≢true, and_parts, and_from, eqb-true, eq-eqb}
use Rattle.envvars.specs.Texts.{Text}
use Rattle.envvars.proofs.TextLemmas.{same_text, bytes_eq-same}
use Rattle.modulefile.specs.Records.{Record, Set, Unset, Push, Path, Conflict, Prereq, Whatis}
use Rattle.modulefile.specs.declared.records.PathEdit.{PathEdit}
use Rattle.modulefile.specs.declared.records.PathEdit.TheVariants.{Front, Back, Remove}
use Rattle.reversal.specs.Undone.{undone_as, undo_of}
use Rattle.audit_laws.specs.determinism.Contexts.{same_by, same_edit, same_record}
use Rattle.audit_laws.specs.determinism.Laws.{UndoIsTested}

-- ---- lists

pub by_sound : {X : Type 0} (same : X → X → Bool) → ((x y : X) → same x y ≡ true → x ≡ y) → (xs ys : List X) → same_by same xs ys ≡ true → xs ≡ ys
by_sound same one [] [] h = refl
by_sound same one [] (y ∷ ys) h = absurd (false≢true h)
by_sound same one (x ∷ xs) [] h = absurd (false≢true h)
by_sound same one (x ∷ xs) (y ∷ ys) h =
    let p = and_parts (same x y) (same_by same xs ys) h in
    let first = one x y p.0 in let rest = by_sound same one xs ys p.1 in λ i. first i ∷ rest i

pub by_itself : {X : Type 0} (same : X → X → Bool) (xs : List X) → list_all (λ x. same x x) xs ≡ true → same_by same xs xs ≡ true
by_itself same [] h = refl
by_itself same (x ∷ xs) h =
    let p = and_parts (same x x) (list_all (λ y. same y y) xs) h in
    and_from (same x x) (same_by same xs xs) p.0 (by_itself same xs p.1)

all_same : (xs : List Text) → list_all (λ x. bytes_eq x x) xs ≡ true
all_same [] = refl
all_same (x ∷ xs) = and_from (bytes_eq x x) (list_all (λ y. bytes_eq y y) xs) (bytes_eq-same x) (all_same xs)

pub texts_sound : (xs ys : List Text) → same_by bytes_eq xs ys ≡ true → xs ≡ ys
texts_sound xs ys h = by_sound bytes_eq same_text xs ys h

-- ---- one record

value_sound : (x y : Option Text) → option_eq bytes_eq x y ≡ true → x ≡ y
value_sound None None h = refl
value_sound None (Some y) h = absurd (false≢true h)
value_sound (Some x) None h = absurd (false≢true h)
value_sound (Some x) (Some y) h = ap Some (same_text x y h)

edit_sound : (e f : PathEdit) → same_edit e f ≡ true → e ≡ f
edit_sound Front Front h = refl
edit_sound Front Back h = absurd (false≢true h)
edit_sound Front Remove h = absurd (false≢true h)
edit_sound Back Front h = absurd (false≢true h)
edit_sound Back Back h = refl
edit_sound Back Remove h = absurd (false≢true h)
edit_sound Remove Front h = absurd (false≢true h)
edit_sound Remove Back h = absurd (false≢true h)
edit_sound Remove Remove h = refl

record_sound : (r q : Record) → same_record r q ≡ true → r ≡ q
record_sound (Set v x) (Set w y) h =
    let p = and_parts (bytes_eq x y) (bytes_eq v w) h in
    let value = same_text x y p.0 in let name = same_text v w p.1 in λ i. Set (name i) (value i)
record_sound (Unset v x) (Unset w y) h =
    let p = and_parts (option_eq bytes_eq x y) (bytes_eq v w) h in
    let value = value_sound x y p.0 in let name = same_text v w p.1 in λ i. Unset (name i) (value i)
record_sound (Push v x) (Push w y) h =
    let p = and_parts (bytes_eq x y) (bytes_eq v w) h in
    let value = same_text x y p.0 in let name = same_text v w p.1 in λ i. Push (name i) (value i)
record_sound (Path e d v xs) (Path f k w ys) h =
    let p = and_parts (same_edit e f) (d == k && (bytes_eq v w && same_by bytes_eq xs ys)) h in
    let q = and_parts (d == k) (bytes_eq v w && same_by bytes_eq xs ys) p.1 in
    let t = and_parts (bytes_eq v w) (same_by bytes_eq xs ys) q.1 in
    let edit = edit_sound e f p.0 in
    let delim = eqb-true d k q.0 in
    let name = same_text v w t.0 in
    let elements = texts_sound xs ys t.1 in
    λ i. Path (edit i) (delim i) (name i) (elements i)
record_sound (Set v x) (Unset w y) h = absurd (false≢true h)
record_sound (Set v x) (Push w y) h = absurd (false≢true h)
record_sound (Set v x) (Path f k w ys) h = absurd (false≢true h)
record_sound (Set v x) (Conflict ys) h = absurd (false≢true h)
record_sound (Set v x) (Prereq ys) h = absurd (false≢true h)
record_sound (Set v x) (Whatis y) h = absurd (false≢true h)
record_sound (Unset v x) (Set w y) h = absurd (false≢true h)
record_sound (Unset v x) (Push w y) h = absurd (false≢true h)
record_sound (Unset v x) (Path f k w ys) h = absurd (false≢true h)
record_sound (Unset v x) (Conflict ys) h = absurd (false≢true h)
record_sound (Unset v x) (Prereq ys) h = absurd (false≢true h)
record_sound (Unset v x) (Whatis y) h = absurd (false≢true h)
record_sound (Push v x) (Set w y) h = absurd (false≢true h)
record_sound (Push v x) (Unset w y) h = absurd (false≢true h)
record_sound (Push v x) (Path f k w ys) h = absurd (false≢true h)
record_sound (Push v x) (Conflict ys) h = absurd (false≢true h)
record_sound (Push v x) (Prereq ys) h = absurd (false≢true h)
record_sound (Push v x) (Whatis y) h = absurd (false≢true h)
record_sound (Path e d v xs) (Set w y) h = absurd (false≢true h)
record_sound (Path e d v xs) (Unset w y) h = absurd (false≢true h)
record_sound (Path e d v xs) (Push w y) h = absurd (false≢true h)
record_sound (Path e d v xs) (Conflict ys) h = absurd (false≢true h)
record_sound (Path e d v xs) (Prereq ys) h = absurd (false≢true h)
record_sound (Path e d v xs) (Whatis y) h = absurd (false≢true h)
record_sound (Conflict xs) q h = absurd (false≢true h)
record_sound (Prereq xs) q h = absurd (false≢true h)
record_sound (Whatis x) q h = absurd (false≢true h)

-- a record as an unload sees it is the same as itself

abbrev IsItself : Option Record → Type 0
IsItself None = Unit {0}
IsItself (Some u) = same_record u u ≡ true

path_itself : (d : ℕ) (v : Text) (xs : List Text) → same_record (Path Front d v xs) (Path Front d v xs) ≡ true
path_itself d v xs =
    and_from (d == d) (bytes_eq v v && same_by bytes_eq xs xs) (eq-eqb d d refl)
    (and_from (bytes_eq v v) (same_by bytes_eq xs xs) (bytes_eq-same v) (by_itself bytes_eq xs (all_same xs)))

undone_itself : (r : Record) → IsItself (undone_as r)
undone_itself (Set v x) = bytes_eq-same v
undone_itself (Unset v None) = tt
undone_itself (Unset v (Some x)) = and_from (bytes_eq x x) (bytes_eq v v) (bytes_eq-same x) (bytes_eq-same v)
undone_itself (Push v x) = bytes_eq-same v
undone_itself (Path Front d v xs) = path_itself d v xs
undone_itself (Path Back d v xs) = path_itself d v xs
undone_itself (Path Remove d v xs) = tt
undone_itself (Conflict xs) = tt
undone_itself (Prereq xs) = tt
undone_itself (Whatis x) = tt

with_one : (o : Option Record) (us : List Record) → IsItself o → list_all (λ u. same_record u u) us ≡ true → list_all (λ u. same_record u u) (cons_option o us) ≡ true
with_one None us h k = k
with_one (Some u) us h k = and_from (same_record u u) (list_all (λ x. same_record x x) us) h k

undo_itself : (rs : List Record) → list_all (λ u. same_record u u) (undo_of rs) ≡ true
undo_itself [] = refl
undo_itself (r ∷ rs) = with_one (undone_as r) (undo_of rs) (undone_itself r) (undo_itself rs)

pub undo_is_tested : UndoIsTested
undo_is_tested rs qs = (
  (λ h. by_sound same_record record_sound (undo_of rs) (undo_of qs) h),
  (λ e. subst (λ (us : List Record). same_by same_record (undo_of rs) us ≡ true) e (by_itself same_record (undo_of rs) (undo_itself rs))),
)
