-- Edits of a path variable that wait, as one edit.
use Rattle.std.proofs.Common.{◌≡◌, ℕ, ◌+◌, ◌≤◌, List, [], ◌∷◌, ◌++◌, map, reverse, length, refl, sym, ap, ◌∙◌, arith}
use Rattle.std.proofs.Common.{subst, string_bytes, String, Global, Bool, true, is_ok, if◌then◌else◌, Option, Some, None}
use Rattle.std.proofs.Common.{Result, Ok, Err, OnOk, OnErr, IfOk, IfErr, IfSome}
use Rattle.std.specs.Prelude.{unwrap_or}
use Rattle.std.specs.Option.{option_map}
use Rattle.std.specs.declared.alloc.AllocError.{AllocError}
use Rattle.std.proofs.lemmas.List.{map-append, reverse-append, reverse-reverse, length-append, length-reverse}
use Rattle.envvars.specs.Texts.{Text}
use Rattle.envvars.specs.Environment.{Environment}
use Rattle.envvars.specs.Reasons.{EnvReason, Edits, reason_of}
use Rattle.envvars.specs.declared.fault.EnvFault.{EnvFault}
use Rattle.envvars.specs.declared.fault.EnvFault.TheVariants as faults
use Rattle.envvars.proofs.EditLemmas.{no_reason, same_ok}
use Rattle.envstate.specs.paths.Paths.{HasRoom, add_all, drop_all}
use Rattle.envstate.specs.paths.PathVariables.{path_in, with_path, path_reason, written_path, added_path, dropped_path}
use Rattle.envstate.specs.declared.paths.adding.End.{End}
use Rattle.envstate.specs.declared.paths.adding.End.TheVariants as ends
use Rattle.envstate.proofs.paths.PathBatches.{both_allowed, both_added_allowed, added_once, added_twice, dropped_as, dropped_twice}
use Rattle.modulefile.specs.Judgments.{bad_edit}
use Rattle.modulefile.specs.Effects.{path_edited}
use Rattle.modulefile.specs.declared.records.PathEdit.{PathEdit}
use Rattle.modulefile.specs.declared.records.PathEdit.TheVariants.{Front, Back, Remove}
use Rattle.modulefile_run.specs.declared.batch.PathBatch.{PathBatch}
use Rattle.modulefile_run.specs.Batches.{in_turn, made_of, with_elements, waiting_in, with_waiting, most_waiting, HasRoomFor}
use Rattle.modulefile_run.specs.Batches.{ElementsCanWait, CanWait, MoreCanWait, WaitAlike}

-- the elements of edits in turn

pub twice_in_turn : {A : Type 0} (edit : PathEdit) (xs : List A) → in_turn edit (in_turn edit xs) ≡ xs
twice_in_turn Front xs = reverse-reverse xs
twice_in_turn Back xs = refl
twice_in_turn Remove xs = refl

map-reverse : {A B : Type 0} (f : A → B) (xs : List A) → map f (reverse xs) ≡ reverse (map f xs)
map-reverse f [] = refl
map-reverse f (x ∷ xs) =
    ap (map f) (reverse-append (x ∷ []) xs)
    ∙ (map-append f (reverse xs) (x ∷ []) ∙ (ap (λ l. l ++ f x ∷ []) (map-reverse f xs) ∙ sym (reverse-append (f x ∷ []) (map f xs))))

pub map-in_turn : {A B : Type 0} (f : A → B) (edit : PathEdit) (xs : List A) → map f (in_turn edit xs) ≡ in_turn edit (map f xs)
map-in_turn f Front xs = map-reverse f xs
map-in_turn f Back xs = refl
map-in_turn f Remove xs = refl

last_first : {A : Type 0} (xs ys : List A) → reverse (xs ++ reverse ys) ≡ ys ++ reverse xs
last_first xs ys = reverse-append xs (reverse ys) ∙ ap (λ l. l ++ reverse xs) (reverse-reverse ys)

-- lengths

few_last_first : {A : Type 0} (xs ys : List A) (most : ℕ) → length xs + length ys ≤ most → length (ys ++ reverse xs) ≤ most
few_last_first xs ys most h =
    let a = length-append ys (reverse xs) in
    let b = length-reverse xs in
    omega arith

few_in_order : {A : Type 0} (xs ys : List A) (most : ℕ) → length xs + length ys ≤ most → length (xs ++ ys) ≤ most
few_in_order xs ys most h =
    let a = length-append xs ys in
    omega arith

after_none : (n most : ℕ) → 0 + n ≤ most → n ≤ most
after_none n most h = omega arith

-- one edit

made_ok : (before e : Environment) (r : Result Environment EnvReason) → r ≡ Ok e → r ≡ Ok (made_of before r)
made_ok before e r h = h ∙ ap (λ x. Ok x) (sym (ap (made_of before) h))

added_reason : (e mid : Environment) (var : Text) (d : ℕ) (xs : List Text) (end : End) → added_path e var d xs end ≡ Ok mid → path_reason var d xs ≡ None
added_reason e mid var d xs end h = (no_reason (path_reason var d xs) (written_path e var d (add_all (path_in e var d) xs end)) mid h).0

dropped_reason : (e mid : Environment) (var : Text) (d : ℕ) (xs : List Text) → dropped_path e var d xs ≡ Ok mid → path_reason var d xs ≡ None
dropped_reason e mid var d xs h = (no_reason (path_reason var d xs) (Ok (with_path e var d (drop_all (path_in e var d) xs))) mid h).0

-- an edit that nothing forbids, for whose elements there is room
pub first_waits : (edit : PathEdit) (d : ℕ) (var : Text) (ys : List Text) (e : Environment) → path_reason var d ys ≡ None → HasRoomFor edit d var e → length ys ≤ most_waiting
    → path_edited edit d var ys e ≡ Ok (made_of e (path_edited edit d var ys e))
first_waits Front d var ys e reason room few = made_ok e _ _ (added_once e var d ys ends.Front most_waiting reason room few)
first_waits Back d var ys e reason room few = made_ok e _ _ (added_once e var d ys ends.Back most_waiting reason room few)
first_waits Remove d var ys e reason room few = made_ok e _ _ (dropped_as e var d ys reason)

-- Another edit, after those that wait, makes what all of them make at once.
next_waits : (edit : PathEdit) (d : ℕ) (var : Text) (xs ys : List Text) (e mid : Environment) → path_reason var d ys ≡ None → HasRoomFor edit d var e → length xs + length ys ≤ most_waiting
    → path_edited edit d var (in_turn edit xs) e ≡ Ok mid
    → path_edited edit d var ys mid ≡ path_edited edit d var (in_turn edit (xs ++ in_turn edit ys)) e
next_waits Front d var xs ys e mid reason room few h =
    added_twice e mid var d (reverse xs) ys ends.Front most_waiting h reason room (few_last_first xs ys most_waiting few)
    ∙ ap (λ zs. added_path e var d zs ends.Front) (sym (last_first xs ys))
next_waits Back d var xs ys e mid reason room few h =
    added_twice e mid var d xs ys ends.Back most_waiting h reason room (few_in_order xs ys most_waiting few)
next_waits Remove d var xs ys e mid reason room few h = dropped_twice e mid var d xs ys h reason

-- nothing forbids all of them at once
all_allowed : (edit : PathEdit) (d : ℕ) (var : Text) (xs ys : List Text) (e mid : Environment) → path_reason var d ys ≡ None
    → path_edited edit d var (in_turn edit xs) e ≡ Ok mid
    → path_reason var d (in_turn edit (xs ++ in_turn edit ys)) ≡ None
all_allowed Front d var xs ys e mid reason h =
    ap (path_reason var d) (last_first xs ys)
    ∙ both_added_allowed var d (reverse xs) ys ends.Front (added_reason e mid var d (reverse xs) ends.Front h) reason
all_allowed Back d var xs ys e mid reason h = both_allowed var d xs ys (added_reason e mid var d xs ends.Back h) reason
all_allowed Remove d var xs ys e mid reason h = both_allowed var d xs ys (dropped_reason e mid var d xs h) reason

all_few : {A : Type 0} (edit : PathEdit) (xs ys : List A) (most : ℕ) → length xs + length ys ≤ most → length (in_turn edit (xs ++ in_turn edit ys)) ≤ most
all_few Front xs ys most h = subst (λ l. length l ≤ most) (sym (last_first xs ys)) (few_last_first xs ys most h)
all_few Back xs ys most h = few_in_order xs ys most h
all_few Remove xs ys most h = few_in_order xs ys most h

abbrev Waits : PathEdit → ℕ → Text → List Text → List Text → Environment → Environment → Type 0
Waits edit d var ys all mid e = ElementsCanWait edit d var (Some all) e
    × (path_edited edit d var ys mid ≡ Ok (with_elements edit d var (Some all) e))

-- A further edit waits beside those that wait, if any do.
pub goes_on : (edit : PathEdit) (d : ℕ) (var : Text) (o : Option (List Text)) (ys : List Text) (e : Environment) → path_reason var d ys ≡ None → HasRoomFor edit d var e
    → length (unwrap_or o []) + length ys ≤ most_waiting → ElementsCanWait edit d var o e
    → Waits edit d var ys (unwrap_or o [] ++ in_turn edit ys) (with_elements edit d var o e) e
goes_on edit d var None ys e reason room few k =
    let same = twice_in_turn edit ys in
    let short : length ys ≤ most_waiting = after_none (length ys) most_waiting few in
    let one = subst (λ zs. path_edited edit d var zs e ≡ Ok (made_of e (path_edited edit d var zs e))) (sym same) (first_waits edit d var ys e reason room short) in (
      (room, one),
      ap (λ zs. path_edited edit d var zs e) (sym same) ∙ one,
    )
goes_on edit d var (Some xs) ys e reason room few k =
    let mid = with_elements edit d var (Some xs) e in
    let all = first_waits edit d var (in_turn edit (xs ++ in_turn edit ys)) e (all_allowed edit d var xs ys e mid reason k.1) room (all_few edit xs ys most_waiting few) in (
      (room, all),
      next_waits edit d var xs ys e mid reason room few k.1 ∙ all,
    )

-- what waits is written

no_fault : (e : EnvFault) → reason_of e ≡ None → e ≡ faults.OutOfMemory
no_fault faults.OutOfMemory h = refl
no_fault (faults.BadVariable name) h = cc
no_fault (faults.Protected name) h = cc
no_fault (faults.CounterFull name) h = cc
no_fault faults.Inconsistent h = cc
no_fault (faults.BadStack name) h = cc
no_fault (faults.BadValue name) h = cc

never : (o : Option EnvReason) (out : Result Environment EnvReason) (mid : Environment) → out ≡ Ok mid → IfSome o (λ r. out ≡ Err r) → o ≡ None
never None out mid h k = refl
never (Some r) out mid h k = cc

abbrev IsWrittenAs : Result Unit EnvFault → Environment → Environment → Environment → Type 0
IsWrittenAs result old new mid = OnOk result (new ≡ mid) × OnErr result (new ≡ old) × IfErr result (λ e. e ≡ faults.OutOfMemory)

-- an edit with this outcome fails for want of memory alone
pub written_as : (result : Result Unit EnvFault) (old new mid : Environment) (out : Result Environment EnvReason) → out ≡ Ok mid → Edits result old new out → IsWrittenAs result old new mid
written_as (Ok u) old new mid out h k = (same_ok mid new out h k, tt, tt)
written_as (Err e) old new mid out h k = (tt, k.0, no_fault e (never (reason_of e) out mid h k.1))

-- what waits is written in turn
pub all_written : (edit : PathEdit) (d : ℕ) (var name : Text) (o : Option (List Text)) (xs ys : List Text) (result : Result Unit EnvFault) (old new : Environment)
    → o ≡ Some xs → ElementsCanWait edit d var o old → name ≡ var → ys ≡ in_turn edit xs → Edits result old new (path_edited edit d name ys old)
    → IsWrittenAs result old new (with_elements edit d var o old)
all_written edit d var name o xs ys result old new is can same turned edits =
    let k = subst (λ z. ElementsCanWait edit d var z old) is can in
    written_as result old new (with_elements edit d var o old) (path_edited edit d name ys old)
    (ap (λ n. path_edited edit d n ys old) same ∙ ap (λ zs. path_edited edit d var zs old) turned ∙ k.1
    ∙ ap (λ z. Ok (with_elements edit d var z old)) (sym is))
    edits

-- room

room_for : (edit : PathEdit) (d : ℕ) (var : Text) (e : Environment) → HasRoom (path_in e var d) most_waiting → HasRoomFor edit d var e
room_for Front d var e h = h
room_for Back d var e h = h
room_for Remove d var e h = tt

pub known_room : (r : Result Bool AllocError) (edit : PathEdit) (d : ℕ) (var name : Text) (e : Environment) → name ≡ var → IfOk r (λ b. b ≡ true → HasRoom (path_in e name d) most_waiting)
    → IfOk r (λ b. b ≡ true → HasRoomFor edit d var e)
known_room (Ok b) edit d var name e same h = λ t. room_for edit d var e (subst (λ x. HasRoom (path_in e x d) most_waiting) same (h t))
known_room (Err f) edit d var name e same h = tt

-- elements are put beside those that wait

abbrev Strings : Type 0
Strings = List (String Global)

turned_texts : (edit : PathEdit) (turned more : Strings) (xs : List Text) → turned ≡ in_turn edit more → map string_bytes more ≡ xs → map string_bytes turned ≡ in_turn edit xs
turned_texts edit turned more xs t m = ap (map string_bytes) t ∙ map-in_turn string_bytes edit more ∙ ap (in_turn edit) m

pub put_beside : (r : Result Unit AllocError) (edit : PathEdit) (new old turned more : Strings) (xs : List Text) (o : Option (List Text))
    → new ≡ (if is_ok r then old ++ turned else old) → turned ≡ in_turn edit more → map string_bytes more ≡ xs → o ≡ Some (map string_bytes old)
    → OnOk r (Some (map string_bytes new) ≡ Some (unwrap_or o [] ++ in_turn edit xs)) × OnErr r (Some (map string_bytes new) ≡ o)
put_beside (Ok u) edit new old turned more xs o h t m is = (
  ap (λ z. Some z) (ap (map string_bytes) h ∙ map-append string_bytes old turned ∙ ap (λ l. map string_bytes old ++ l) (turned_texts edit turned more xs t m))
      ∙ ap (λ z. Some (unwrap_or z [] ++ in_turn edit xs)) (sym is),
  tt,
)
put_beside (Err f) edit new old turned more xs o h t m is = (tt, ap (λ z. Some (map string_bytes z)) h ∙ sym is)

pub put_first : (edit : PathEdit) (turned more : Strings) (xs : List Text) (o : Option (List Text)) → turned ≡ in_turn edit more → map string_bytes more ≡ xs → o ≡ None
    → Some (map string_bytes turned) ≡ Some (unwrap_or o [] ++ in_turn edit xs)
put_first edit turned more xs o t m is =
    ap (λ z. Some z) (turned_texts edit turned more xs t m) ∙ ap (λ z. Some (unwrap_or z [] ++ in_turn edit xs)) (sym is)

-- an edit that goes on with the last one

abbrev WaitsAs : PathEdit → ℕ → Text → Option (List Text) → PathEdit → ℕ → Text → List Text → Environment → Environment → Type 0
WaitsAs edit d var o change delim name ys mid e = ElementsCanWait edit d var o e × (path_edited change delim name ys mid ≡ Ok (with_elements edit d var o e))

abbrev all_of : PathBatch → List Text → Option (List Text)
all_of b ys = Some (unwrap_or (waiting_in b) [] ++ in_turn b.edit ys)

pub waits_beside : (b n : PathBatch) (change : PathEdit) (delim : ℕ) (name : Text) (ys : List Text) (e : Environment)
    → b.edit ≡ change → b.delim.character ≡ delim → string_bytes b.var ≡ name → path_reason name delim ys ≡ None → MoreCanWait b (length ys) e → CanWait (Some b) e
    → n.edit ≡ b.edit → n.delim.character ≡ b.delim.character → string_bytes n.var ≡ string_bytes b.var → waiting_in n ≡ Some (unwrap_or (waiting_in b) [] ++ in_turn b.edit ys)
    → CanWait (Some n) e × (path_edited change delim name ys (with_waiting (Some b) e) ≡ Ok (with_waiting (Some n) e))
waits_beside b n change delim name ys e edits delims vars reason more can edit d var waiting =
    let mid = with_waiting (Some b) e in
    let own : path_reason (string_bytes b.var) b.delim.character ys ≡ None =
    ap (λ v. path_reason v b.delim.character ys) vars ∙ ap (λ c. path_reason name c ys) delims ∙ reason in
    let start : WaitsAs b.edit b.delim.character (string_bytes b.var) (all_of b ys) b.edit b.delim.character (string_bytes b.var) ys mid e =
    goes_on b.edit b.delim.character (string_bytes b.var) (waiting_in b) ys e own more.0 more.1 can in
    let of_edit = subst (λ c. WaitsAs b.edit b.delim.character (string_bytes b.var) (all_of b ys) c b.delim.character (string_bytes b.var) ys mid e) edits start in
    let of_delim = subst (λ c. WaitsAs b.edit b.delim.character (string_bytes b.var) (all_of b ys) change c (string_bytes b.var) ys mid e) delims of_edit in
    let of_var = subst (λ v. WaitsAs b.edit b.delim.character (string_bytes b.var) (all_of b ys) change delim v ys mid e) vars of_delim in
    let to_waiting = subst (λ o. WaitsAs b.edit b.delim.character (string_bytes b.var) o change delim name ys mid e) (sym waiting) of_var in
    let to_edit = subst (λ c. WaitsAs c b.delim.character (string_bytes b.var) (waiting_in n) change delim name ys mid e) (sym edit) to_waiting in
    let to_delim = subst (λ c. WaitsAs n.edit c (string_bytes b.var) (waiting_in n) change delim name ys mid e) (sym d) to_edit in
    subst (λ v. WaitsAs n.edit n.delim.character v (waiting_in n) change delim name ys mid e) (sym var) to_delim

abbrev LikeElements : PathEdit → ℕ → Text → Option (List Text) → Environment → Environment → Type 0
LikeElements edit d var o mid e = ElementsCanWait edit d var o e × (with_elements edit d var o e ≡ mid)

-- what waits as before means the same
pub wait_alike : (b n : PathBatch) (e : Environment) → CanWait (Some b) e → n.edit ≡ b.edit → n.delim.character ≡ b.delim.character → string_bytes n.var ≡ string_bytes b.var
    → waiting_in n ≡ waiting_in b → WaitAlike (Some b) (Some n) e
wait_alike b n e can edit d var waiting =
    let mid = with_waiting (Some b) e in
    let start : LikeElements b.edit b.delim.character (string_bytes b.var) (waiting_in b) mid e = (can, refl) in
    let to_waiting = subst (λ o. LikeElements b.edit b.delim.character (string_bytes b.var) o mid e) (sym waiting) start in
    let to_edit = subst (λ c. LikeElements c b.delim.character (string_bytes b.var) (waiting_in n) mid e) (sym edit) to_waiting in
    let to_delim = subst (λ c. LikeElements n.edit c (string_bytes b.var) (waiting_in n) mid e) (sym d) to_edit in
    subst (λ v. LikeElements n.edit n.delim.character v (waiting_in n) mid e) (sym var) to_delim

-- what forbids no record forbids no edit
pub unforbidden : (o : Option EnvReason) → option_map bad_edit o ≡ None → o ≡ None
unforbidden None h = refl
unforbidden (Some r) h = cc
