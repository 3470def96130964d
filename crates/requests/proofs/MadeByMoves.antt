-- An accepted step's moves take the environment to the one that results.
use Rattle.std.proofs.Common.{◌≡◌, Bool, true, false, cond, ◌&&◌, ◌||◌, ◌∙◌, List, [], ◌∷◌, ◌++◌, Option, Some, None}
use Rattle.std.proofs.Common.{Result, Ok, Err, refl, sym, subst, reverse, find}
use Rattle.std.specs.Prelude.{bytes_eq}
use Rattle.std.specs.List.{list_any}
use Rattle.std.proofs.lemmas.Bool.{or_left, or_right, and_from}
use Rattle.std.proofs.lemmas.Slice.Eq.{bytes_eq-Decides}
use Rattle.std.proofs.lemmas.List.Sorted.{list_any-IsPermutation, IsPermutation-reverse}
use Rattle.modulename.specs.ModuleName.{is_module_name, means}
use Rattle.envvars.specs.Texts.{Text, has}
use Rattle.envvars.specs.Environment.{Environment}
use Rattle.envstate.specs.loaded_list.Loaded.{Entry, names_of, loaded_in}
use Rattle.filetree.specs.Relations.{Is, Then, If}
use Rattle.modulefile.specs.Records.{Record}
use Rattle.modulefile.specs.Effects as modes
use Rattle.modulefile.specs.Effects.{Mode}
use Rattle.modulefile.specs.Moves.{Move, Loads, Unloads, moved, Fits, MovesReach}
use Rattle.search.specs.Reasons.{bad_name}
use Rattle.search.specs.Found as search
use Rattle.requests.specs.Refusals.{refused_as}
use Rattle.requests.specs.Reasons.{RequestReason, missed, refused_edit, bad_arguments}
use Rattle.requests.specs.Requests.{RequestedAction, load, unload, switch, purge, list, avail, show, whatis}
use Rattle.requests.specs.Conditions.{load_objection, end_objection}
use Rattle.requests.specs.Steps.{RequestContext, Done, nothing_done, with_move, continued, module_of, LoadsFound}
use Rattle.requests.specs.Steps.{LoadsName, UnloadsMeant, last_meant, UnloadsName, ShowsName, shown_text}
use Rattle.requests.specs.Steps.{described_text, Each, NeedsNames, EndsRequest, ChangesLoaded, Switches, ShowsNames}
use Rattle.requests.specs.Steps.{RequestStep, old_name, entries_of, consistent}
use Rattle.requests.proofs.Bound.{bound, ok_of_refused_as, allowed, went_on}

abbrev IsMadeByMoves : Environment → Done → Type 0
IsMadeByMoves e d = MovesReach d.moves e d.env

abbrev AreMadeByMoves : Environment → (Result Done RequestReason → Type 0) → Type 0
AreMadeByMoves e Comes = (d : Done) → Comes (Ok d) → IsMadeByMoves e d

lead_more : (ms : List Move) (m : Move) (e d t : Environment) → MovesReach ms e d → Fits m d → moved m d ≡ Ok t → MovesReach (ms ++ m ∷ []) e t
lead_more [] m e d t h f k = (subst (λ x. Fits m x) h f, (t, subst (λ x. moved m x ≡ Ok t) h k, refl))
lead_more (x ∷ ms) m e d t h f k = (h.0, (h.1.0, h.1.1, lead_more ms m h.1.0 d t h.1.2 f k))

made_went : (e : Environment) (d : Done) (m : Move) (messages : List Text) → Fits m d.env → IsMadeByMoves e d → AreMadeByMoves e (Is (continued d m messages))
made_went e d m messages fits by_moves t h =
    let b = bound (refused_as refused_edit (moved m d.env)) (λ x. Ok (with_move d m messages x)) t (sym h) in
    let same : with_move d m messages b.0 ≡ t = cc in
    subst (λ x. IsMadeByMoves e x) same (lead_more d.moves m e d.env b.0 by_moves fits (ok_of_refused_as refused_edit (moved m d.env) b.0 b.1))

-- the list that was read
list_read : (o : Option (List Entry)) (xs : List Entry) → Ok xs ≡ consistent o → o ≡ Some xs
list_read None xs h = absurd (cc)
list_read (Some ys) xs h = cc

find_step : (p q : Entry → Bool) (y x : Entry) (ys : List Entry) (b : Bool) → cond b (Some y) (find p ys) ≡ Some x
    → q x ≡ true → (find p ys ≡ Some x → list_any q ys ≡ true) → (q y || list_any q ys) ≡ true
find_step p q y x ys true h k r = let g : y ≡ x = cc in or_left (q y) (list_any q ys) (subst (λ z. q z ≡ true) (sym g) k)
find_step p q y x ys false h k r = or_right (q y) (list_any q ys) (r h)

find_any : (p q : Entry → Bool) (xs : List Entry) (x : Entry) → find p xs ≡ Some x → q x ≡ true → list_any q xs ≡ true
find_any p q [] x h k = absurd (cc)
find_any p q (y ∷ ys) x h k = find_step p q y x ys (p y) h k (λ e. find_any p q ys x e k)

found_entry : (p : Entry → Bool) (xs : List Entry) (x : Entry) → find p (reverse xs) ≡ Some x → list_any (λ y. bytes_eq x.name y.name && bytes_eq x.path y.path) xs ≡ true
found_entry p xs x h =
    list_any-IsPermutation (λ y. bytes_eq x.name y.name && bytes_eq x.path y.path) xs (reverse xs) (IsPermutation-reverse xs)
    ∙ find_any p (λ y. bytes_eq x.name y.name && bytes_eq x.path y.path) (reverse xs) x h
    (and_from (bytes_eq x.name x.name) (bytes_eq x.path x.path) ((bytes_eq-Decides x.name x.name).1 refl)
    ((bytes_eq-Decides x.path x.path).1 refl))

made_same : (e : Environment) (d : Done) → IsMadeByMoves e d → AreMadeByMoves e (Is (Ok d))
made_same e d by_moves t h = let same : d ≡ t = cc in subst (λ x. IsMadeByMoves e x) same by_moves

made_then : {A : Type 0} {First : Result A RequestReason → Type 0} {Rest : A → Result Done RequestReason → Type 0}
    (e : Environment) → ((x : A) → First (Ok x) → AreMadeByMoves e (Rest x)) → AreMadeByMoves e (Then First Rest)
made_then {First = First} {Rest = Rest} e all_made t h = let g = went_on First Rest t h in all_made g.0 g.1 t g.2

made_if : (e : Environment) (test : Bool) (Yes No : Result Done RequestReason → Type 0)
    → (test ≡ true → AreMadeByMoves e Yes) → (test ≡ false → AreMadeByMoves e No) → AreMadeByMoves e (If test Yes No)
made_if e true Yes No k l = k refl
made_if e false Yes No k l = l refl

made_refused : (e : Environment) (r : RequestReason) → AreMadeByMoves e (Is (Err r))
made_refused e r t h = absurd (let g : Ok t ≡ Err r = h in cc)

made_found : (s : RequestContext) (w : Bool) (typed : Text) (e : Environment) (d : Done) (xs : List Entry)
    (m : search.FoundModule) → loaded_in d.env ≡ Some xs → IsMadeByMoves e d
    → AreMadeByMoves e (LoadsFound s w typed d xs m)
made_found s w typed e d xs m read by_moves =
    made_if e (has m.name (names_of xs)) _ _ (λ b. made_same e d by_moves) (λ b. made_then e (λ ran h.
    λ t g. made_went e d (Loads (module_of m.name m.path ran)) ran.messages (xs, read, b) by_moves t
    (sym (allowed (load_objection m.name ran.records xs) (continued d (Loads (module_of m.name m.path ran)) ran.messages) t (sym g)).1)))

made_load : (s : RequestContext) (w : Bool) (e : Environment) (typed : Text) (d : Done) → IsMadeByMoves e d → AreMadeByMoves e (LoadsName s w typed d)
made_load s w e typed d by_moves =
    made_then e (λ xs h.
    made_if e (has typed (names_of xs)) _ _ (λ b. made_same e d by_moves) (λ b. made_then e (λ m g.
    made_found s w typed e d xs m (list_read (loaded_in d.env) xs h) by_moves)))

made_meant : (s : RequestContext) (w : Bool) (typed : Text) (e : Environment) (d : Done) (xs : List Entry)
    (p : Entry → Bool) (x : Option Entry) → find p (reverse xs) ≡ x → loaded_in d.env ≡ Some xs → IsMadeByMoves e d
    → AreMadeByMoves e (UnloadsMeant s w typed d xs x)
made_meant s w typed e d xs p None f read by_moves = made_same e d by_moves
made_meant s w typed e d xs p (Some x) f read by_moves =
    made_then e (λ text h. made_then e (λ ran g.
    made_went e d (Unloads (module_of x.name x.path ran)) ran.messages (xs, read, found_entry p xs x f) by_moves))

made_unload : (s : RequestContext) (w : Bool) (e : Environment) (typed : Text) (d : Done) → IsMadeByMoves e d → AreMadeByMoves e (UnloadsName s w typed d)
made_unload s w e typed d by_moves =
    made_then e (λ xs h.
    made_if e (is_module_name typed) _ _ (λ b. made_meant s w typed e d xs (λ x. means typed x.name)
    (last_meant typed xs) refl (list_read (loaded_in d.env) xs h) by_moves)
    (λ b. made_refused e (missed (bad_name typed))))

made_show : (s : RequestContext) (mode : Mode) (text_of : search.FoundModule → List Record → Text) (e : Environment)
    (typed : Text) (d : Done) → IsMadeByMoves e d → AreMadeByMoves e (ShowsName s mode text_of typed d)
made_show s mode text_of e typed d by_moves =
    made_then e (λ xs h. made_then e (λ m g. made_then e (λ ran f. made_same e _ by_moves)))

made_each : (e : Environment) (Does : Text → Done → Result Done RequestReason → Type 0)
    → ((name : Text) (d : Done) → IsMadeByMoves e d → AreMadeByMoves e (Does name d)) → (names : List Text) (d : Done)
    → IsMadeByMoves e d → AreMadeByMoves e (Each Does names d)
made_each e Does all_made [] d by_moves = made_same e d by_moves
made_each e Does all_made (name ∷ names) d by_moves =
    made_then e (λ t h. made_each e Does all_made names t (all_made name d by_moves t h))

made_named : (e : Environment) (names : List Text) (Does : Result Done RequestReason → Type 0) → AreMadeByMoves e Does → AreMadeByMoves e (NeedsNames names Does)
made_named e [] Does all_made = made_refused e bad_arguments
made_named e (name ∷ names) Does all_made = all_made

made_end : (e : Environment) (before : List Entry) (d : Done) → IsMadeByMoves e d → AreMadeByMoves e (EndsRequest before d)
made_end e before d by_moves =
    made_then e (λ after h. λ t g. made_same e d by_moves t (sym (allowed (end_objection before after) (Ok d) t (sym g)).1))

made_changes : (e : Environment) (Does : List Entry → Done → Result Done RequestReason → Type 0)
    → ((before : List Entry) (d : Done) → IsMadeByMoves e d → AreMadeByMoves e (Does before d))
    → AreMadeByMoves e (ChangesLoaded e Does)
made_changes e Does all_made =
    made_then e (λ before h. made_then e (λ d g. made_end e before d (all_made before (nothing_done e) refl d g)))

made_switch : (s : RequestContext) (e : Environment) (old : Option Text) (new : Text) (d : Done) → IsMadeByMoves e d → AreMadeByMoves e (Switches s old new d)
made_switch s e old new d by_moves =
    made_then {First = UnloadsName s true (old_name old new) d} {Rest = LoadsName s true new} e (λ t h. made_load s true e new t (made_unload s true e (old_name old new) d by_moves t h))

made_shown : (s : RequestContext) (mode : Mode) (text_of : search.FoundModule → List Record → Text) (e : Environment) (names : List Text) → AreMadeByMoves e (ShowsNames s mode text_of e names)
made_shown s mode text_of e names =
    made_then {First = Is (entries_of e)} {Rest = λ xs. Each (ShowsName s mode text_of) names (nothing_done e)} e
    (λ xs h. made_each e (ShowsName s mode text_of) (made_show s mode text_of e) names (nothing_done e) refl)

pub led_by_moves : (s : RequestContext) (e : Environment) (asked : RequestedAction) → AreMadeByMoves e (RequestStep s e asked)
led_by_moves s e (load names) =
    made_named e names (ChangesLoaded e (λ before. Each (LoadsName s false) names))
    (made_changes e (λ before. Each (LoadsName s false) names)
    (λ before d by_moves. made_each e (LoadsName s false) (made_load s false e) names d by_moves))
led_by_moves s e (unload names) =
    made_named e names (ChangesLoaded e (λ before. Each (UnloadsName s false) names))
    (made_changes e (λ before. Each (UnloadsName s false) names)
    (λ before d by_moves. made_each e (UnloadsName s false) (made_unload s false e) names d by_moves))
led_by_moves s e (switch old new) =
    made_changes e (λ before. Switches s old new) (λ before d by_moves. made_switch s e old new d by_moves)
led_by_moves s e purge =
    made_changes e (λ before. Each (UnloadsName s false) (reverse (names_of before)))
    (λ before d by_moves. made_each e (UnloadsName s false) (made_unload s false e) (reverse (names_of before)) d
    by_moves)
led_by_moves s e list = made_then e (λ xs h. made_same e _ refl)
led_by_moves s e (avail texts) = λ d h. made_same e _ refl d h.2
led_by_moves s e (show names) = made_named e names (ShowsNames s modes.display shown_text e names) (made_shown s modes.display shown_text e names)
led_by_moves s e (whatis names) = made_named e names (ShowsNames s modes.whatis described_text e names) (made_shown s modes.whatis described_text e names)
