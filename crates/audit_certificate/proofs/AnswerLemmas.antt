-- From the users of each variable to what is answered of each module.
use Rattle.std.proofs.Common.{zero, suc, arith, ◌≡◌, inl, inr, ℕ, ◌+◌, ◌<◌, ◌≤◌, true, false, ◌&&◌, List, [], ◌∷◌, ◌++◌}
use Rattle.std.proofs.Common.{map, length, take, get_or, append_assoc, append-nil, refl, sym, ap, ◌∙◌, subst, Option}
use Rattle.std.specs.Prelude.{bytes_eq, string_bytes}
use Rattle.std.specs.List.{list_any, flat_map}
use Rattle.std.proofs.lemmas.Bool.{false≢true}
use Rattle.std.proofs.lemmas.List.{take_more, take_all, map-append}
use Rattle.std.proofs.lemmas.Grind.{flat_map-append}
use Rattle.envvars.specs.Texts.{Text}
use Rattle.envvars.proofs.TextLemmas.{same_text}
use Rattle.envvars.proofs.EditLemmas.{both_true, and_both}
use Rattle.audit_certificate.specs.Candidates.{Candidate, uses_of}
use Rattle.reversal.specs.VariableUses.{VariableUse, UsedVariable}
use Rattle.audit_certificate.specs.RecordUses.{IsAmong}
use Rattle.audit_certificate.specs.Clashes.{is_other, are_mutually_exclusive, uses_clash, do_clash}
use Rattle.audit_certificate.specs.UseViews.{use_view, used_view}
use Rattle.audit_certificate.specs.declared.uses.UsedVariable as code
use Rattle.audit_certificate.proofs.UsedLemmas.{by_test, by_cases, among_left, among_right, among_either}
use Rattle.audit_certificate.specs.declared.answers.Clash.{Clash}
use Rattle.audit_certificate.specs.Users.{ModuleUse, Enters, EntersAll, AreUsersOf, do_users_clash, uses_of_module}
use Rattle.audit_certificate.specs.Users.{uses_of_modules}
use Rattle.audit_certificate.specs.ClashAnswers.{IsClashBetween, IsClashOf, ClashesWithNone, IsAnswer, AreAnswers}
use Rattle.audit_certificate.specs.EachOnce.{each_once}
use Rattle.audit_certificate.proofs.Members.{fails_each}
use Rattle.audit_certificate.proofs.OnceLemmas.{in_once, of_once}
use Rattle.audit_certificate.proofs.Exact.{to_clashes}
use Rattle.audit_certificate.proofs.TableLemmas.{use_of, some_clash}

-- members of lists that are made of others

pub among_map : {X Y : Type 0} (f : X → Y) (xs : List X) (x : X) → IsAmong x xs → IsAmong (f x) (map f xs)
among_map f [] x h = absurd h
among_map f (y ∷ xs) x (inl e) = inl (ap f e)
among_map f (y ∷ xs) x (inr h) = inr (among_map f xs x h)

pub among_mapped : {X Y : Type 0} (f : X → Y) (xs : List X) (y : Y) → IsAmong y (map f xs) → (x : X) × IsAmong x xs × (y ≡ f x)
among_mapped f [] y h = absurd h
among_mapped f (x ∷ xs) y (inl e) = (x, inl refl, e)
among_mapped f (x ∷ xs) y (inr h) = let r = among_mapped f xs y h in (r.0, inr r.1, r.2)

pub among_of : {X Y : Type 0} (f : X → List Y) (xs : List X) (x : X) (y : Y) → IsAmong x xs → IsAmong y (f x) → IsAmong y (flat_map f xs)
among_of f [] x y h k = absurd h
among_of f (z ∷ xs) x y (inl e) k = among_left y (f z) (flat_map f xs) (subst (λ w. IsAmong y (f w)) e k)
among_of f (z ∷ xs) x y (inr h) k = among_right y (f z) (flat_map f xs) (among_of f xs x y h k)

pub among_some : {X Y : Type 0} (f : X → List Y) (xs : List X) (y : Y) → IsAmong y (flat_map f xs) → (x : X) × IsAmong x xs × IsAmong y (f x)
among_some f [] y h = absurd h
among_some f (x ∷ xs) y h = by_cases (among_either y (f x) (flat_map f xs) h) (λ a. (x, inl refl, a)) (λ b. let r = among_some f xs y b in (r.0, inr r.1, r.2))

pub at_place : {X : Type 0} (xs : List X) (i : ℕ) (x : X) → i < length xs → x ≡ get_or xs i x → IsAmong x xs
at_place [] i x l e = absurd (omega arith)
at_place (y ∷ xs) zero x l e = inl e
at_place (y ∷ xs) (suc i) x l e = inr (at_place xs i x (omega arith) e)

pub map_more : {X Y : Type 0} (f : X → Y) (xs : List X) (i : ℕ) (x : X) → i < length xs → x ≡ get_or xs i x → map f (take (i + 1) xs) ≡ map f (take i xs) ++ f x ∷ []
map_more f xs i x l e = ap (map f) (take_more xs i x l ∙ ap (λ y. take i xs ++ y ∷ []) (sym e)) ∙ map-append f (take i xs) (x ∷ [])

map_through : {X Y Z : Type 0} (f : Y → Z) (g : X → Y) (xs : List X) → map (λ x. f (g x)) xs ≡ map f (map g xs)
map_through f g [] = refl
map_through {X} {Y} {Z} f g (x ∷ xs) = ap (λ (l : List Z). f (g x) ∷ l) (map_through f g xs)

-- what a module uses, as the code has computed it

abbrev pub IsExact : Candidate → List code.UsedVariable → Type 0
IsExact m ps = map used_view ps ≡ each_once (uses_of m)

uses_exact : (m : Candidate) (ps : List code.UsedVariable) → IsExact m ps → map (use_of m) ps ≡ uses_of_module m
uses_exact m ps e = map_through (λ (p : UsedVariable). record { owner = m; used = p }) used_view ps ∙ ap (map (λ (p : UsedVariable). record { owner = m; used = p })) e

-- the same of a loop that has gone through the list
pub uses_through : (m : Candidate) (ps all : List code.UsedVariable) (i : ℕ) → ps ≡ all → length ps ≤ i → IsExact m all → map (use_of m) (take i ps) ≡ uses_of_module m
uses_through m ps all i e l exact = ap (map (use_of m)) (take_all i ps l ∙ e) ∙ uses_exact m all exact

pub use_among : (m : Candidate) (ps all : List code.UsedVariable) (i : ℕ) (p : code.UsedVariable) → ps ≡ all → i < length ps → p ≡ get_or ps i p → IsExact m all → IsAmong (use_of m p) (uses_of_module m)
use_among m ps all i p e l is exact =
    subst (IsAmong (use_of m p)) (ap (map (use_of m)) e ∙ uses_exact m all exact) (among_map (use_of m) ps p (at_place ps i p l is))

-- users that are entered

module _ (old new : Text → List ModuleUse) (x : ModuleUse) (enters : Enters old new x) (all : List ModuleUse) (before : AreUsersOf old all) where
  entered_kept : (y : ModuleUse) → IsAmong y (old y.used.0) → IsAmong y (new y.used.0)
  entered_kept y h = by_test (bytes_eq y.used.0 x.used.0) _
      (λ t. let e : y.used.0 ≡ x.used.0 = same_text y.used.0 x.used.0 t in
      subst (λ (v : Text). IsAmong y (new v)) (sym e) (enters.own.kept y (subst (λ (v : Text). IsAmong y (old v)) e h)))
      (λ t. subst (IsAmong y) (sym (enters.others y.used.0 t)) h)

  entered_complete : (y : ModuleUse) → IsAmong y (all ++ x ∷ []) → IsAmong y (new y.used.0)
  entered_complete y h = by_cases (among_either y all (x ∷ []) h) (λ a. entered_kept y (before.complete y a))
      (λ b. by_cases b (λ e. subst (λ (z : ModuleUse). IsAmong z (new z.used.0)) (sym e) enters.own.added) (λ n. absurd n))

  entered_old : (v : Text) (y : ModuleUse) → IsAmong y (old v) → IsAmong y (all ++ x ∷ []) × (y.used.0 ≡ v)
  entered_old v y h = let s = before.sound v y h in (among_left y all (x ∷ []) s.0, s.1)

  entered_own : (y : ModuleUse) → IsAmong y (new x.used.0) → IsAmong y (all ++ x ∷ []) × (y.used.0 ≡ x.used.0)
  entered_own y h = by_cases (enters.own.only y h) (λ a. entered_old x.used.0 y a)
      (λ e. (among_right y all (x ∷ []) (inl e), ap (λ (z : ModuleUse). z.used.0) e))

  entered_sound : (v : Text) (y : ModuleUse) → IsAmong y (new v) → IsAmong y (all ++ x ∷ []) × (y.used.0 ≡ v)
  entered_sound v y h = by_test (bytes_eq v x.used.0) _
      (λ t. let e : v ≡ x.used.0 = same_text v x.used.0 t in
      let s = entered_own y (subst (λ (w : Text). IsAmong y (new w)) e h) in (s.0, s.1 ∙ sym e))
      (λ t. entered_old v y (subst (IsAmong y) (enters.others v t) h))

enters_one : (old new : Text → List ModuleUse) (x : ModuleUse) → Enters old new x → EntersAll old new (x ∷ [])
enters_one old new x enters all before = record { complete = entered_complete old new x enters all before; sound = entered_sound old new x enters all before }

enters_both : (old mid new : Text → List ModuleUse) (xs ys : List ModuleUse) → EntersAll old mid xs → EntersAll mid new ys → EntersAll old new (xs ++ ys)
enters_both old mid new xs ys h k all before = subst (AreUsersOf new) (append_assoc all xs ys) (k (all ++ xs) (h all before))

pub enters_turn : (old mid new : Text → List ModuleUse) (m : Candidate) (ps : List code.UsedVariable) (i : ℕ) (p : code.UsedVariable) → i < length ps → p ≡ get_or ps i p
    → EntersAll old mid (map (use_of m) (take i ps)) → Enters mid new (use_of m p) → EntersAll old new (map (use_of m) (take (i + 1) ps))
enters_turn old mid new m ps i p l is h k =
    subst (EntersAll old new) (sym (map_more (use_of m) ps i p l is)) (enters_both old mid new (map (use_of m) (take i ps)) (use_of m p ∷ []) h (enters_one mid new (use_of m p) k))

pub no_users : (users : Text → List ModuleUse) → ((v : Text) → users v ≡ []) → AreUsersOf users []
no_users users none = record { complete = λ x h. absurd h; sound = λ v x h. absurd (subst (IsAmong x) (none v) h) }

pub uses_more : {X : Type 0} (view : X → Candidate) (xs : List X) (i : ℕ) (x : X) → i < length xs → x ≡ get_or xs i x
    → uses_of_modules (map view (take (i + 1) xs)) ≡ uses_of_modules (map view (take i xs)) ++ uses_of_module (view x)
uses_more view xs i x l is =
    ap uses_of_modules (map_more view xs i x l is) ∙ (flat_map-append uses_of_module (map view (take i xs)) (view x ∷ [])
    ∙ ap (λ (l : List ModuleUse). uses_of_modules (map view (take i xs)) ++ l) (append-nil (uses_of_module (view x))))

pub table_turn : {X : Type 0} (view : X → Candidate) (old new : Text → List ModuleUse) (xs : List X) (i : ℕ) (x : X) → i < length xs → x ≡ get_or xs i x
    → AreUsersOf old (uses_of_modules (map view (take i xs))) → EntersAll old new (uses_of_module (view x)) → AreUsersOf new (uses_of_modules (map view (take (i + 1) xs)))
table_turn view old new xs i x l is h k = subst (AreUsersOf new) (sym (uses_more view xs i x l is)) (k (uses_of_modules (map view (take i xs))) h)

-- what is found, and what is answered

owner_is : (m : Candidate) (x : ModuleUse) → IsAmong x (uses_of_module m) → IsAmong x.used (uses_of m) × (x.owner ≡ m)
owner_is m x h =
    let r = among_mapped (λ (p : UsedVariable). record { owner = m; used = p }) (each_once (uses_of m)) x h in (
      subst (λ (p : UsedVariable). IsAmong p (uses_of m)) (sym (ap (λ (z : ModuleUse). z.used) r.2)) (of_once r.0 (uses_of m) r.1),
      ap (λ (z : ModuleUse). z.owner) r.2,
    )

owner_listed : (ms : List Candidate) (y : ModuleUse) → IsAmong y (uses_of_modules ms) → IsAmong y.owner ms × IsAmong y.used (uses_of y.owner)
owner_listed ms y h =
    let r = among_some uses_of_module ms y h in
    let o = owner_is r.0 y r.2 in
    (subst (λ (n : Candidate). IsAmong n ms) (sym o.1) r.1, subst (λ (n : Candidate). IsAmong y.used (uses_of n)) (sym o.1) o.0)

pub is_clash : (users : Text → List ModuleUse) (m : Candidate) (x y : ModuleUse) (c : Clash) → IsClashBetween x y c
    → IsAmong x (uses_of_module m) × IsAmong y (users x.used.0) × (do_users_clash x y ≡ true)
    → (ms : List Candidate) → AreUsersOf users (uses_of_modules ms) → IsClashOf ms m c
is_clash users m x y c b found ms all =
    let own = owner_is m x found.0 in
    let s = all.sound x.used.0 y found.1 in
    let theirs = owner_listed ms y s.0 in
    let test : (is_other m y.owner && uses_clash (are_mutually_exclusive m y.owner x.used.1 y.used.1) x.used.1 y.used.1) ≡ true
    = subst (λ (n : Candidate). (is_other n y.owner && uses_clash (are_mutually_exclusive n y.owner x.used.1 y.used.1) x.used.1 y.used.1) ≡ true) own.1 found.2 in
    let both = both_true (is_other m y.owner) (uses_clash (are_mutually_exclusive m y.owner x.used.1 y.used.1) x.used.1 y.used.1) test in
    let first : x.used ≡ (string_bytes c.variable, use_view c.own) = λ i. (sym b.variable i, sym b.own i) in
    let variable : y.used.0 ≡ string_bytes c.variable = s.1 ∙ sym b.variable in
    let second : y.used ≡ (string_bytes c.variable, use_view c.theirs) = λ i. (variable i, sym b.theirs i) in
    record {
      other = y.owner;
      listed = theirs.0;
      another = both.0;
      clash = record {
        first = subst (λ (p : UsedVariable). IsAmong p (uses_of m)) first own.0;
        second = subst (λ (p : UsedVariable). IsAmong p (uses_of y.owner)) second theirs.1;
        clash = ap (λ (z : VariableUse). uses_clash (are_mutually_exclusive m y.owner z (use_view c.theirs)) z (use_view c.theirs)) b.own
            ∙ (ap (λ (z : VariableUse). uses_clash (are_mutually_exclusive m y.owner x.used.1 z) x.used.1 z) b.theirs ∙ both.1);
      };
      name = sym b.name;
      path = sym b.path;
    }

-- two users that are found are of two modules that clash
pub two_clash : (users : Text → List ModuleUse) (m : Candidate) (x y : ModuleUse) → IsAmong x (uses_of_module m) × IsAmong y (users x.used.0) × (do_users_clash x y ≡ true)
    → (ms : List Candidate) → AreUsersOf users (uses_of_modules ms) → (n : Candidate) × IsAmong n ms × (is_other m n ≡ true) × (do_clash m n ≡ true)
two_clash users m x y found ms all =
    let own = owner_is m x found.0 in
    let s = all.sound x.used.0 y found.1 in
    let theirs = owner_listed ms y s.0 in
    let test : (is_other m y.owner && uses_clash (are_mutually_exclusive m y.owner x.used.1 y.used.1) x.used.1 y.used.1) ≡ true
    = subst (λ (n : Candidate). (is_other n y.owner && uses_clash (are_mutually_exclusive n y.owner x.used.1 y.used.1) x.used.1 y.used.1) ≡ true) own.1 found.2 in
    let both = both_true (is_other m y.owner) (uses_clash (are_mutually_exclusive m y.owner x.used.1 y.used.1) x.used.1 y.used.1) test in (
      y.owner,
      theirs.0,
      both.0,
      to_clashes m y.owner x.used.0 x.used.1 y.used.1 (record {
        first = own.0;
        second = subst (λ (v : Text). IsAmong (v, y.used.1) (uses_of y.owner)) s.1 theirs.1;
        clash = both.1;
      }),
    )

pub clashes_with_none : (users : Text → List ModuleUse) (m : Candidate) → some_clash users (uses_of_module m) ≡ false
    → (ms : List Candidate) → AreUsersOf users (uses_of_modules ms) → ClashesWithNone ms m
clashes_with_none users m h ms all n v x y listed other clash =
    let own : ModuleUse = record { owner = m; used = (v, x) } in
    let theirs : ModuleUse = record { owner = n; used = (v, y) } in
    let of_own : IsAmong own (uses_of_module m) = among_map (λ (p : UsedVariable). record { owner = m; used = p }) (each_once (uses_of m)) (v, x) (in_once (v, x) (uses_of m) clash.first) in
    let of_theirs : IsAmong theirs (uses_of_module n) = among_map (λ (p : UsedVariable). record { owner = n; used = p }) (each_once (uses_of n)) (v, y) (in_once (v, y) (uses_of n) clash.second) in
    let none : list_any (do_users_clash own) (users v) ≡ false = fails_each (λ (z : ModuleUse). list_any (do_users_clash z) (users z.used.0)) (uses_of_module m) own h of_own in
    let apart : do_users_clash own theirs ≡ false = fails_each (do_users_clash own) (users v) theirs none (all.complete theirs (among_of uses_of_module ms n theirs listed of_theirs)) in
    false≢true (sym apart ∙ and_both (is_other m n) (uses_clash (are_mutually_exclusive m n x y) x y) other clash.clash)

-- one more answer

answers_push : (ms xs : List Candidate) (answers : List (Option Clash)) (x : Candidate) (a : Option Clash) → AreAnswers ms xs answers → IsAnswer ms x a → AreAnswers ms (xs ++ x ∷ []) (answers ++ a ∷ [])
answers_push ms [] [] x a h k = (k, tt)
answers_push ms [] (b ∷ answers) x a h k = absurd h
answers_push ms (y ∷ xs) [] x a h k = absurd h
answers_push ms (y ∷ xs) (b ∷ answers) x a h k = (h.0, answers_push ms xs answers x a h.1 k)

pub answers_turn : {X : Type 0} (view : X → Candidate) (ms : List Candidate) (xs : List X) (i : ℕ) (x : X) (old new : List (Option Clash)) (a : Option Clash) → i < length xs → x ≡ get_or xs i x
    → new ≡ old ++ a ∷ [] → AreAnswers ms (map view (take i xs)) old → IsAnswer ms (view x) a → AreAnswers ms (map view (take (i + 1) xs)) new
answers_turn view ms xs i x old new a l is e h k =
    subst (λ (l : List Candidate). AreAnswers ms l new) (sym (map_more view xs i x l is))
    (subst (AreAnswers ms (map view (take i xs) ++ view x ∷ [])) (sym e) (answers_push ms (map view (take i xs)) old (view x) a h k))
