-- The users in the table of modules that are taken.
use Rattle.std.proofs.Common.{◌≡◌, ℕ, ◌+◌, ◌<◌, true, false, ◌&&◌, List, [], ◌∷◌, ◌++◌, map, take, length, get_or}
use Rattle.std.proofs.Common.{refl, sym, ap, ◌∙◌, subst, append-nil}
use Rattle.std.specs.List.{fold}
use Rattle.std.specs.List.Sorted.{IsPermutation, IsSortedBy}
use Rattle.std.specs.Ordering.{is_lt}
use Rattle.std.proofs.lemmas.Bool.{and_parts, and_from}
use Rattle.std.proofs.lemmas.Grind.{flat_map-append}
use Rattle.std.proofs.lemmas.List.{take_more, map-append}
use Rattle.envvars.specs.Texts.{Text}
use Rattle.audit_certificate.specs.Candidates.{Candidate}
use Rattle.audit_certificate.specs.RecordUses.{IsAmong}
use Rattle.audit_certificate.specs.Clashes.{is_other, do_clash}
use Rattle.audit_certificate.specs.Users.{ModuleUse, AreUsersOf, EntersAll, uses_of_module, uses_of_modules, do_users_clash}
use Rattle.audit_certificate.specs.Certificates.{selected}
use Rattle.audit_certificate.specs.RankedModule.{ranked_module, ranked_order, AreRanked, clashes_among, with_next, taken}
use Rattle.audit_certificate.specs.Takes.{TakesNext}
use Rattle.audit_certificate.specs.declared.ranks.RankedModule.{RankedModule}
use Rattle.audit_certificate.proofs.UsedLemmas.{by_test}
use Rattle.audit_certificate.proofs.Taken.{taken_stay, ranks_in_order}
use Rattle.audit_certificate.proofs.Exact.{any_some, some_any, clashes}
use Rattle.audit_certificate.proofs.TableLemmas.{some_clash}
use Rattle.audit_certificate.proofs.AnswerLemmas.{among_of, among_some, clashes_with_none, two_clash}

-- a module that clashes with one of them
next_passed_by : (users : Text → List ModuleUse) (m : Candidate) (x y : ModuleUse)
    → IsAmong x (uses_of_module m) × IsAmong y (users x.used.0) × (do_users_clash x y ≡ true)
    → (ms : List Candidate) → AreUsersOf users (uses_of_modules ms) → with_next ms m ≡ ms
next_passed_by users m x y found ms all =
    let c = two_clash users m x y found ms all in
    let t : clashes_among ms m ≡ true = some_any (λ n. is_other m n && do_clash m n) ms c.0 c.1 (and_from (is_other m c.0) (do_clash m c.0) c.2 c.3) in
    rw t refl

pub next_passed : (users : Text → List ModuleUse) (m : Candidate) (p : ModuleUse × ModuleUse)
    → IsAmong p.0 (uses_of_module m) × IsAmong p.1 (users p.0.used.0) × (do_users_clash p.0 p.1 ≡ true) → TakesNext users users m
next_passed users m p found ms all = subst (λ (l : List Candidate). AreUsersOf users (uses_of_modules l)) (sym (next_passed_by users m p.0 p.1 found ms all)) all

-- a module that clashes with none
pub next_entered : (old new : Text → List ModuleUse) (m : Candidate) → some_clash old (uses_of_module m) ≡ false → EntersAll old new (uses_of_module m) → TakesNext old new m
next_entered old new m h enters ms all =
    let none : clashes_among ms m ≡ false = by_test (clashes_among ms m) _
    (λ t. let s = any_some (λ n. is_other m n && do_clash m n) ms t in
    let p = and_parts (is_other m s.0) (do_clash m s.0) s.2 in
    let k = clashes m s.0 p.1 in
    absurd (clashes_with_none old m h ms all s.0 k.variable k.one k.other s.1 p.0 k.clash))
    (λ f. f) in
    let next : with_next ms m ≡ ms ++ m ∷ [] = rw none refl in
    let uses : uses_of_modules (ms ++ m ∷ []) ≡ uses_of_modules ms ++ uses_of_module m
    = flat_map-append uses_of_module ms (m ∷ []) ∙ ap (λ (l : List ModuleUse). uses_of_modules ms ++ l) (append-nil (uses_of_module m)) in
    subst (AreUsersOf new) (sym (ap uses_of_modules next ∙ uses)) (enters (uses_of_modules ms) all)

-- one module more in their order

fold_last : (ms : List Candidate) (done : List Candidate) (m : Candidate) → fold with_next done (ms ++ m ∷ []) ≡ with_next (fold with_next done ms) m
fold_last [] done m = refl
fold_last (n ∷ ms) done m = fold_last ms (with_next done n) m

pub taken_turn : (old new : Text → List ModuleUse) (xs : List RankedModule) (i : ℕ) (x : RankedModule) → i < length xs → x ≡ get_or xs i x
    → AreUsersOf old (uses_of_modules (taken (map ranked_module (take i xs)))) → TakesNext old new (ranked_module x)
    → AreUsersOf new (uses_of_modules (taken (map ranked_module (take (i + 1) xs))))
taken_turn old new xs i x l is h k =
    let more : map ranked_module (take (i + 1) xs) ≡ map ranked_module (take i xs) ++ ranked_module x ∷ []
    = ap (map ranked_module) (take_more xs i x l ∙ ap (λ y. take i xs ++ y ∷ []) (sym is)) ∙ map-append ranked_module (take i xs) (x ∷ []) in
    subst (λ (ms : List Candidate). AreUsersOf new (uses_of_modules ms)) (sym (ap taken more ∙ fold_last (map ranked_module (take i xs)) [] (ranked_module x)))
    (k (taken (map ranked_module (take i xs))) h)

-- users of the same modules
pub users_moved : (users : Text → List ModuleUse) (ms ns : List Candidate) → ((m : Candidate) → IsAmong m ms → IsAmong m ns) → ((m : Candidate) → IsAmong m ns → IsAmong m ms)
    → AreUsersOf users (uses_of_modules ms) → AreUsersOf users (uses_of_modules ns)
users_moved users ms ns f g all = record {
  complete = λ x a. let s = among_some uses_of_module ns x a in all.complete x (among_of uses_of_module ms s.0 x (g s.0 s.1) s.2);
  sound = λ v x a. let p = all.sound v x a in let s = among_some uses_of_module ms x p.0 in (among_of uses_of_module ns s.0 x (f s.0 s.1) s.2, p.1);
}

-- the users of the taken ones are those of the modules that are selected
pub staying_users : (users : Text → List ModuleUse) (ms : List Candidate) (ranks : List RankedModule) → IsPermutation ms (map ranked_module ranks) → AreRanked ms ranks
    → IsSortedBy (λ (r s : RankedModule). is_lt (ranked_order r s)) ranks → AreUsersOf users (uses_of_modules (taken (map ranked_module ranks))) → AreUsersOf users (uses_of_modules (selected ms))
staying_users users ms ranks same ranked sorted all =
    let all_ranks = map ranked_module ranks in
    let stay = taken_stay ms all_ranks same (ranks_in_order ms ranks ranked sorted) in
    users_moved users (taken all_ranks) (selected ms) (λ m. (stay m).0) (λ m. (stay m).1) all
