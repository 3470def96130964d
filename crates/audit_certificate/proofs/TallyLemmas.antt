-- Counts of users: one more of them, those that are compatible with one, and those whose versions are excluded.
use Rattle.std.proofs.Common.{arith, ◌≡◌, ℕ, zero, suc, ◌+◌, ◌-◌, ◌<◌, Bool, true, false, cond, not, ◌&&◌, List, [], ◌∷◌, ◌++◌, map, take}
use Rattle.std.proofs.Common.{length, get_or, Bor, ◌||◌, refl, sym, ap, ◌∙◌, subst, append_assoc, append-nil, Option, Some, None}
use Rattle.std.specs.Prelude.{bytes_eq}
use Rattle.std.specs.List.{count_by, sum_by, IsDistinct, AllByRecursion}
use Rattle.std.specs.Option.{option_map, option_map_or, option_eq}
use Rattle.std.proofs.lemmas.Bool.{false≢true, and_parts}
use Rattle.std.proofs.lemmas.List.Sums.{sum_by-cons, sum_by_push}
use Rattle.std.proofs.lemmas.List.Folds.{list_any-append}
use Rattle.std.proofs.lemmas.List.{take_more}
use Rattle.indexmap.specs.IndexMap.{IndexMap, get_by, Updates}
use Rattle.envvars.specs.Texts.{Text, has}
use Rattle.envvars.proofs.TextLemmas.{same_text, bytes_eq-symmetric}
use Rattle.modulefile.specs.Records.{conflict_names}
use Rattle.audit_certificate.specs.Candidates.{Candidate}
use Rattle.reversal.specs.VariableUses.{VariableUse, Untouched, Fixed, Absent, Pathed, Stacked}
use Rattle.audit_certificate.specs.RecordUses.{same_use, is_read}
use Rattle.audit_certificate.specs.Clashes.{are_compatible}
use Rattle.audit_certificate.specs.declared.uses.UsedVariable as code
use Rattle.audit_certificate.specs.Users.{ModuleUse, first_part, uses_of_module, uses_of_modules}
use Rattle.audit_certificate.proofs.TableLemmas.{use_of}
use Rattle.audit_certificate.proofs.AnswerLemmas.{map_more, uses_more}
use Rattle.audit_certificate.specs.Ranks.{is_competitor, excludes_versions}
use Rattle.audit_certificate.specs.UseKeys.{key_view}
use Rattle.audit_certificate.specs.declared.keys.UseKey.{UseKey}
use Rattle.audit_certificate.specs.declared.tally.UsageCount.{UsageCount as CodeCounted}
use Rattle.audit_certificate.specs.contracts.tally.UsageCountPartialEq.TheImpl as UsageCountEq
use Rattle.audit_certificate.specs.contracts.keys.UseKeyPartialEq.TheImpl as UseKeyEq
use Rattle.audit_certificate.specs.declared.tally.Tally.{Tally}
use Rattle.audit_certificate.specs.Tallies.{UsageCount, is_counted, counted_view, same_views, same_counted, counted_at, HasCounts, CountsMore}
use Rattle.audit_certificate.specs.Tallies.{CountsOne, is_user, is_excluded_user, is_other_user, is_open_competitor}
use Rattle.audit_certificate.proofs.ConflictLemmas.{any_key}
use Rattle.audit_certificate.proofs.UsedLemmas.{by_test}
use Rattle.audit_certificate.proofs.Exact.{use_same, use_itself, is_untouched}
use Rattle.audit_certificate.proofs.Staying.{go_equal}
use Rattle.audit_certificate.proofs.OnceLemmas.{use_keys_same}

-- ---- counting

pub count_alike : {X : Type 0} (p q : X → Bool) (xs : List X) → ((x : X) → p x ≡ q x) → count_by p xs ≡ count_by q xs
count_alike p q [] h = refl
count_alike p q (x ∷ xs) h =
    sum_by-cons (λ y. cond (p y) 1 0) x xs
    ∙ ((λ i. cond (h x i) 1 0 + count_alike p q xs h i) ∙ sym (sum_by-cons (λ y. cond (q y) 1 0) x xs))

parted : (a b : Bool) → (let n : ℕ = cond (a && not b) 1 0 in n) + cond (a && b) 1 0 ≡ cond a 1 0
parted true true = refl
parted true false = refl
parted false b = refl

crossed : (a b c d : ℕ) → (a + b) + (c + d) ≡ (a + c) + (b + d)
crossed a b c d = omega arith

count_parted : {X : Type 0} (p t : X → Bool) (xs : List X) → count_by (λ x. p x && not (t x)) xs + count_by (λ x. p x && t x) xs ≡ count_by p xs
count_parted p t [] = refl
count_parted p t (x ∷ xs) =
    (λ i. sum_by-cons (λ y. cond (p y && not (t y)) 1 0) x xs i + sum_by-cons (λ y. cond (p y && t y) 1 0) x xs i)
    ∙ (crossed (cond (p x && not (t x)) 1 0) (count_by (λ y. p y && not (t y)) xs) (cond (p x && t x) 1 0) (count_by (λ y. p y && t y) xs)
    ∙ ((λ i. parted (p x) (t x) i + count_parted p t xs i) ∙ sym (sum_by-cons (λ y. cond (p y) 1 0) x xs)))

less : (a b c : ℕ) → a + b ≡ c → a ≡ c - b
less a b c h = omega (arith, h)

pub count_without : {X : Type 0} (p t : X → Bool) (xs : List X) → count_by (λ x. p x && not (t x)) xs ≡ count_by p xs - count_by (λ x. p x && t x) xs
count_without p t xs = less (count_by (λ x. p x && not (t x)) xs) (count_by (λ x. p x && t x) xs) (count_by p xs) (count_parted p t xs)

-- ---- keys

abbrev pub code_eq : CodeCounted → CodeCounted → Bool
code_eq = UsageCountEq.eq-value.it

uses_seen : (a b : Option UseKey) → option_eq UseKeyEq.eq-value.it a b ≡ option_eq same_use (option_map key_view a) (option_map key_view b)
uses_seen None None = refl
uses_seen None (Some y) = refl
uses_seen (Some x) None = refl
uses_seen (Some x) (Some y) = use_keys_same x y

roots_seen : (a b : Option (Bor Text)) → option_eq (λ x y. bytes_eq x.now y.now) a b ≡ option_eq bytes_eq (option_map (λ r. r.now) a) (option_map (λ r. r.now) b)
roots_seen None None = refl
roots_seen None (Some y) = refl
roots_seen (Some x) None = refl
roots_seen (Some x) (Some y) = refl

code_same : (c d : CodeCounted) → code_eq c d ≡ same_counted c d
code_same c d = λ i. bytes_eq c.variable.now d.variable.now && (uses_seen c.used d.used i && roots_seen c.root d.root i)

option_is : {X : Type 0} (eq : X → X → Bool) → ((x y : X) → eq x y ≡ true → x ≡ y) → (a b : Option X) → option_eq eq a b ≡ true → a ≡ b
option_is eq h None None t = refl
option_is eq h None (Some y) t = absurd (false≢true t)
option_is eq h (Some x) None t = absurd (false≢true t)
option_is eq h (Some x) (Some y) t = ap Some (h x y t)

views_same : (c d : UsageCount) → same_views c d ≡ true → c ≡ d
views_same c d h =
    let p = and_parts (bytes_eq c.variable d.variable) (option_eq same_use c.used d.used && option_eq bytes_eq c.root d.root) h in
    let q = and_parts (option_eq same_use c.used d.used) (option_eq bytes_eq c.root d.root) p.1 in
    let v = same_text c.variable d.variable p.0 in
    let u = option_is same_use use_same c.used d.used q.0 in
    let r = option_is bytes_eq same_text c.root d.root q.1 in
    λ i. record { variable = v i; used = u i; root = r i }

-- ---- one more of a kind

abbrev Counts : Type 0 → Type 0
Counts S = IndexMap CodeCounted ℕ S

abbrev count_of : Option ℕ → ℕ
count_of o = option_map_or (λ n. n) o 0

abbrev at : {S : Type 0} → Counts S → CodeCounted → ℕ
at m c = count_of (get_by (same_counted c) m)

pub found_at : {S : Type 0} (m : Counts S) (c : CodeCounted) → get_by (code_eq c) m ≡ get_by (same_counted c) m
found_at m c = ap (λ (t : CodeCounted → Bool). get_by t m) (λ i d. code_same c d i)

same_at : {S : Type 0} (m : Counts S) (k c : CodeCounted) → same_counted k c ≡ true → at m k ≡ at m c
same_at m k c h = ap (λ (v : UsageCount). count_of (get_by (λ d. same_views v (counted_view d)) m)) (views_same (counted_view k) (counted_view c) h)

none_more : (n : ℕ) → n ≡ n + 0
none_more n = omega arith

pub one_counted : {S : Type 0} (m n : Counts S) (k : CodeCounted) (w : ℕ) → Updates code_eq m n k (Some w) → w ≡ at m k + 1 → (c : CodeCounted) → at n c ≡ at m c + cond (same_counted k c) 1 0
one_counted m n k w h e c = by_test (same_counted k c) _
    (λ t. here ∙ (ap (λ (b : Bool). count_of (cond b (Some w) (get_by (code_eq c) m))) (code_same k c ∙ t)
    ∙ (e ∙ (ap (λ x. x + 1) (same_at m k c t) ∙ ap (λ (b : Bool). at m c + cond b 1 0) (sym t)))))
    (λ f. here ∙ (ap (λ (b : Bool). count_of (cond b (Some w) (get_by (code_eq c) m))) (code_same k c ∙ f)
    ∙ (ap count_of (found_at m c) ∙ (none_more (at m c) ∙ ap (λ (b : Bool). at m c + cond b 1 0) (sym f)))))
  where
    here : at n c ≡ count_of (cond (code_eq k c) (Some w) (get_by (code_eq c) m))
    here = ap count_of (sym (found_at n c) ∙ h.0 c)

-- ---- one more user

use_turned : (x y : VariableUse) → same_use x y ≡ same_use y x
use_turned x y = by_test (same_use x y) _
    (λ t. let e : x ≡ y = use_same x y t in λ i. same_use (e i) (sym e i))
    (λ f. by_test (same_use y x) _
    (λ t. let e : y ≡ x = use_same y x t in λ i. same_use (sym e i) (e i)) (λ g. f ∙ sym g))

abbrev bit : Bool → ℕ
bit b = cond b 1 0

four : (b n s m t : Bool) → (n && s) ≡ false → (m && t) ≡ false
    → bit (b && (n && m)) + bit (b && (n && t)) + bit (b && (s && m)) + bit (b && (s && t)) ≡ bit (b && ((n || s) && (m || t)))
four false n s m t h k = refl
four true true true m t h k = absurd (false≢true (sym h))
four true n s true true h k = absurd (false≢true (sym k))
four true true false true false h k = refl
four true true false false true h k = refl
four true true false false false h k = refl
four true false true true false h k = refl
four true false true false true h k = refl
four true false true false false h k = refl
four true false false true false h k = refl
four true false false false true h k = refl
four true false false false false h k = refl

parts : {X : Type 0} (eq : X → X → Bool) → ((x y : X) → eq x y ≡ eq y x) → (y : X) (o : Option X)
    → ((option_eq eq None o && option_eq eq (Some y) o) ≡ false) × ((option_eq eq None o || option_eq eq (Some y) o) ≡ option_map_or (λ x. eq x y) o true)
parts eq h y None = (refl, refl)
parts eq h y (Some x) = (refl, h y x)

abbrev key_at : ModuleUse → Option VariableUse → Option Text → UsageCount
key_at u used root = record { variable = u.used.0; used = used; root = root }

four_keys : (u : ModuleUse) (c : UsageCount)
    → bit (same_views (key_at u None None) c) + bit (same_views (key_at u None (Some (first_part u.owner.name))) c)
    + bit (same_views (key_at u (Some u.used.1) None) c) + bit (same_views (key_at u (Some u.used.1) (Some (first_part u.owner.name))) c) ≡ bit (is_counted c u)
four_keys u c =
    let p = parts same_use use_turned u.used.1 c.used in
    let q = parts bytes_eq bytes_eq-symmetric (first_part u.owner.name) c.root in
    four (bytes_eq u.used.0 c.variable) (option_eq same_use None c.used) (option_eq same_use (Some u.used.1) c.used)
    (option_eq bytes_eq None c.root) (option_eq bytes_eq (Some (first_part u.owner.name)) c.root) p.0 q.0
    ∙ (λ i. bit (bytes_eq-symmetric u.used.0 c.variable i && (p.1 i && q.1 i)))

in_one : (n a b c d : ℕ) → (((n + a) + b) + c) + d ≡ n + (a + b + c + d)
in_one n a b c d = omega arith

-- a tally with one more of each of these four has one more user
pub four_counted : (a b c d e : Tally) (k l m n : CodeCounted) (u : ModuleUse) → CountsOne a b k → CountsOne b c l → CountsOne c d m → CountsOne d e n
    → counted_view k ≡ key_at u None None → counted_view l ≡ key_at u None (Some (first_part u.owner.name))
    → counted_view m ≡ key_at u (Some u.used.1) None → counted_view n ≡ key_at u (Some u.used.1) (Some (first_part u.owner.name))
    → CountsMore a e (u ∷ [])
four_counted a b c d e k l m n u h i j o ke le me ne users have key =
    let view = counted_view key in
    let first : bit (same_counted k key) ≡ bit (same_views (key_at u None None) view) = ap (λ (v : UsageCount). bit (same_views v view)) ke in
    let second : bit (same_counted l key) ≡ bit (same_views (key_at u None (Some (first_part u.owner.name))) view) = ap (λ (v : UsageCount). bit (same_views v view)) le in
    let third : bit (same_counted m key) ≡ bit (same_views (key_at u (Some u.used.1) None) view) = ap (λ (v : UsageCount). bit (same_views v view)) me in
    let fourth : bit (same_counted n key) ≡ bit (same_views (key_at u (Some u.used.1) (Some (first_part u.owner.name))) view) = ap (λ (v : UsageCount). bit (same_views v view)) ne in
    let before : ℕ = count_by (is_counted view) users in
    o key
    ∙ (ap (λ x. x + bit (same_counted n key)) (j key ∙ ap (λ x. x + bit (same_counted m key)) (i key ∙ ap (λ x. x + bit (same_counted l key)) (h key ∙ ap (λ x. x + bit (same_counted k key)) (have key))))
    ∙ (in_one before (bit (same_counted k key)) (bit (same_counted l key)) (bit (same_counted m key)) (bit (same_counted n key))
    ∙ (ap (λ x. before + x) ((λ z. first z + second z + third z + fourth z) ∙ four_keys u view)
    ∙ sym (sum_by_push (λ (x : ModuleUse). cond (is_counted view x) 1 0) users u))))

pub more_counted : (a b c : Tally) (xs ys : List ModuleUse) → CountsMore a b xs → CountsMore b c ys → CountsMore a c (xs ++ ys)
more_counted a b c xs ys h k users have = subst (HasCounts c) (append_assoc users xs ys) (k (users ++ xs) (h users have))

pub none_counted : (a : Tally) → CountsMore a a []
none_counted a users have = subst (HasCounts a) (sym (append-nil users)) have

-- ---- users of others, and competitors

and_true : (a b : Bool) → (a && (b && true)) ≡ (a && b)
and_true true true = refl
and_true true false = refl
and_true false b = refl

-- how many have one of some names that are apart, one name more
count_either : {X : Type 0} (p t s : X → Bool) (xs : List X) → ((x : X) → s x ≡ true → t x ≡ false)
    → count_by (λ x. p x && (t x || s x)) xs ≡ count_by (λ x. p x && t x) xs + count_by (λ x. p x && s x) xs
count_either p t s xs h =
    sym (count_parted (λ x. p x && (t x || s x)) s xs)
    ∙ (λ i. count_alike (λ x. (p x && (t x || s x)) && not (s x)) (λ x. p x && t x) xs (λ x. first (p x) (t x) (s x) (h x)) i
    + count_alike (λ x. (p x && (t x || s x)) && s x) (λ x. p x && s x) xs (λ x. second (p x) (t x) (s x)) i)
  where
    first : (a b c : Bool) → (c ≡ true → b ≡ false) → ((a && (b || c)) && not c) ≡ (a && b)
    first true true true h = sym (h refl)
    first true false true h = refl
    first true true false h = refl
    first true false false h = refl
    first false b c h = refl

    second : (a b c : Bool) → ((a && (b || c)) && c) ≡ (a && c)
    second true true true = refl
    second true false true = refl
    second true true false = refl
    second true false false = refl
    second false b c = refl

-- a key isn't among those before it
not_before : (ks : List (Bor Text)) (i : ℕ) (d : Bor Text) → i < length ks
    → IsDistinct (λ x y. bytes_eq x.now y.now) ks → any_key (get_or ks i d).now (take i ks) ≡ false
unfolding IsDistinct
not_before [] i d l u = absurd (omega (arith, l))
not_before (x ∷ ks) zero d l u = refl
not_before (x ∷ ks) (suc i) d l u =
    λ j. (bytes_eq-symmetric (get_or ks i d).now x.now ∙ apart x ks i d (omega (arith, l)) u.0) j || not_before ks i d (omega (arith, l)) u.1 j
  where
    apart : (x : Bor Text) (ks : List (Bor Text)) (i : ℕ) (d : Bor Text) → i < length ks
        → AllByRecursion (λ y. bytes_eq x.now y.now ≡ false) ks → bytes_eq x.now (get_or ks i d).now ≡ false
    apart x [] i d l a = absurd (omega (arith, l))
    apart x (y ∷ ks) zero d l a = a.0
    apart x (y ∷ ks) (suc i) d l a = apart x ks i d (omega (arith, l)) a.1

excluded_at : (a b c : Bool) → ((a && (b && true)) && c) ≡ (a && (b && c))
excluded_at true true c = refl
excluded_at true false c = refl
excluded_at false b c = refl

or_false : (b : Bool) → (b || false) ≡ b
or_false true = refl
or_false false = refl

-- one name more of those that are excluded
pub excluded_turn : (v : Text) (used : Option VariableUse) (us : List ModuleUse) (ks : List (Bor Text)) (i : ℕ) (d : Bor Text) (a b c : ℕ)
    → i < length ks → IsDistinct (λ x y. bytes_eq x.now y.now) ks
    → a ≡ count_by (is_excluded_user v used (λ name. any_key name (take i ks))) us
    → b ≡ count_by (is_counted (record { variable = v; used = used; root = Some (get_or ks i d).now })) us → c ≡ a + b
    → c ≡ count_by (is_excluded_user v used (λ name. any_key name (take (i + 1) ks))) us
excluded_turn v used us ks i d a b c l u h j e =
    e ∙ ((λ z. h z + (j ∙ count_alike _ _ us (λ y. counted y)) z)
    ∙ (sym (count_either (is_user v used) before now us (λ y t. apart y t))
    ∙ count_alike _ _ us (λ y. ap (λ (b : Bool). is_user v used y && b) (more y))))
  where
    root : ModuleUse → Text
    root y = first_part y.owner.name

    before : ModuleUse → Bool
    before y = any_key (root y) (take i ks)

    now : ModuleUse → Bool
    now y = bytes_eq (get_or ks i d).now (root y)

    counted : (y : ModuleUse) → is_counted (record { variable = v; used = used; root = Some (get_or ks i d).now }) y ≡ (is_user v used y && now y)
    counted y = sym (excluded_at (bytes_eq v y.used.0) (option_map_or (λ x. same_use x y.used.1) used true) (now y))

    apart : (y : ModuleUse) → now y ≡ true → before y ≡ false
    apart y t = ap (λ (n : Text). any_key n (take i ks)) (sym (same_text (get_or ks i d).now (root y) t)) ∙ not_before ks i d l u

    more : (y : ModuleUse) → (before y || now y) ≡ any_key (root y) (take (i + 1) ks)
    more y =
        ap (λ (b : Bool). before y || b) (bytes_eq-symmetric (get_or ks i d).now (root y) ∙ sym (or_false (bytes_eq (root y) (get_or ks i d).now)))
        ∙ (sym (list_any-append (λ z. bytes_eq (root y) z.now) (take i ks) (get_or ks i d ∷ []))
        ∙ ap (any_key (root y)) (sym (take_more ks i d l)))

nought : (b : Bool) (n : ℕ) → cond (b && false) 1 0 + n ≡ n
nought true n = omega arith
nought false n = omega arith

-- none is excluded where no name is
pub none_excluded : (v : Text) (used : Option VariableUse) (us : List ModuleUse) → (let n : ℕ = 0 in n) ≡ count_by (is_excluded_user v used (λ name. any_key name [])) us
none_excluded v used [] = refl
none_excluded v used (y ∷ us) =
    none_excluded v used us ∙ sym (sum_by-cons (λ z. cond (is_user v used z && false) 1 0) y us ∙ nought (is_user v used y) (count_by (is_excluded_user v used (λ name. any_key name [])) us))

-- the others are those that aren't excluded
pub others_left : (v : Text) (used : Option VariableUse) (excluded : Text → Bool) (us : List ModuleUse) (n m : ℕ)
    → n ≡ count_by (is_user v used) us → m ≡ count_by (is_excluded_user v used excluded) us
    → n - m ≡ count_by (is_other_user v used excluded) us
others_left v used excluded us n m h k =
    (λ i. h i - k i) ∙ sym (count_without (is_user v used) (λ y. excluded (first_part y.owner.name)) us)

go_itself : (x y : VariableUse) → are_compatible x x ≡ true → are_compatible x y ≡ same_use x y
go_itself x y h = by_test (same_use x y) _
    (λ t. let e : x ≡ y = use_same x y t in ap (are_compatible x) (sym e) ∙ (h ∙ sym t))
    (λ f. by_test (are_compatible x y) _
    (λ g. absurd (false≢true (sym f ∙ (ap (same_use x) (sym (go_equal x y g)) ∙ use_itself x))))
    (λ g. g ∙ sym f))

go_alone : (x y : VariableUse) → are_compatible x x ≡ false → are_compatible x y ≡ false
go_alone x y h = by_test (are_compatible x y) _
    (λ t. absurd (false≢true (sym h ∙ (ap (are_compatible x) (go_equal x y t) ∙ t))))
    (λ f. f)

competitor_at : (b g s : Bool) → ((b && (true && true)) && not s) && not g ≡ (b && (not g && not s))
competitor_at true true true = refl
competitor_at true true false = refl
competitor_at true false true = refl
competitor_at true false false = refl
competitor_at false g s = refl

alike_at : (b t s : Bool) → ((b && (t && true)) && not s) ≡ (((b && (true && true)) && not s) && t)
alike_at true true true = refl
alike_at true true false = refl
alike_at true false true = refl
alike_at true false false = refl
alike_at false t s = refl

all_competitors : (b g s : Bool) → g ≡ false → ((b && (true && true)) && not s) ≡ (b && (not g && not s))
all_competitors true g true h = rw h refl
all_competitors true g false h = rw h refl
all_competitors false g s h = refl

-- what the conflicts exclude, by another test of names
competitors_by : (x : ModuleUse) (excluded : Text → Bool) (us : List ModuleUse) → ((name : Text) → excluded name ≡ has name (conflict_names x.owner.records))
    → count_by (λ y. bytes_eq x.used.0 y.used.0 && (not (are_compatible x.used.1 y.used.1) && not (excluded (first_part y.owner.name)))) us ≡ count_by (is_open_competitor x) us
competitors_by x excluded us e = count_alike _ _ us (λ y. ap (λ (b : Bool). bytes_eq x.used.0 y.used.0 && (not (are_compatible x.used.1 y.used.1) && not b)) (e (first_part y.owner.name)))

-- where its use is compatible with none
pub competitors_all : (x : ModuleUse) (excluded : Text → Bool) (us : List ModuleUse) (n : ℕ) → ((name : Text) → excluded name ≡ has name (conflict_names x.owner.records))
    → are_compatible x.used.1 x.used.1 ≡ false → n ≡ count_by (is_other_user x.used.0 None excluded) us → n ≡ count_by (is_open_competitor x) us
competitors_all x excluded us n e h k =
    k ∙ (count_alike _ _ us (λ y. all_competitors (bytes_eq x.used.0 y.used.0) (are_compatible x.used.1 y.used.1) (excluded (first_part y.owner.name)) (go_alone x.used.1 y.used.1 h))
    ∙ competitors_by x excluded us e)

-- where it is compatible with the same use
pub competitors_without : (x : ModuleUse) (excluded : Text → Bool) (us : List ModuleUse) (n m : ℕ) → ((name : Text) → excluded name ≡ has name (conflict_names x.owner.records))
    → are_compatible x.used.1 x.used.1 ≡ true → n ≡ count_by (is_other_user x.used.0 None excluded) us → m ≡ count_by (is_other_user x.used.0 (Some x.used.1) excluded) us
    → n - m ≡ count_by (is_open_competitor x) us
competitors_without x excluded us n m e h k l =
    let others = is_other_user x.used.0 None excluded in
    let same : ModuleUse → Bool = λ y. same_use x.used.1 y.used.1 in
    let out : ModuleUse → Bool = λ y. excluded (first_part y.owner.name) in
    (λ i. k i - (l ∙ count_alike _ (λ y. others y && same y) us (λ y. alike_at (bytes_eq x.used.0 y.used.0) (same y) (out y))) i)
    ∙ (sym (count_without others same us)
    ∙ (count_alike _ _ us (λ y. ap (λ (b : Bool). others y && not b) (sym (go_itself x.used.1 y.used.1 h)) ∙ competitor_at (bytes_eq x.used.0 y.used.0) (are_compatible x.used.1 y.used.1) (out y))
    ∙ competitors_by x excluded us e))

-- so they are the competitors of one that doesn't read
pub competitors_open : (x : ModuleUse) (us : List ModuleUse) (n : ℕ) → is_read x.used.1 ≡ false → n ≡ count_by (is_open_competitor x) us → n ≡ count_by (is_competitor x) us
competitors_open x us n r h =
    h ∙ count_alike _ _ us (λ y. sym (ap (λ (b : Bool). bytes_eq x.used.0 y.used.0 && (not (are_compatible x.used.1 y.used.1) && (b || not (excludes_versions x.owner y.owner)))) r))

-- all that use the variable otherwise are the competitors of one that reads it

read_goes : (y : VariableUse) → are_compatible Untouched y ≡ same_use Untouched y
read_goes Untouched = refl
read_goes (Fixed a) = refl
read_goes Absent = refl
read_goes (Pathed d) = refl
read_goes Stacked = refl

reader_competitor : (b g t : Bool) → g ≡ t → ((b && (true && true)) && not (b && (t && true))) ≡ (b && (not g && true))
reader_competitor true g true e = rw e refl
reader_competitor true g false e = rw e refl
reader_competitor false g t e = refl

in_both : (b t : Bool) → (b && (t && true)) ≡ ((b && (true && true)) && (b && (t && true)))
in_both true t = refl
in_both false t = refl

pub competitors_of_reader : (x : ModuleUse) (us : List ModuleUse) → is_read x.used.1 ≡ true
    → count_by (is_user x.used.0 None) us - count_by (is_user x.used.0 (Some Untouched)) us ≡ count_by (is_competitor x) us
competitors_of_reader x us r =
    (λ i. count_by all us - count_alike readers (λ y. all y && readers y) us both i)
    ∙ (sym (count_without all readers us) ∙ count_alike _ _ us (λ y. one y))
  where
    all : ModuleUse → Bool
    all y = is_user x.used.0 None y

    readers : ModuleUse → Bool
    readers y = is_user x.used.0 (Some Untouched) y

    both : (y : ModuleUse) → readers y ≡ (all y && readers y)
    both y = in_both (bytes_eq x.used.0 y.used.0) (same_use Untouched y.used.1)

    one : (y : ModuleUse) → (all y && not (readers y)) ≡ is_competitor x y
    one y =
        reader_competitor (bytes_eq x.used.0 y.used.0) (are_compatible Untouched y.used.1) (same_use Untouched y.used.1) (read_goes y.used.1)
        ∙ (ap (λ (z : VariableUse). bytes_eq x.used.0 y.used.0 && (not (are_compatible z y.used.1) && true)) (sym (is_untouched x.used.1 r))
        ∙ ap (λ (b : Bool). bytes_eq x.used.0 y.used.0 && (not (are_compatible x.used.1 y.used.1) && (b || not (excludes_versions x.owner y.owner)))) (sym r))

-- how many use a variable so
pub alike_counted : (v : Text) (x : VariableUse) (us : List ModuleUse) (n : ℕ) → n ≡ count_by (is_counted (record { variable = v; used = Some x; root = None })) us
    → n ≡ count_by (λ u. bytes_eq v u.used.0 && same_use x u.used.1) us
alike_counted v x us n h = h ∙ count_alike _ _ us (λ u. and_true (bytes_eq v u.used.0) (same_use x u.used.1))

-- ---- as loops want them

pub counted_turn : (old mid new : Tally) (m : Candidate) (ps : List code.UsedVariable) (i : ℕ) (p : code.UsedVariable) → i < length ps → p ≡ get_or ps i p
    → CountsMore old mid (map (use_of m) (take i ps)) → CountsMore mid new (use_of m p ∷ []) → CountsMore old new (map (use_of m) (take (i + 1) ps))
counted_turn old mid new m ps i p l is h k =
    subst (CountsMore old new) (sym (map_more (use_of m) ps i p l is)) (more_counted old mid new (map (use_of m) (take i ps)) (use_of m p ∷ []) h k)

pub tally_turn : {X : Type 0} (view : X → Candidate) (old new : Tally) (xs : List X) (i : ℕ) (x : X) → i < length xs → x ≡ get_or xs i x
    → HasCounts old (uses_of_modules (map view (take i xs))) → CountsMore old new (uses_of_module (view x)) → HasCounts new (uses_of_modules (map view (take (i + 1) xs)))
tally_turn view old new xs i x l is h k =
    subst (HasCounts new) (sym (uses_more view xs i x l is)) (k (uses_of_modules (map view (take i xs))) h)

pub sum_turn : (f : ModuleUse → ℕ) (m : Candidate) (ps : List code.UsedVariable) (i : ℕ) (p : code.UsedVariable) (a b c : ℕ) → i < length ps → p ≡ get_or ps i p
    → a ≡ sum_by f (map (use_of m) (take i ps)) → b ≡ f (use_of m p) → c ≡ a + b → c ≡ sum_by f (map (use_of m) (take (i + 1) ps))
sum_turn f m ps i p a b c l is h k e =
    e ∙ ((λ j. h j + k j) ∙ sym (ap (sum_by f) (map_more (use_of m) ps i p l is) ∙ sum_by_push f (map (use_of m) (take i ps)) (use_of m p)))

-- what the tally says of these users
pub counted_is : (tally : Tally) (k : CodeCounted) (v : UsageCount) (us : List ModuleUse) (n : ℕ) → n ≡ counted_at tally k → HasCounts tally us → counted_view k ≡ v → n ≡ count_by (is_counted v) us
counted_is tally k v us n e have h = e ∙ (have k ∙ ap (λ (x : UsageCount). count_by (is_counted x) us) h)

pub found_count : {S : Type 0} (m : Counts S) (c : CodeCounted) (n : ℕ) → (let o : Option ℕ = Some n in o) ≡ get_by (code_eq c) m → n ≡ at m c
found_count m c n e = ap count_of (e ∙ found_at m c)
