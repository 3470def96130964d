-- Uses, each once: by a definition over the whole list, and as they are put one by one among those before them.
use Rattle.std.proofs.Common.{◌≡◌, ◌⊎◌, inl, inr, ℕ, ◌+◌, ◌<◌, length, take, get_or, Bool, true, false, cond, not, ◌&&◌}
use Rattle.std.proofs.Common.{◌||◌, List, [], ◌∷◌, ◌++◌, map, filter, Option, refl, sym, ap, ◌∙◌, append_assoc}
use Rattle.std.proofs.Common.{append-nil}
use Rattle.std.specs.Prelude.{bytes_eq}
use Rattle.std.specs.List.{list_any}
use Rattle.std.proofs.lemmas.Bool.{false≢true, and_parts, and_from}
use Rattle.std.proofs.lemmas.List.{take_more, map-append}
use Rattle.std.proofs.lemmas.List.Folds.{list_any-append}
use Rattle.std.proofs.lemmas.Grind.{flat_map-append}
use Rattle.indexmap.specs.IndexSet.{insert_key, insert_all}
use Rattle.envvars.proofs.TextLemmas.{same_text, bytes_eq-same}
use Rattle.audit_certificate.specs.Candidates.{Candidate, uses_of, uses_of_all}
use Rattle.reversal.specs.VariableUses.{UsedVariable}
use Rattle.audit_certificate.specs.RecordUses.{same_use, IsAmong}
use Rattle.audit_certificate.proofs.UsedLemmas.{by_test}
use Rattle.audit_certificate.proofs.Exact.{filtered, in_filter, use_same, use_itself}
use Rattle.audit_certificate.specs.declared.answers.Clash.{Clash}
use Rattle.audit_certificate.specs.ClashAnswers.{without_clash, without_clashes}
use Rattle.audit_certificate.specs.declared.uses.UsedVariable as code
use Rattle.audit_certificate.specs.UseViews.{used_view}
use Rattle.audit_certificate.specs.declared.keys.UseKey.{UseKey}
use Rattle.audit_certificate.specs.declared.keys.UseKey.TheVariants as keys
use Rattle.audit_certificate.specs.declared.keys.UsedKey.{UsedKey}
use Rattle.audit_certificate.specs.contracts.keys.UseKeyPartialEq.TheImpl as UseKeyEq
use Rattle.audit_certificate.specs.contracts.keys.UsedKeyPartialEq.TheImpl as UsedKeyEq
use Rattle.audit_certificate.specs.UseKeys.{key_view, used_key_view}
use Rattle.audit_certificate.specs.EachOnce.{same_used, each_once}

-- ---- the test

used_is : (p q : UsedVariable) → same_used p q ≡ true → p ≡ q
used_is p q h =
    let a = and_parts (bytes_eq p.0 q.0) (same_use p.1 q.1) h in
    let v : p.0 ≡ q.0 = same_text p.0 q.0 a.0 in
    let x : p.1 ≡ q.1 = use_same p.1 q.1 a.1 in
    λ i. (v i, x i)

used_itself : (p : UsedVariable) → same_used p p ≡ true
used_itself p = and_from (bytes_eq p.0 p.0) (same_use p.1 p.1) (bytes_eq-same p.0) (use_itself p.1)

used_turned : (p q : UsedVariable) → same_used p q ≡ same_used q p
used_turned p q = by_test (same_used p q) _
    (λ t. ap (λ (r : UsedVariable). same_used r q) (used_is p q t) ∙ ap (same_used q) (sym (used_is p q t)))
    (λ f. f ∙ sym (by_test (same_used q p) _ (λ t. absurd (false≢true (sym f ∙ (ap (same_used p) (used_is q p t) ∙ used_itself p)))) (λ g. g)))

-- ---- filters

twice : {X : Type 0} (f g : X → Bool) (xs : List X) → filter f (filter g xs) ≡ filter (λ x. g x && f x) xs
twice f g [] = refl
twice f g (x ∷ xs) = by_test (g x) _ (λ t. rw t (ap (λ ys. cond (f x) (x ∷ ys) ys) (twice f g xs))) (λ e. rw e (twice f g xs))

filter_alike : {X : Type 0} (f g : X → Bool) (xs : List X) → ((x : X) → f x ≡ g x) → filter f xs ≡ filter g xs
filter_alike f g [] h = refl
filter_alike f g (x ∷ xs) h = ap (λ b. cond b (x ∷ filter f xs) (filter f xs)) (h x) ∙ ap (λ ys. cond (g x) (x ∷ ys) ys) (filter_alike f g xs h)

filter_all : {X : Type 0} (xs : List X) → filter (λ x. true) xs ≡ xs
filter_all [] = refl
filter_all (x ∷ xs) = ap (λ ys. x ∷ ys) (filter_all xs)

-- ---- one by one

-- the use is none of these
abbrev is_new : List UsedVariable → UsedVariable → Bool
is_new ks q = not (list_any (same_used q) ks)

any_is : (q : UsedVariable) (ks : List UsedVariable) → (p : UsedVariable) → list_any (same_used p) ks ≡ true → same_used p q ≡ true → list_any (same_used q) ks ≡ true
any_is q ks p h e = ap (λ (r : UsedVariable). list_any (same_used r) ks) (sym (used_is p q e)) ∙ h

-- what is there already is not new, so it need not be taken out before
there : (ks : List UsedVariable) (p q : UsedVariable) → list_any (same_used p) ks ≡ true → is_new ks q ≡ (not (same_used p q) && is_new ks q)
there ks p q h = by_test (same_used p q) _ (λ t. rw (t, any_is q ks p h t) refl) (λ f. rw f refl)

or_not : (a b c : Bool) → b ≡ c → not (a || (b || false)) ≡ (not c && not a)
or_not true true c e = rw (← e) refl
or_not true false c e = rw (← e) refl
or_not false true c e = rw (← e) refl
or_not false false c e = rw (← e) refl

pushed : (ks : List UsedVariable) (p q : UsedVariable) → is_new (ks ++ p ∷ []) q ≡ (not (same_used p q) && is_new ks q)
pushed ks p q = ap not (list_any-append (same_used q) ks (p ∷ [])) ∙ or_not (list_any (same_used q) ks) (same_used q p) (same_used p q) (used_turned q p)

-- these, and of the others what is new, each once
all_inserted : (ks ps : List UsedVariable) → insert_all same_used ks ps ≡ ks ++ filter (is_new ks) (each_once ps)
all_inserted ks [] = sym (append-nil ks)
all_inserted ks (p ∷ ps) = by_test (list_any (same_used p) ks) _
    (λ t. ap (λ b. insert_all same_used (cond b ks (ks ++ p ∷ [])) ps) t
    ∙ (all_inserted ks ps
    ∙ (ap (λ l. ks ++ l) (filter_alike (is_new ks) (λ q. not (same_used p q) && is_new ks q) (each_once ps) (λ q. there ks p q t) ∙ sym (twice (is_new ks) (λ q. not (same_used p q)) (each_once ps)))
    ∙ ap (λ b. ks ++ cond (not b) (p ∷ filter (is_new ks) (filter (λ q. not (same_used p q)) (each_once ps))) (filter (is_new ks) (filter (λ q. not (same_used p q)) (each_once ps)))) (sym t))))
    (λ f. ap (λ b. insert_all same_used (cond b ks (ks ++ p ∷ [])) ps) f
    ∙ (all_inserted (ks ++ p ∷ []) ps
    ∙ (append_assoc ks (p ∷ []) (filter (is_new (ks ++ p ∷ [])) (each_once ps))
    ∙ (ap (λ l. ks ++ p ∷ l) (filter_alike (is_new (ks ++ p ∷ [])) (λ q. not (same_used p q) && is_new ks q)
    (each_once ps) (λ q. pushed ks p q) ∙ sym (twice (is_new ks) (λ q. not (same_used p q)) (each_once ps)))
    ∙ ap (λ b. ks ++ cond (not b) (p ∷ filter (is_new ks) (filter (λ q. not (same_used p q)) (each_once ps))) (filter (is_new ks) (filter (λ q. not (same_used p q)) (each_once ps)))) (sym f)))))

pub inserted_once : (ps : List UsedVariable) → insert_all same_used [] ps ≡ each_once ps
inserted_once ps = all_inserted [] ps ∙ filter_all (each_once ps)

pub insert_more : (ks ps qs : List UsedVariable) → insert_all same_used ks (ps ++ qs) ≡ insert_all same_used (insert_all same_used ks ps) qs
insert_more ks [] qs = refl
insert_more ks (p ∷ ps) qs = insert_more (insert_key same_used ks p) ps qs

-- ---- uses that stand once already

commuted : (a b : Bool) → (a && b) ≡ (b && a)
commuted true true = refl
commuted true false = refl
commuted false true = refl
commuted false false = refl

last_decides : (a b : Bool) → (a ≡ true → b ≡ false) → (not a && b) ≡ b
last_decides true b h = sym (h refl)
last_decides false b h = refl

once_filtered : (f : UsedVariable → Bool) (ps : List UsedVariable) → each_once (filter f ps) ≡ filter f (each_once ps)
once_filtered f [] = refl
once_filtered f (p ∷ ps) = by_test (f p) _
    (λ t. rw t (ap (λ l. p ∷ filter (λ q. not (same_used p q)) l) (once_filtered f ps)
    ∙ ap (λ l. p ∷ l) (twice (λ q. not (same_used p q)) f (each_once ps)
    ∙ (filter_alike (λ q. f q && not (same_used p q)) (λ q. not (same_used p q) && f q) (each_once ps) (λ q. commuted (f q) (not (same_used p q)))
    ∙ sym (twice f (λ q. not (same_used p q)) (each_once ps))))))
    (λ e. rw e (once_filtered f ps
    ∙ (filter_alike f (λ q. not (same_used p q) && f q) (each_once ps) (λ q. sym (last_decides (same_used p q) (f q) (λ t. ap f (sym (used_is p q t)) ∙ e)))
    ∙ sym (twice f (λ q. not (same_used p q)) (each_once ps)))))

itself_twice : (a : Bool) → (a && a) ≡ a
itself_twice true = refl
itself_twice false = refl

once_again : (ps : List UsedVariable) → each_once (each_once ps) ≡ each_once ps
once_again [] = refl
once_again (p ∷ ps) =
    ap (λ l. p ∷ filter (λ q. not (same_used p q)) l) (once_filtered (λ q. not (same_used p q)) (each_once ps) ∙ ap (filter (λ q. not (same_used p q))) (once_again ps))
    ∙ ap (λ l. p ∷ l) (twice (λ q. not (same_used p q)) (λ q. not (same_used p q)) (each_once ps)
    ∙ filter_alike (λ q. not (same_used p q) && not (same_used p q)) (λ q. not (same_used p q)) (each_once ps) (λ q. itself_twice (not (same_used p q))))

pub inserted_again : (ks ps : List UsedVariable) → insert_all same_used ks (each_once ps) ≡ insert_all same_used ks ps
inserted_again ks ps = all_inserted ks (each_once ps) ∙ (ap (λ l. ks ++ filter (is_new ks) l) (once_again ps) ∙ sym (all_inserted ks ps))

-- ---- keys

any_seen : {K : Type 0} (eq : K → K → Bool) (view : K → UsedVariable) → ((a b : K) → eq a b ≡ same_used (view a) (view b)) → (k : K) (ks : List K)
    → list_any (eq k) ks ≡ list_any (same_used (view k)) (map view ks)
any_seen eq view h k [] = refl
any_seen eq view h k (x ∷ ks) = ap (λ b. b || list_any (eq k) ks) (h k x) ∙ ap (λ b. same_used (view k) (view x) || b) (any_seen eq view h k ks)

map_last : {K : Type 0} (view : K → UsedVariable) (ks : List K) (k : K) → map view (ks ++ k ∷ []) ≡ map view ks ++ view k ∷ []
map_last view [] k = refl
map_last view (x ∷ ks) k = ap (λ l. view x ∷ l) (map_last view ks k)

-- a key is put among the others as its use is
pub key_inserted : {K : Type 0} (eq : K → K → Bool) (view : K → UsedVariable) → ((a b : K) → eq a b ≡ same_used (view a) (view b)) → (ks new : List K) (k : K)
    → new ≡ insert_key eq ks k → map view new ≡ insert_key same_used (map view ks) (view k)
key_inserted eq view h ks new k e =
    ap (map view) e ∙ (by_test (list_any (eq k) ks) _
    (λ t. ap (λ b. map view (cond b ks (ks ++ k ∷ []))) t ∙ ap (λ b. cond b (map view ks) (map view ks ++ view k ∷ [])) (sym (sym (any_seen eq view h k ks) ∙ t)))
    (λ f. ap (λ b. map view (cond b ks (ks ++ k ∷ []))) f ∙ (map_last view ks k ∙ ap (λ b. cond b (map view ks) (map view ks ++ view k ∷ [])) (sym (sym (any_seen eq view h k ks) ∙ f)))))

-- ---- as loops want them

-- one use more of several
pub inserted_turn : {X : Type 0} (view : X → UsedVariable) (ks : List UsedVariable) (xs : List X) (i : ℕ) (x : X) → i < length xs → x ≡ get_or xs i x
    → insert_key same_used (insert_all same_used ks (map view (take i xs))) (view x) ≡ insert_all same_used ks (map view (take (i + 1) xs))
inserted_turn view ks xs i x l is =
    sym (ap (λ ys. insert_all same_used ks (map view ys)) (take_more xs i x l ∙ ap (λ y. take i xs ++ y ∷ []) (sym is))
    ∙ (ap (insert_all same_used ks) (map-append view (take i xs) (x ∷ [])) ∙ insert_more ks (map view (take i xs)) (view x ∷ [])))

-- the uses of modules without a clash
abbrev pub unclashed : List Candidate → List (Option Clash) → List UsedVariable
unclashed ms answers = uses_of_all (without_clashes ms answers)

no_answer : (ms : List Candidate) → without_clashes ms [] ≡ []
no_answer [] = refl
no_answer (m ∷ ms) = refl

-- one module more with its answer
pub unclashed_turn : {X : Type 0} (view : X → Candidate) (ks total : List UsedVariable) (xs rest : List X)
    (answers left : List (Option Clash)) (x : X) (answer : Option Clash) → xs ≡ x ∷ rest → answers ≡ answer ∷ left
    → insert_all same_used ks (unclashed (map view xs) answers) ≡ total
    → insert_all same_used (insert_all same_used ks (uses_of_all (without_clash (view x) answer))) (unclashed (map view rest) left) ≡ total
unclashed_turn view ks total xs rest answers left x answer e f h =
    sym (insert_more ks (uses_of_all (without_clash (view x) answer)) (unclashed (map view rest) left))
    ∙ (ap (insert_all same_used ks) (sym (flat_map-append uses_of (without_clash (view x) answer) (without_clashes (map view rest) left)))
    ∙ (ap (λ ys. insert_all same_used ks (unclashed (map view ys) (answer ∷ left))) (sym e)
    ∙ (ap (λ (l : List (Option Clash)). insert_all same_used ks (unclashed (map view xs) l)) (sym f) ∙ h)))

-- no module is left, or no answer
pub unclashed_end : {X : Type 0} (view : X → Candidate) (ks total : List UsedVariable) (xs : List X) (answers : List (Option Clash)) → (xs ≡ []) ⊎ (answers ≡ [])
    → insert_all same_used ks (unclashed (map view xs) answers) ≡ total → ks ≡ total
unclashed_end view ks total xs answers (inl e) h = ap (λ ys. insert_all same_used ks (unclashed (map view ys) answers)) (sym e) ∙ h
unclashed_end view ks total xs answers (inr e) h =
    ap (λ (l : List Candidate). insert_all same_used ks (uses_of_all l)) (sym (no_answer (map view xs)))
    ∙ (ap (λ (l : List (Option Clash)). insert_all same_used ks (unclashed (map view xs) l)) (sym e) ∙ h)

-- ---- members

pub in_once : (p : UsedVariable) (ps : List UsedVariable) → IsAmong p ps → IsAmong p (each_once ps)
in_once p [] a = absurd a
in_once p (q ∷ ps) (inl e) = inl e
in_once p (q ∷ ps) (inr a) = by_test (same_used q p) _
    (λ t. inl (sym (used_is q p t)))
    (λ f. inr (in_filter (λ r. not (same_used q r)) (each_once ps) p (in_once p ps a) (ap not f)))

pub of_once : (p : UsedVariable) (ps : List UsedVariable) → IsAmong p (each_once ps) → IsAmong p ps
of_once p [] a = absurd a
of_once p (q ∷ ps) (inl e) = inl e
of_once p (q ∷ ps) (inr a) = inr (of_once p ps (filtered (λ r. not (same_used q r)) (each_once ps) p a).0)

-- ---- one use more, as the code has it

pub use_keys_same : (a b : UseKey) → UseKeyEq.eq-value.it a b ≡ same_use (key_view a) (key_view b)
use_keys_same keys.Set keys.Set = refl
use_keys_same keys.Set (keys.Unset y) = refl
use_keys_same keys.Set keys.Absent = refl
use_keys_same keys.Set (keys.Path y) = refl
use_keys_same keys.Set keys.Stack = refl
use_keys_same keys.Set keys.Read = refl
use_keys_same (keys.Unset x) keys.Set = refl
use_keys_same (keys.Unset x) (keys.Unset y) = refl
use_keys_same (keys.Unset x) keys.Absent = refl
use_keys_same (keys.Unset x) (keys.Path y) = refl
use_keys_same (keys.Unset x) keys.Stack = refl
use_keys_same (keys.Unset x) keys.Read = refl
use_keys_same keys.Absent keys.Set = refl
use_keys_same keys.Absent (keys.Unset y) = refl
use_keys_same keys.Absent keys.Absent = refl
use_keys_same keys.Absent (keys.Path y) = refl
use_keys_same keys.Absent keys.Stack = refl
use_keys_same keys.Absent keys.Read = refl
use_keys_same (keys.Path x) keys.Set = refl
use_keys_same (keys.Path x) (keys.Unset y) = refl
use_keys_same (keys.Path x) keys.Absent = refl
use_keys_same (keys.Path x) (keys.Path y) = refl
use_keys_same (keys.Path x) keys.Stack = refl
use_keys_same (keys.Path x) keys.Read = refl
use_keys_same keys.Stack keys.Set = refl
use_keys_same keys.Stack (keys.Unset y) = refl
use_keys_same keys.Stack keys.Absent = refl
use_keys_same keys.Stack (keys.Path y) = refl
use_keys_same keys.Stack keys.Stack = refl
use_keys_same keys.Stack keys.Read = refl
use_keys_same keys.Read keys.Set = refl
use_keys_same keys.Read (keys.Unset y) = refl
use_keys_same keys.Read keys.Absent = refl
use_keys_same keys.Read (keys.Path y) = refl
use_keys_same keys.Read keys.Stack = refl
use_keys_same keys.Read keys.Read = refl

abbrev key_eq : UsedKey → UsedKey → Bool
key_eq = UsedKeyEq.eq-value.it

keys_same : (a b : UsedKey) → key_eq a b ≡ same_used (used_key_view a) (used_key_view b)
keys_same a b = ap (λ t. bytes_eq a.variable.now b.variable.now && t) (use_keys_same a.used b.used)

pub added_new : (ps : List UsedVariable) (u : UsedVariable) (uses more : List code.UsedVariable)
    (copy : code.UsedVariable) (ks new : List UsedKey) (k : UsedKey) (b : Bool) → map used_view uses ≡ ps
    → map used_key_view ks ≡ ps
    → used_key_view k ≡ u → b ≡ not (list_any (key_eq k) ks) → b ≡ true → more ≡ uses ++ copy ∷ [] → used_view copy ≡ u → new ≡ insert_key key_eq ks k
    → (map used_view more ≡ insert_key same_used ps u) × (map used_key_view new ≡ insert_key same_used ps u)
added_new ps u uses more copy ks new k b h i v e t m w n =
    let there : list_any (same_used u) ps ≡ false = missing t in (
      ap (map used_view) m ∙ (map-append used_view uses (copy ∷ []) ∙ ((λ j. h j ++ w j ∷ []) ∙ ap (λ c. cond c ps (ps ++ u ∷ [])) (sym there))),
      keyed ks new k n i v,
    )
  where
    seen : list_any (same_used u) ps ≡ list_any (key_eq k) ks
    seen = (λ j. list_any (same_used (sym v j)) (sym i j)) ∙ sym (any_seen key_eq used_key_view keys_same k ks)

    unless : (c : Bool) → b ≡ not c → b ≡ true → c ≡ false
    unless false x y = refl
    unless true x y = absurd (false≢true (sym x ∙ y))

    missing : b ≡ true → list_any (same_used u) ps ≡ false
    missing x = seen ∙ unless (list_any (key_eq k) ks) e x

    keyed : (ks new : List UsedKey) (k : UsedKey) → new ≡ insert_key key_eq ks k → map used_key_view ks ≡ ps → used_key_view k ≡ u → map used_key_view new ≡ insert_key same_used ps u
    keyed ks new k n i v = key_inserted key_eq used_key_view keys_same ks new k n ∙ (λ j. insert_key same_used (i j) (v j))

pub added_none : (ps : List UsedVariable) (u : UsedVariable) (uses : List code.UsedVariable) (ks new : List UsedKey) (k : UsedKey) (b : Bool) → map used_view uses ≡ ps → map used_key_view ks ≡ ps
    → used_key_view k ≡ u → b ≡ not (list_any (key_eq k) ks) → b ≡ false → new ≡ insert_key key_eq ks k
    → (map used_view uses ≡ insert_key same_used ps u) × (map used_key_view new ≡ insert_key same_used ps u)
added_none ps u uses ks new k b h i v e f n = (
  h ∙ ap (λ c. cond c ps (ps ++ u ∷ [])) (sym found),
  key_inserted key_eq used_key_view keys_same ks new k n ∙ (λ j. insert_key same_used (i j) (v j)),
)
  where
    indeed : (c : Bool) → b ≡ not c → b ≡ false → c ≡ true
    indeed true x y = refl
    indeed false x y = absurd (false≢true (sym y ∙ x))

    found : list_any (same_used u) ps ≡ true
    found = (λ j. list_any (same_used (sym v j)) (sym i j)) ∙ (sym (any_seen key_eq used_key_view keys_same k ks) ∙ indeed (list_any (key_eq k) ks) e f)
