-- The reasons that are found, use after use.
use Rattle.std.proofs.Common.{◌≡◌, Bool, true, false, IsTrue, ◌⊎◌, ◌+◌, ◌<◌, ◌≤◌, ℕ, List, [], ◌∷◌, ◌++◌, map, take}
use Rattle.std.proofs.Common.{length, get_or, refl, sym, ap, ◌∙◌, subst, inl, inr, Option, Some, None, arith}
use Rattle.std.proofs.Common.{append-nil, append_assoc}
use Rattle.std.proofs.Math.Seq.{take-length}
use Rattle.std.proofs.lemmas.List.{take_more, map-append}
use Rattle.envvars.specs.Environment.{Environment}
use Rattle.envstate.specs.loaded_list.Loaded.{AreLoadedInOrder}
use Rattle.reversal.specs.VariableUses.{Untouched, Fixed, Absent, Pathed, Stacked, UsedVariable}
use Rattle.audit_certificate.specs.RecordUses.{IsAmong}
use Rattle.audit_certificate.specs.Certificates.{AgreesWithUse, AgreesWith}
use Rattle.audit_certificate.specs.UseViews.{used_view}
use Rattle.audit_certificate.specs.declared.uses.UsedVariable as code
use Rattle.audit_certificate.proofs.UsedLemmas.{by_cases, among_left, among_right, among_either}
use Rattle.audit_certificate.specs.Disagreements.{Disagreement, loaded_texts, is_set, has_not_value, is_not_absent}
use Rattle.audit_certificate.specs.Disagreements.{path_not_in_order, stack_not_in_order, IsDisagreement, AreReasons}
use Rattle.audit_certificate.specs.Disagreements.{AreDisagreements}
use Rattle.audit_certificate.specs.Disagreements.{use_named, IsJudged, IsListJudged}

-- what a reason says of the environment, whatever the certificate
pub record Holds (e : Environment) (d : Disagreement) : Type 0 where
  pub list : use_named d ≡ None → AreLoadedInOrder e → ⊥
  pub uses : (p : UsedVariable) → use_named d ≡ Some p → AgreesWithUse e p.0 p.1 → ⊥

-- a reason is named for the use
pub record IsNamed (p : UsedVariable) (ds : List Disagreement) : Type 0 where
  pub reason : Disagreement
  pub there : IsAmong reason ds
  pub named : use_named reason ≡ Some p

-- What was found is all that there is for these uses.
pub record Reports (e : Environment) (ps : List UsedVariable) (ds : List Disagreement) : Type 0 where
  pub list : AreLoadedInOrder e ⊎ IsAmong loaded_texts ds
  pub uses : (p : UsedVariable) → IsAmong p ps → AgreesWithUse e p.0 p.1 ⊎ IsNamed p ds
  pub holds : (d : Disagreement) → IsAmong d ds → Holds e d
  pub of : (d : Disagreement) (p : UsedVariable) → IsAmong d ds → use_named d ≡ Some p → IsAmong p ps

-- at first

no_use : (d : Disagreement) (p : UsedVariable) → use_named d ≡ Some p → use_named d ≡ None → ⊥
no_use d p h k = let g : (let o : Option UsedVariable = Some p in o) ≡ None = sym h ∙ k in cc

same_use : (d : Disagreement) (p q : UsedVariable) → use_named d ≡ Some p → use_named d ≡ Some q → q ≡ p
same_use d p q h k = let g : (let o : Option UsedVariable = Some q in o) ≡ Some p = sym k ∙ h in cc

lone : (d c : Disagreement) → IsAmong d (c ∷ []) → d ≡ c
lone d c (inl e) = e
lone d c (inr h) = absurd h

list_holds : (e : Environment) → (AreLoadedInOrder e → ⊥) → Holds e loaded_texts
list_holds e n = record { list = λ _ o. n o; uses = λ p k a. absurd (no_use loaded_texts p k refl) }

pub list_reports : (e : Environment) (ds : List Disagreement) → IsListJudged e ds → Reports e [] ds
list_reports e ds (inl (o, none)) =
    subst (λ (l : List Disagreement). Reports e [] l) (sym none) (record {
      list = inl o;
      uses = λ p h. absurd h;
      holds = λ d h. absurd h;
      of = λ d p h k. absurd h;
    })
list_reports e ds (inr (n, one)) =
    subst (λ (l : List Disagreement). Reports e [] l) (sym one) (record {
      list = inr (inl refl);
      uses = λ p h. absurd h;
      holds = λ d h. subst (Holds e) (sym (lone d loaded_texts h)) (list_holds e n);
      of = λ d p h k. absurd (no_use loaded_texts p (subst (λ (c : Disagreement). use_named c ≡ Some p) (lone d loaded_texts h) k) refl);
    })

-- one use more

lone_use : (p q : UsedVariable) → IsAmong q (p ∷ []) → q ≡ p
lone_use p q (inl e) = e
lone_use p q (inr h) = absurd h

named_still : (p : UsedVariable) (ds more : List Disagreement) → IsNamed p ds → IsNamed p (ds ++ more)
named_still p ds more n = record { reason = n.reason; there = among_left n.reason ds more n.there; named = n.named }

agreed : (e : Environment) (ps : List UsedVariable) (p : UsedVariable) (ds : List Disagreement) → Reports e ps ds → AgreesWithUse e p.0 p.1 → Reports e (ps ++ p ∷ []) ds
agreed e ps p ds r a = record {
  list = r.list;
  uses = λ q h. by_cases (among_either q ps (p ∷ []) h) (r.uses q) (λ k. inl (subst (λ (u : UsedVariable). AgreesWithUse e u.0 u.1) (sym (lone_use p q k)) a));
  holds = r.holds;
  of = λ d q h k. among_left q ps (p ∷ []) (r.of d q h k);
}

reason_holds : (e : Environment) (p : UsedVariable) (d : Disagreement) → use_named d ≡ Some p → (AgreesWithUse e p.0 p.1 → ⊥) → Holds e d
reason_holds e p d h n = record {
  list = λ k o. no_use d p h k;
  uses = λ q k a. n (subst (λ (u : UsedVariable). AgreesWithUse e u.0 u.1) (same_use d p q h k) a);
}

disagreed : (e : Environment) (ps : List UsedVariable) (p : UsedVariable) (ds : List Disagreement) (d : Disagreement) → Reports e ps ds → (AgreesWithUse e p.0 p.1 → ⊥) → use_named d ≡ Some p
    → Reports e (ps ++ p ∷ []) (ds ++ d ∷ [])
disagreed e ps p ds d r n named = record {
  list = by_cases r.list (λ o. inl o) (λ h. inr (among_left loaded_texts ds (d ∷ []) h));
  uses = λ q h. by_cases (among_either q ps (p ∷ []) h)
      (λ k. by_cases (r.uses q k) (λ a. inl a) (λ m. inr (named_still q ds (d ∷ []) m)))
      (λ k. inr (record { reason = d; there = among_right d ds (d ∷ []) (inl refl); named = named ∙ ap (λ (u : UsedVariable). Some u) (sym (lone_use p q k)) }));
  holds = λ c h. by_cases (among_either c ds (d ∷ []) h) (r.holds c) (λ k. subst (Holds e) (sym (lone c d k)) (reason_holds e p d named n));
  of = λ c q h k. by_cases (among_either c ds (d ∷ []) h)
      (λ m. among_left q ps (p ∷ []) (r.of c q m k))
      (λ m. among_right q ps (p ∷ []) (inl (same_use d p q named (subst (λ (x : Disagreement). use_named x ≡ Some q) (lone c d m) k))));
}

judged : (e : Environment) (ps : List UsedVariable) (p : UsedVariable) (ds new : List Disagreement) → Reports e ps ds → IsJudged e p ds new → Reports e (ps ++ p ∷ []) new
judged e ps p ds new r (inl (a, same)) = subst (λ (l : List Disagreement). Reports e (ps ++ p ∷ []) l) (sym same) (agreed e ps p ds r a)
judged e ps p ds new r (inr (n, adds)) = subst (λ (l : List Disagreement). Reports e (ps ++ p ∷ []) l) (sym adds.added) (disagreed e ps p ds adds.reason r n adds.named)

pub reports-turn : (e : Environment) (xs : List code.UsedVariable) (i : ℕ) (x : code.UsedVariable) (ds new : List Disagreement) → i < length xs → x ≡ get_or xs i x
    → Reports e (map used_view (take i xs)) ds → IsJudged e (used_view x) ds new → Reports e (map used_view (take (i + 1) xs)) new
reports-turn e xs i x ds new l is r j =
    subst (λ (ps : List UsedVariable). Reports e ps new)
    (sym (ap (map used_view) (take_more xs i x l ∙ ap (λ (y : code.UsedVariable). take i xs ++ y ∷ []) (sym is)) ∙ map-append used_view (take i xs) (x ∷ [])))
    (judged e (map used_view (take i xs)) (used_view x) ds new r j)

-- and in their order

reasons_more : (e : Environment) (ps : List UsedVariable) (p : UsedVariable) (ds own : List Disagreement) → AreReasons e ps ds → AreReasons e (p ∷ []) own
    → AreReasons e (ps ++ p ∷ []) (ds ++ own)
reasons_more e [] p ds own h k = subst (λ (l : List Disagreement). AreReasons e (p ∷ []) (l ++ own)) (sym h) k
reasons_more e (q ∷ ps) p ds own (inl (a, h)) k = inl (a, reasons_more e ps p ds own h k)
reasons_more e (q ∷ ps) p ds own (inr (n, d, rest, named, h, same)) k =
    inr (n, d, rest ++ own, named, reasons_more e ps p rest own h k, ap (λ (l : List Disagreement). l ++ own) same)

disagree : (e : Environment) (ps : List UsedVariable) (p : UsedVariable) (ds new : List Disagreement) → AreDisagreements ps e ds → IsJudged e p ds new → AreDisagreements (ps ++ p ∷ []) e new
disagree e ps p ds new (first, rest, list, h, same) (inl (a, kept)) =
    (first, rest ++ [], list, reasons_more e ps p rest [] h (inl (a, refl)), kept ∙ (same ∙ ap (λ (l : List Disagreement). first ++ l) (sym (append-nil rest))))
disagree e ps p ds new (first, rest, list, h, same) (inr (n, adds)) = (
  first,
  rest ++ adds.reason ∷ [],
  list,
  reasons_more e ps p rest (adds.reason ∷ []) h (inr (n, adds.reason, [], adds.named, refl, refl)),
  adds.added ∙ (ap (λ (l : List Disagreement). l ++ adds.reason ∷ []) same ∙ append_assoc first rest (adds.reason ∷ [])),
)

pub list_disagrees : (e : Environment) (ds : List Disagreement) → IsListJudged e ds → AreDisagreements [] e ds
list_disagrees e ds h = (ds, [], h, refl, sym (append-nil ds))

pub disagree-turn : (e : Environment) (xs : List code.UsedVariable) (i : ℕ) (x : code.UsedVariable) (ds new : List Disagreement) → i < length xs → x ≡ get_or xs i x
    → AreDisagreements (map used_view (take i xs)) e ds → IsJudged e (used_view x) ds new → AreDisagreements (map used_view (take (i + 1) xs)) e new
disagree-turn e xs i x ds new l is r j =
    subst (λ (ps : List UsedVariable). AreDisagreements ps e new)
    (sym (ap (map used_view) (take_more xs i x l ∙ ap (λ (y : code.UsedVariable). take i xs ++ y ∷ []) (sym is)) ∙ map-append used_view (take i xs) (x ∷ [])))
    (disagree e (map used_view (take i xs)) (used_view x) ds new r j)

-- at the end

empty_agrees : (e : Environment) (ps : List UsedVariable) → Reports e ps [] → AgreesWith ps e
empty_agrees e ps r = record {
  loaded = by_cases r.list (λ o. o) (λ h. absurd h);
  uses = λ v x h. by_cases (r.uses (v, x) h) (λ a. a) (λ n. absurd n.there);
}

refuted : (e : Environment) (ps : List UsedVariable) (d : Disagreement) (o : Option UsedVariable) → use_named d ≡ o
    → Holds e d → ((p : UsedVariable) → use_named d ≡ Some p → IsAmong p ps) → AgreesWith ps e → ⊥
refuted e ps d None h k of a = k.list h a.loaded
refuted e ps d (Some p) h k of a = k.uses p h (a.uses p.0 p.1 (of p h))

none_found : (e : Environment) (ps : List UsedVariable) (ds : List Disagreement) → Reports e ps ds → AgreesWith ps e → ds ≡ []
none_found e ps [] r a = refl
none_found e ps (d ∷ ds) r a = absurd (refuted e ps d (use_named d) refl (r.holds d (inl refl)) (λ p k. r.of d p (inl refl) k) a)

-- the one reason that is of a use
abbrev reason_of : UsedVariable → Disagreement
reason_of (v, Untouched) = loaded_texts
reason_of (v, Fixed None) = is_set v
reason_of (v, Fixed (Some value)) = has_not_value v value
reason_of (v, Absent) = is_not_absent v
reason_of (v, Pathed d) = path_not_in_order v d
reason_of (v, Stacked) = stack_not_in_order v

one_reason : (d : Disagreement) (p : UsedVariable) → use_named d ≡ Some p → d ≡ reason_of p
one_reason loaded_texts p h = cc
one_reason (is_set v) p h = let e : (v, Fixed None) ≡ p = cc in ap reason_of e
one_reason (has_not_value v value) p h = let e : (v, Fixed (Some value)) ≡ p = cc in ap reason_of e
one_reason (is_not_absent v) p h = let e : (v, Absent) ≡ p = cc in ap reason_of e
one_reason (path_not_in_order v d) p h = let e : (v, Pathed d) ≡ p = cc in ap reason_of e
one_reason (stack_not_in_order v) p h = let e : (v, Stacked) ≡ p = cc in ap reason_of e

there : (e : Environment) (ps : List UsedVariable) (ds : List Disagreement) (p : UsedVariable) → Reports e ps ds → IsAmong p ps → (AgreesWithUse e p.0 p.1 → ⊥) → IsAmong (reason_of p) ds
there e ps ds p r h n = by_cases (r.uses p h) (λ a. absurd (n a)) (λ m. subst (λ (d : Disagreement). IsAmong d ds) (one_reason m.reason p m.named) m.there)

named_is : (e : Environment) (ps : List UsedVariable) (ds : List Disagreement) → Reports e ps ds → (d : Disagreement) → IsAmong d ds → IsDisagreement ps e d
named_is e ps ds r loaded_texts h = (r.holds loaded_texts h).list refl
named_is e ps ds r (is_set v) h = (r.of (is_set v) (v, Fixed None) h refl, (r.holds (is_set v) h).uses (v, Fixed None) refl)
named_is e ps ds r (has_not_value v value) h = (r.of (has_not_value v value) (v, Fixed (Some value)) h refl, (r.holds (has_not_value v value) h).uses (v, Fixed (Some value)) refl)
named_is e ps ds r (is_not_absent v) h = (r.of (is_not_absent v) (v, Absent) h refl, (r.holds (is_not_absent v) h).uses (v, Absent) refl)
named_is e ps ds r (path_not_in_order v d) h = (r.of (path_not_in_order v d) (v, Pathed d) h refl, (r.holds (path_not_in_order v d) h).uses (v, Pathed d) refl)
named_is e ps ds r (stack_not_in_order v) h = (r.of (stack_not_in_order v) (v, Stacked) h refl, (r.holds (stack_not_in_order v) h).uses (v, Stacked) refl)

is_named : (e : Environment) (ps : List UsedVariable) (ds : List Disagreement) → Reports e ps ds → (d : Disagreement) → IsDisagreement ps e d → IsAmong d ds
is_named e ps ds r loaded_texts n = by_cases r.list (λ o. absurd (n o)) (λ h. h)
is_named e ps ds r (is_set v) k = there e ps ds (v, Fixed None) r k.0 k.1
is_named e ps ds r (has_not_value v value) k = there e ps ds (v, Fixed (Some value)) r k.0 k.1
is_named e ps ds r (is_not_absent v) k = there e ps ds (v, Absent) r k.0 k.1
is_named e ps ds r (path_not_in_order v d) k = there e ps ds (v, Pathed d) r k.0 k.1
is_named e ps ds r (stack_not_in_order v) k = there e ps ds (v, Stacked) r k.0 k.1

no_reasons : {X : Type 0} (view : X → Disagreement) (xs : List X) → map view xs ≡ [] → xs ≡ []
no_reasons view [] h = refl
no_reasons view (x ∷ xs) h = cc

pub found_agrees : {X : Type 0} (view : X → Disagreement) (e : Environment) (ps : List UsedVariable) (xs : List X) → Reports e ps (map view xs)
    → (xs ≡ [] → AgreesWith ps e) × (AgreesWith ps e → xs ≡ [])
found_agrees {X} view e ps xs r = (
  λ h. empty_agrees e ps (subst (λ (l : List X). Reports e ps (map view l)) h r),
  λ a. no_reasons view xs (none_found e ps (map view xs) r a),
)

pub found_named : (e : Environment) (ps : List UsedVariable) (ds : List Disagreement) → Reports e ps ds
    → (d : Disagreement) → (IsAmong d ds → IsDisagreement ps e d) × (IsDisagreement ps e d → IsAmong d ds)
found_named e ps ds r d = (named_is e ps ds r d, is_named e ps ds r d)

-- a use is judged

pub judged_bad : {X : Type 0} (view : X → Disagreement) (e : Environment) (p : UsedVariable) (xs ys : List X) (x : X) (b : Bool) → b ≡ false
    → (IsTrue b → AgreesWithUse e p.0 p.1) × (AgreesWithUse e p.0 p.1 → IsTrue b) → use_named (view x) ≡ Some p → ys ≡ xs ++ x ∷ [] → IsJudged e p (map view xs) (map view ys)
judged_bad {X} view e p xs ys x b f d named h =
    inr (
      λ a. let g : false ≡ true = sym f ∙ d.1 a in cc,
      record { reason = view x; named = named; added = ap (map view) h ∙ map-append view xs (x ∷ []) },
    )

-- a read disagrees with nothing
pub judged_read : {P : Type 0} (e : Environment) (p : UsedVariable) (b : Bool) → b ≡ false → (IsTrue b → AgreesWithUse e p.0 p.1) × (AgreesWithUse e p.0 p.1 → IsTrue b)
    → p.1 ≡ Untouched → P
judged_read e p b f d h = absurd (let g : false ≡ true = sym f ∙ d.1 (subst (AgreesWithUse e p.0) (sym h) tt) in cc)

-- at the end of the uses

all_taken : (xs : List code.UsedVariable) (i : ℕ) → length xs ≤ i → i ≤ length xs → take i xs ≡ xs
all_taken xs i l m = let same : i ≡ length xs = omega arith in ap (λ (n : ℕ). take n xs) same ∙ take-length xs

pub all_reported : (e : Environment) (xs : List code.UsedVariable) (i : ℕ) (ds : List Disagreement) → length xs ≤ i
    → i ≤ length xs → Reports e (map used_view (take i xs)) ds → Reports e (map used_view xs) ds
all_reported e xs i ds l m r = subst (λ (ys : List code.UsedVariable). Reports e (map used_view ys) ds) (all_taken xs i l m) r

pub all_disagree : (e : Environment) (xs : List code.UsedVariable) (i : ℕ) (ds : List Disagreement) → length xs ≤ i
    → i ≤ length xs → AreDisagreements (map used_view (take i xs)) e ds → AreDisagreements (map used_view xs) e ds
all_disagree e xs i ds l m r = subst (λ (ys : List code.UsedVariable). AreDisagreements (map used_view ys) e ds) (all_taken xs i l m) r
