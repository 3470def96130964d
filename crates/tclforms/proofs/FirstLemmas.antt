-- Of a name that comes again the first value.
use Rattle.std.proofs.Common.{◌≡◌, ℕ, ◌==◌, ◌-◌, ◌<◌, ◌≤◌, length, take, drop, get_or, arith, Bool, true, false, not}
use Rattle.std.proofs.Common.{cond, List, [], ◌∷◌, ◌++◌, map, String, Global, Bor, Ok, Err, refl, sym, ap, ◌∙◌}
use Rattle.std.proofs.Common.{append_assoc, append-nil, ◌||◌}
use Rattle.std.specs.Prelude.{string_bytes}
use Rattle.std.specs.List.{list_any}
use Rattle.std.specs.Str.{bytes_eq}
use Rattle.std.proofs.lemmas.Bool.Decides.{nat_tests}
use Rattle.std.proofs.lemmas.List.{map-append, take_all}
use Rattle.std.proofs.lemmas.Slice.Eq.{bytes_eq-Decides}
use Rattle.tcltext.specs.chars.Runs.{Text}
use Rattle.tclvalue.specs.operators.Faults.{Answer, ◌>>=◌}
use Rattle.tclrules.specs.Variables.{Variables, Parameter, without}
use Rattle.tclrules.specs.Rules.{parameter_value, parameter_values}
use Rattle.tclforms.specs.variables.Views.{parameter_view}
use Rattle.tclforms.specs.declared.variables.variables.Parameter as program
use Rattle.tclforms.specs.ArgumentViews.{named_values}
use Rattle.tclforms.specs.Firsts.{AreNamesOf, with_first, except, prefixed_firsts}

same : (a b : Text) → bytes_eq a b ≡ true → a ≡ b
same a b h = (bytes_eq-Decides a b).0 h

transposed : (a b : Text) → bytes_eq a b ≡ bytes_eq b a
transposed a b = go (bytes_eq a b) (bytes_eq b a) refl refl
  where
    go : (s t : Bool) → bytes_eq a b ≡ s → bytes_eq b a ≡ t → bytes_eq a b ≡ bytes_eq b a
    go true true e f = e ∙ sym f
    go true false e f = e ∙ sym ((bytes_eq-Decides b a).1 (sym (same a b e)))
    go false true e f = (bytes_eq-Decides a b).1 (sym (same b a f)) ∙ sym f
    go false false e f = e ∙ sym f

without_both : (vs : Variables) (a b : Text) → without (without vs a) b ≡ without (without vs b) a
without_both [] a b = refl
without_both (v ∷ vs) a b = go (bytes_eq a v.0) (bytes_eq b v.0) refl refl (without_both vs a b)
  where
    go : (s t : Bool) → bytes_eq a v.0 ≡ s → bytes_eq b v.0 ≡ t → without (without vs a) b ≡ without (without vs b) a
        → without (cond s vs (v ∷ without vs a)) b ≡ without (cond t vs (v ∷ without vs b)) a
    go true true e f h = ap (without vs) (same b v.0 f ∙ sym (same a v.0 e))
    go true false e f h = rw e refl
    go false true e f h = rw f refl
    go false false e f h = rw (e, f) (ap (λ r. v ∷ r) h)

but_for_without : (ds vs : Variables) (name : Text) → except ds (without vs name) ≡ without (except ds vs) name
but_for_without [] vs name = refl
but_for_without (d ∷ ds) vs name = ap (except ds) (without_both vs name d.0) ∙ but_for_without ds (without vs d.0) name

but_for_last : (ds vs : Variables) (d : Text × Text) → except (ds ++ d ∷ []) vs ≡ without (except ds vs) d.0
but_for_last [] vs d = refl
but_for_last (x ∷ xs) vs d = but_for_last xs (without vs x.0) d

-- a name that is there already
passed_over : (ds vs : Variables) (n v : Text) → list_any (bytes_eq n) (map (λ d. d.0) ds) ≡ true → except ds ((n, v) ∷ without vs n) ≡ except ds vs
passed_over [] vs n v h = cc
passed_over (d ∷ ds) vs n v h = go (passed_over ds (without vs d.0) n v) (bytes_eq d.0 n) refl
  where
    go : (list_any (bytes_eq n) (map (λ d. d.0) ds) ≡ true
        → except ds ((n, v) ∷ without (without vs d.0) n) ≡ except ds (without vs d.0)) → (b : Bool)
        → bytes_eq d.0 n ≡ b → except ds (cond b (without vs n) ((n, v) ∷ without (without vs n) d.0)) ≡ except ds
        (without vs d.0)
    go k true e = ap (λ x. except ds (without vs x)) (sym (same d.0 n e))
    go k false e = let f : bytes_eq n d.0 ≡ false = transposed n d.0 ∙ e in ap (λ r. except ds ((n, v) ∷ r)) (without_both vs n d.0) ∙ k (rw f at h)

-- and one that isn't
passed_on : (ds vs : Variables) (n v : Text) → list_any (bytes_eq n) (map (λ d. d.0) ds) ≡ false → except ds ((n, v) ∷ vs) ≡ (n, v) ∷ except ds vs
passed_on [] vs n v h = refl
passed_on (d ∷ ds) vs n v h = go (passed_on ds (without vs d.0) n v) (bytes_eq d.0 n) refl
  where
    go : (list_any (bytes_eq n) (map (λ d. d.0) ds) ≡ false
        → except ds ((n, v) ∷ without vs d.0) ≡ (n, v) ∷ except ds (without vs d.0)) → (b : Bool) → bytes_eq d.0 n ≡ b
        → except ds (cond b vs ((n, v) ∷ without vs d.0)) ≡ (n, v) ∷ except ds (without vs d.0)
    go k true e =
        let f : bytes_eq n d.0 ≡ true = transposed n d.0 ∙ e in
        let g : true ≡ false = rw f at h in
        cc
    go k false e = let f : bytes_eq n d.0 ≡ false = transposed n d.0 ∙ e in k (rw f at h)

first_on : (done rest : Variables) (n v : Text) → done ++ except done ((n, v) ∷ without rest n) ≡ with_first done n v ++ except (with_first done n v) rest
first_on done rest n v = go (list_any (bytes_eq n) (map (λ d. d.0) done)) refl
  where
    go : (b : Bool) → list_any (bytes_eq n) (map (λ d. d.0) done) ≡ b → done
        ++ except done ((n, v) ∷ without rest n) ≡ (cond b done (done ++ (n, v) ∷ []))
        ++ except (cond b done (done ++ (n, v) ∷ [])) rest
    go true e = ap (λ r. done ++ r) (passed_over done rest n v e)
    go false e =
        ap (λ r. done ++ r) (passed_on done (without rest n) n v e ∙ ap (λ r. (n, v) ∷ r) (but_for_without done rest n ∙ sym (but_for_last done rest (n, v))))
        ∙ sym (append_assoc done ((n, v) ∷ []) (except (done ++ (n, v) ∷ []) rest))

-- a parameter more has its words
allotted_on : (name : Text) (p : Parameter) (ps : List Parameter) (ws : List Text) (a : Text × List Text)
    (done next : Variables) → parameter_value name p ps ws ≡ Ok a → next ≡ with_first done p.0 a.0
    → prefixed_firsts done (parameter_values name (p ∷ ps) ws) ≡ prefixed_firsts next (parameter_values name ps a.1)
allotted_on name p ps ws a done next t n = rw (t, n) (go (parameter_values name ps a.1))
  where
    go : (more : Answer Variables) → prefixed_firsts done (more >>= (λ vs. Ok ((p.0, a.0) ∷ without vs p.0))) ≡ prefixed_firsts (with_first done p.0 a.0) more
    go (Ok vs) = ap Ok (first_on done vs p.0 a.0)
    go (Err f) = refl

but_for_none : (ds : Variables) → except ds [] ≡ []
but_for_none [] = refl
but_for_none (d ∷ ds) = but_for_none ds

-- no parameter remains
firsts_done : (done : Variables) → prefixed_firsts done (Ok []) ≡ Ok done
firsts_done done = ap Ok (ap (λ r. done ++ r) (but_for_none done) ∙ append-nil done)

names_seen : (n : Text) (ks : List (Bor Text)) → list_any (λ k. bytes_eq n k.now) ks ≡ list_any (bytes_eq n) (map (λ k. k.now) ks)
names_seen n [] = refl
names_seen n (k ∷ ks) = ap (λ b. bytes_eq n k.now || b) (names_seen n ks)

-- a name is added where it is new
pub kept_first : (ks : List (Bor Text)) (vs : List (Bor Text × String Global)) (n : Bor Text) (v : String Global) (r : Bool) → AreNamesOf ks vs → r ≡ not (list_any (λ k. bytes_eq n.now k.now) ks)
    → (r ≡ true → named_values (vs ++ (n, v) ∷ []) ≡ with_first (named_values vs) n.now (string_bytes v)) × (r ≡ false → named_values vs ≡ with_first (named_values vs) n.now (string_bytes v))
kept_first ks vs n v r a h = go (list_any (λ k. bytes_eq n.now k.now) ks) refl
  where
    among : list_any (bytes_eq n.now) (map (λ w. w.0) (named_values vs)) ≡ list_any (λ k. bytes_eq n.now k.now) ks
    among = sym (names_seen n.now ks ∙ ap (list_any (bytes_eq n.now)) a)

    go : (b : Bool) → list_any (λ k. bytes_eq n.now k.now) ks ≡ b
        → (r ≡ true → named_values (vs ++ (n, v) ∷ []) ≡ with_first (named_values vs) n.now (string_bytes v)) × (r ≡ false → named_values vs ≡ with_first (named_values vs) n.now (string_bytes v))
    go true e = let f : r ≡ false = rw e at h in (λ t. let d : true ≡ false = sym t ∙ f in cc, λ t. rw (among ∙ e) refl)
    go false e =
        let f : r ≡ true = rw e at h in
        (λ t. rw (among ∙ e) (map-append (λ w. (w.0.now, string_bytes w.1)) vs ((n, v) ∷ [])), λ t. let d : true ≡ false = sym f ∙ t in cc)

-- a turn over the parameters
pub allotted_step : (name : Text) (all : Answer Variables) (rest : List program.Parameter) (p : program.Parameter)
    (ws : List Text) (a : Text × List Text) (done next : Variables)
    → all ≡ prefixed_firsts done (parameter_values name (map parameter_view rest) ws) → 1 ≤ length rest
    → p ≡ get_or rest 0 p
    → parameter_value name (parameter_view p) (map parameter_view (take (length rest - 1) (drop 1 rest))) ws ≡ Ok a
    → next ≡ with_first done (string_bytes p.name) a.0
    → all ≡ prefixed_firsts next (parameter_values name (map parameter_view (take (length rest - 1) (drop 1 rest)))
    a.1)
allotted_step name all [] p ws a done next i l e t n = absurd (omega arith)
allotted_step name all (q ∷ qs) p ws a done next i l e t n =
    let c : take (length (q ∷ qs) - 1) qs ≡ qs = take_all _ qs (omega arith) in
    rw c (i ∙ allotted_on name (parameter_view q) (map parameter_view qs) ws a done next (rw (e, c) at t) (rw e at n))

is_zero : (n : ℕ) → true ≡ (n == 0) → n ≡ 0
is_zero n h = grind (arith, nat_tests)

-- and its end
pub allotted_end : (name : Text) (all : Answer Variables) (ps : List program.Parameter) (ws : List (String Global))
    (done : Variables) → all ≡ prefixed_firsts done (parameter_values name (map parameter_view ps)
    (map string_bytes ws)) → length ps < 1 → true ≡ (length ws == 0) → all ≡ Ok done
allotted_end name all [] [] done i p w = i ∙ firsts_done done
allotted_end name all (q ∷ qs) ws done i p w = absurd (omega arith)
allotted_end name all [] (v ∷ vs) done i p w = let z : length (v ∷ vs) ≡ 0 = is_zero (length (v ∷ vs)) w in absurd (omega arith)
