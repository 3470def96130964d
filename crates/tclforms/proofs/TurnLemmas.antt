-- The items of lists that remain after turns.
use Rattle.std.proofs.Common.{◌≡◌, ℕ, zero, suc, ◌+◌, ◌-◌, ◌*◌, ◌^◌, ◌<◌, ◌≤◌, min, Bool, true, false, nat_lt, List, []}
use Rattle.std.proofs.Common.{◌∷◌, ◌++◌, length, map, take, drop, get_or, String, Global, Bor, Ok, Err, refl, sym, ap}
use Rattle.std.proofs.Common.{Option, Some, None, ◌∙◌, add-one, append_assoc, arith, length-drop}
use Rattle.std.specs.Prelude.{string_bytes, IfSome}
use Rattle.std.proofs.lemmas.Bool.Decides.{nat_tests}
use Rattle.std.proofs.Math.Nat.{mul-suc, suc-mul}
use Rattle.std.proofs.lemmas.List.{map-append, drop-map, drop-drop, drop_all, drop_more, take_all}
use Rattle.tcltext.specs.chars.Runs.{Text}
use Rattle.tclvalue.specs.operators.Faults.{Answer, ValueReason, ◌>>=◌}
use Rattle.tclrules.specs.Plans.{Items}
use Rattle.tclvalue.specs.operators.Elements.{elements_of}
use Rattle.tclrules.specs.Rules.{loops, named, shortened}
use Rattle.tclforms.specs.Views.{texts_of, in_pairs, pair_texts}
use Rattle.tclforms.specs.ArgumentViews.{remaining_after}
use Rattle.tclforms.specs.Lists.{prefixed, one_loop}
use Rattle.tclforms.specs.declared.items.Items as program

length_texts : (ts : List (String Global)) → length (texts_of ts) ≡ length ts
length_texts [] = refl
length_texts (t ∷ ts) = simp (length_texts ts)

-- a product with what isn't 0
at_least : (a n : ℕ) → 0 < n → a ≤ a * n
at_least a zero h = absurd (omega arith)
at_least a (suc n) h = rw (mul-suc a n) (omega arith)

product_more : (turns n : ℕ) → (turns + 1) * n ≡ turns * n + n
product_more turns n = rw (add-one turns) (suc-mul turns n)

drop_both : (ts : List Text) (m n : ℕ) → length ts ≤ m → length ts ≤ n → drop m ts ≡ drop n ts
drop_both ts m n g h = drop_all m ts g ∙ sym (drop_all n ts h)

-- a turn more
items_more : (ts : List Text) (n turns more : ℕ) → 0 < n → length ts < 2 ^ 64 → more ≡ min (turns + 1) (2 ^ 64 - 1) → drop (more * n) ts ≡ drop n (drop (turns * n) ts)
items_more ts n turns more p s e = go (nat_lt (turns + 1) (2 ^ 64)) refl ∙ sym (drop-drop n (turns * n) ts)
  where
    go : (b : Bool) → nat_lt (turns + 1) (2 ^ 64) ≡ b → drop (more * n) ts ≡ drop (turns * n + n) ts
    go true h =
        let o : turns + 1 < 2 ^ 64 = grind (arith, nat_tests) in
        let f : more ≡ turns + 1 = omega arith in
        rw (f, product_more turns n) refl
    go false h =
        let o : 2 ^ 64 ≤ turns + 1 = grind (arith, nat_tests) in
        let f : more ≡ 2 ^ 64 - 1 = omega arith in
        let g : more ≤ more * n = at_least more n p in
        let k : turns ≤ turns * n = at_least turns n p in
        drop_both ts (more * n) (turns * n + n) (omega arith) (omega arith)

one_more : (l : program.Items) (turns more : ℕ) → more ≡ min (turns + 1) (2 ^ 64 - 1)
    → remaining_after more l ≡ (
      texts_of l.names.items,
      drop (length (texts_of l.names.items))
          (remaining_after turns l).1,
    )
one_more l turns more e =
    rw (length_texts l.names.items) (ap (λ (ts : List Text). (texts_of l.names.items, ts))
    (items_more (texts_of l.items.items) (length l.names.items) turns more l.named
    (rw (length_texts l.items.items) l.few) e))

pub shortened_more : (ls : List program.Items) (turns more : ℕ) → more ≡ min (turns + 1) (2 ^ 64 - 1) → map (remaining_after more) ls ≡ shortened (map (remaining_after turns) ls)
shortened_more [] turns more e = refl
shortened_more (l ∷ ls) turns more e = rw (one_more l turns more e, shortened_more ls turns more e) refl

pub left_before : (l : program.Items) (turns passed : ℕ) (ts : List (String Global))
    → passed ≡ min (turns * length l.names.items) (2 ^ 64 - 1) → ts ≡ l.items.items → length l.items.items < 2 ^ 64
    → passed < length l.items.items → (texts_of l.names.items, texts_of (take (length ts - passed) (drop passed ts))) ≡
    remaining_after turns l
left_before l turns passed ts e t s h =
    let f : passed ≡ turns * length l.names.items = omega arith in
    let g : take (length ts - passed) (drop passed ts) ≡ drop passed l.items.items = ap
    (λ us. take (length us - passed) (drop passed us)) t
    ∙ take_all (length l.items.items - passed) (drop passed l.items.items)
    (omega (arith, length-drop passed l.items.items)) in
    ap (λ (us : List Text). (texts_of l.names.items, us)) (ap texts_of g ∙ sym (drop-map string_bytes passed l.items.items) ∙ ap (λ n. drop n (texts_of l.items.items)) f)

-- the first list of a foreach
loops_first : (p : Text × Text) (ps : List (Text × Text)) → loops (p ∷ ps) ≡ one_loop p >>= (λ l. loops ps >>= (λ ls. Ok (l ∷ ls)))
loops_first p ps = go (elements_of p.0 >>= named)
  where
    goes : (vs : List Text) (a : Answer (List Text)) → a >>= (λ es. loops ps >>= (λ ls. Ok ((vs, es) ∷ ls))) ≡ (a >>= (λ es. Ok (vs, es))) >>= (λ l. loops ps >>= (λ ls. Ok (l ∷ ls)))
    goes vs (Ok es) = refl
    goes vs (Err f) = refl

    go : (a : Answer (List Text)) → a >>= (λ vs. elements_of p.1 >>= (λ es. loops ps >>= (λ ls. Ok ((vs, es) ∷ ls)))) ≡
        (a >>= (λ vs. elements_of p.1 >>= (λ es. Ok (vs, es)))) >>= (λ l. loops ps >>= (λ ls. Ok (l ∷ ls)))
    go (Ok vs) = goes vs (elements_of p.1)
    go (Err f) = refl

loops_prefixed : (done : List Items) (p : Text × Text) (ps : List (Text × Text)) (l : Items) → one_loop p ≡ Ok l → prefixed done (loops (p ∷ ps)) ≡ prefixed (done ++ l ∷ []) (loops ps)
loops_prefixed done p ps l e = ap (prefixed done) (loops_first p ps ∙ rw e refl) ∙ go (loops ps)
  where
    go : (a : Answer (List Items)) → prefixed done (a >>= (λ ls. Ok (l ∷ ls))) ≡ prefixed (done ++ l ∷ []) a
    go (Ok ls) = ap Ok (sym (append_assoc done (l ∷ []) ls))
    go (Err f) = refl

-- the lists from one on
loops_front : (all : List (Bor (List ℕ) × Bor (List ℕ))) (read : List program.Items) (i : ℕ)
    (d : Bor (List ℕ) × Bor (List ℕ)) → i < length all
    → loops (pair_texts all) ≡ prefixed (map (remaining_after 0) read) (loops (pair_texts (drop i all)))
    → loops (pair_texts all) ≡ prefixed (map (remaining_after 0) read) (loops (pair_texts (get_or all i d ∷ drop (i + 1) all)))
loops_front all read i d n h = h ∙ ap (λ ps. prefixed (map (remaining_after 0) read) (loops (pair_texts ps))) (drop_more all i d n)

-- a step over the lists
pub loops_step : (all : List (Bor (List ℕ) × Bor (List ℕ))) (read new : List program.Items) (i : ℕ)
    (d : Bor (List ℕ) × Bor (List ℕ)) (l : program.Items) → i < length all
    → loops (pair_texts all) ≡ prefixed (map (remaining_after 0) read) (loops (pair_texts (drop i all)))
    → one_loop ((get_or all i d).0.now, (get_or all i d).1.now) ≡ Ok (remaining_after 0 l) → new ≡ read ++ l ∷ []
    → loops (pair_texts all) ≡ prefixed (map (remaining_after 0) new) (loops (pair_texts (drop (i + 1) all)))
loops_step all read new i d l n h e f =
    rw (f, map-append (remaining_after 0) read (l ∷ []))
    (loops_front all read i d n h ∙ loops_prefixed (map (remaining_after 0) read) _ (pair_texts (drop (i + 1) all)) (remaining_after 0 l) e)

-- a list of them is refused
pub loops_refused : (all : List (Bor (List ℕ) × Bor (List ℕ))) (read : List program.Items) (i : ℕ)
    (d : Bor (List ℕ) × Bor (List ℕ)) (o : Option ValueReason) → i < length all
    → loops (pair_texts all) ≡ prefixed (map (remaining_after 0) read) (loops (pair_texts (drop i all)))
    → IfSome o (λ r. one_loop ((get_or all i d).0.now, (get_or all i d).1.now) ≡ Err r) → IfSome o (λ r. loops (pair_texts all) ≡ Err r)
loops_refused all read i d None n h e = e
loops_refused all read i d (Some r) n h e =
    loops_front all read i d n h ∙ refused (map (remaining_after 0) read) ((get_or all i d).0.now, (get_or all i d).1.now) (pair_texts (drop (i + 1) all)) e
  where
    refused : (done : List Items) (p : Text × Text) (ps : List (Text × Text)) → one_loop p ≡ Err r → prefixed done (loops (p ∷ ps)) ≡ Err r
    refused done p ps f = ap (prefixed done) (loops_first p ps) ∙ rw f refl

pub short_twos : (ws : List (String Global)) → length ws < 2 → in_pairs (map string_bytes ws) ≡ []
short_twos [] h = refl
short_twos (a ∷ []) h = refl
short_twos (a ∷ b ∷ ws) h = absurd (omega arith)
