-- Rows of bits.
use Rattle.std.proofs.Common.{◌≡◌, ◌≢◌, ◌↔◌, ℕ, ◌+◌, ◌*◌, ◌/◌, ◌%◌, ◌<◌, ◌≤◌, List, [], ◌∷◌, ◌++◌, length, get_or, drop}
use Rattle.std.proofs.Common.{Bool, true, false, IsTrue, refl, sym, ap, subst, ◌∙◌, arith, inl, inr, length-append}
use Rattle.std.proofs.Common.{append_assoc, append-nil, drop_at}
use Rattle.std.proofs.Math.ListN.{set}
use Rattle.std.specs.Int.{bit_at}
use Rattle.std.proofs.lemmas.Bool.{cases_eq}
use Rattle.std.proofs.lemmas.List.{get_or-set_same, get_or-set_other}
use Rattle.std.proofs.lemmas.Grind.{get_or-set_at}
use Rattle.tcltext.specs.pattern.Patterns as pattern
use Rattle.tcltext.specs.pattern.Patterns.{star, IsMatch}
use Rattle.tcltext.specs.pattern.Search.States.{Has, StatesOf}
use Rattle.tcltext.specs.pattern.Search.Windows.{Knows}
use Rattle.tcltext.specs.declared.pattern.tail.Window.{Window}
use Rattle.tcltext.proofs.pattern.PatternLemmas.{Parts, match_parts}
use Rattle.tcltext.proofs.pattern.TakeLemmas.{not_so, then_iff, star_ends, star_parts}

-- Writing a word of a row
pub put-here : (states : List ℕ) (at w : ℕ) (t : Bool) → at < 64 * length states → (bit_at w (at % 64) ≡ 1) ↔ IsTrue t → Has (set states (at / 64) w) at ↔ IsTrue t
put-here states at w t within h = subst (λ x. (bit_at x (at % 64) ≡ 1) ↔ IsTrue t) (sym (get_or-set_same states (at / 64) w 0 (omega arith))) h

pub put-elsewhere : (states : List ℕ) (at w : ℕ) → at < 64 * length states → ((k : ℕ) → k < 64 → k ≢ at % 64 → bit_at w k ≡ bit_at (get_or states (at / 64) 0) k)
    → (k : ℕ) → k ≢ at → Has (set states (at / 64) w) k ↔ Has states k
put-elsewhere states at w within same k other = elim (cases_eq (k / 64) (at / 64)) [
  | inl e ↦ (let bits : bit_at (get_or (set states (at / 64) w) (k / 64) 0) (k % 64) ≡ bit_at (get_or states (k / 64) 0) (k % 64) =
      ap (λ x. bit_at x (k % 64)) (get_or-set_at states (at / 64) (k / 64) w 0 e (omega arith)) ∙ same (k % 64) (omega arith) (λ f. other (omega arith))
      ∙ ap (λ x. bit_at (get_or states x 0) (k % 64)) (sym e) in (λ h. sym bits ∙ h, λ h. bits ∙ h))
  | inr n ↦ (let bits = ap (λ x. bit_at x (k % 64)) (get_or-set_other states (at / 64) (k / 64) w 0 n) in (λ h. sym bits ∙ h, λ h. bits ∙ h))
]

-- Tails of a pattern by their lengths
pub same_tail : (ps prefix xs prefix' ys : List ℕ) → ps ≡ prefix ++ xs → ps ≡ prefix' ++ ys → length xs ≡ length ys → xs ≡ ys
same_tail ps prefix xs prefix' ys e f n =
    let fronts : length prefix' ≡ length prefix = omega (arith, ap length e, ap length f, length-append prefix xs, length-append prefix' ys) in
    sym (ap (drop (length prefix)) e ∙ drop_at prefix xs (length prefix) refl) ∙ ap (drop (length prefix)) f ∙ drop_at prefix' ys (length prefix) fronts

no_longer : (ps prefix xs : List ℕ) → ps ≡ prefix ++ xs → length xs ≤ length ps
no_longer ps prefix xs e = omega (arith, ap length e, length-append prefix xs)

-- the bits of the tails of such lengths say whether Q holds of them
abbrev pub Marked : List ℕ → (ℕ → Type 0) → List ℕ → (List ℕ → Type 0) → Type 0
Marked ps At states Q = (prefix xs : List ℕ) → ps ≡ prefix ++ xs → At (length xs) → Has states (length xs) ↔ Q xs

marked-end : (ps states : List ℕ) (Q : List ℕ → Type 0) → Has states 0 ↔ Q [] → Marked ps (λ n. n ≤ 0) states Q
marked-end ps states Q h prefix [] e le = h
marked-end ps states Q h prefix (x ∷ xs) e le = absurd (omega arith)

marked-more : (ps prefix qs states states' : List ℕ) (t : Bool) (n m : ℕ) (Q : List ℕ → Type 0) → ps ≡ prefix ++ qs → length qs ≡ m → m ≡ n + 1 → IsTrue t ↔ Q qs → Has states' m ↔ IsTrue t
    → ((k : ℕ) → k ≢ m → Has states' k ↔ Has states k) → Marked ps (λ k. k ≤ n) states Q → Marked ps (λ k. k ≤ m) states' Q
marked-more ps prefix qs states states' t n m Q split count next same here elsewhere marked prefix' xs e le = elim (cases_eq (length xs) m) [
  | inl f ↦ (let tails : qs ≡ xs = same_tail ps prefix qs prefix' xs split e (omega arith) in
      subst (λ ys. Has states' (length ys) ↔ Q ys) tails (subst (λ k. Has states' k ↔ Q qs) (sym count) (then_iff here same)))
  | inr f ↦ then_iff (elsewhere (length xs) f) (marked prefix' xs e (omega arith))
]

marked-less : (ps states states' : List ℕ) (n m : ℕ) (Q : List ℕ → Type 0) → n ≤ m
    → ((k : ℕ) → k ≢ m → Has states' k ↔ Has states k) → Marked ps (λ k. n < k) states Q
    → Marked ps (λ k. m < k) states' Q
marked-less ps states states' n m Q le elsewhere marked prefix xs e lt = then_iff (elsewhere (length xs) (λ f. omega arith)) (marked prefix xs e (omega arith))

split-more : (ps prefix rest qs : List ℕ) (p : ℕ) → ps ≡ prefix ++ qs → prefix ≡ rest ++ p ∷ [] → ps ≡ rest ++ (p ∷ qs)
split-more ps prefix rest qs p e f = e ∙ ap (λ xs. xs ++ qs) f ∙ append_assoc rest (p ∷ []) qs

split-end : (ps prefix qs : List ℕ) → ps ≡ prefix ++ qs → prefix ≡ [] → ps ≡ qs
split-end ps prefix qs e f = e ∙ ap (λ xs. xs ++ qs) f

-- The row at the end of the text, as far as it is filled
pub record IsFilled (ps prefix states : List ℕ) (at : ℕ) (t : Bool) : Type 0 where
  pub qs : List ℕ
  pub split : ps ≡ prefix ++ qs
  pub count : length qs ≡ at
  pub stars : IsTrue t ↔ IsMatch qs []
  pub marked : Marked ps (λ n. n ≤ at) states (λ xs. IsMatch xs [])

pub filled-init : (ps states : List ℕ) → Has states 0 ↔ IsTrue true → IsFilled ps ps states 0 true
filled-init ps states here =
    let none : IsTrue true ↔ IsMatch [] [] = (λ h. pattern.IsMatch.both_end, λ m. refl) in
    record { qs = []; split = sym (append-nil ps); count = refl; stars = none; marked = marked-end ps states (λ xs. IsMatch xs []) (then_iff here none) }

stars-more : (p : ℕ) (qs : List ℕ) (t t' : Bool) → IsTrue t' ↔ ((p ≡ star) × IsTrue t) → IsTrue t ↔ IsMatch qs [] → IsTrue t' ↔ IsMatch (p ∷ qs) []
stars-more p qs t t' e h = (
  λ s. (let k = e.0 s in subst (λ x. IsMatch (x ∷ qs) []) (sym k.0) (pattern.IsMatch.any_text [] (h.0 k.1))),
  λ m. cases (match_parts m) m,
) where
  cases : Parts (p ∷ qs) [] → IsMatch (p ∷ qs) [] → IsTrue t'
  cases (inl k) m = e.1 (k.0, h.1 (star_ends qs (subst (λ x. IsMatch (x ∷ qs) []) k.0 m)))
  cases (inr k) m = absurd k

pub filled-more : (ps prefix rest states states' : List ℕ) (p at next : ℕ) (t t' : Bool)
    → IsFilled ps prefix states at t → prefix ≡ rest ++ p ∷ [] → next ≡ at + 1 → IsTrue t' ↔ ((p ≡ star) × IsTrue t)
    → Has states' next ↔ IsTrue t' → ((k : ℕ) → k ≢ next → Has states' k ↔ Has states k) → IsFilled ps rest states' next t'
filled-more ps prefix rest states states' p at next t t' f e n s here elsewhere =
    let split = split-more ps prefix rest f.qs p f.split e in
    let stars = stars-more p f.qs t t' s f.stars in
    let count : length (p ∷ f.qs) ≡ next = omega (arith, f.count) in
    record {
      qs = p ∷ f.qs;
      split = split;
      count = count;
      stars = stars;
      marked = marked-more ps rest (p ∷ f.qs) states
          states' t' at next (λ xs. IsMatch xs []) split count n stars here elsewhere f.marked;
    }

-- The row of one more character, as far as it is made
pub record IsSwept (ps prefix states : List ℕ) (at c : ℕ) (cs : List ℕ) (w : Window) : Type 0 where
  pub qs : List ℕ
  pub split : ps ≡ prefix ++ qs
  pub count : length qs ≡ at
  pub knows : Knows qs c cs w
  pub new : Marked ps (λ n. n ≤ at) states (λ xs. IsMatch xs (c ∷ cs))
  pub old : Marked ps (λ n. at < n) states (λ xs. IsMatch xs cs)

nothing_left : (c : ℕ) (cs : List ℕ) → IsMatch [] (c ∷ cs) → ⊥
nothing_left c cs m = never (match_parts m) where
  never : c ∷ cs ≡ [] → ⊥
  never e = cc

pub ends-states : (ps cs states : List ℕ) (t : Bool) → IsTrue t ↔ Has states 0 → StatesOf ps cs states → IsTrue t ↔ IsMatch [] cs
ends-states ps cs states t h r = then_iff h (r ps [] (sym (append-nil ps)))

pub swept-init : (ps cs states states' : List ℕ) (c : ℕ) (w : Window) → StatesOf ps cs states → Knows [] c cs w
    → Has states' 0 ↔ IsTrue false → ((k : ℕ) → k ≢ 0 → Has states' k ↔ Has states k) → IsSwept ps ps states' 0 c cs w
swept-init ps cs states states' c w r knows here elsewhere = record {
  qs = [];
  split = sym (append-nil ps);
  count = refl;
  knows = knows;
  new = marked-end ps states' (λ xs. IsMatch xs (c ∷ cs)) (then_iff here (not_so (nothing_left c cs)));
  old = λ prefix xs e lt. then_iff (elsewhere (length xs) (λ f. omega arith)) (r prefix xs e);
}

pub swept-matches_without : (ps prefix rest states : List ℕ) (p at next c : ℕ) (cs : List ℕ) (w : Window) (t : Bool)
    → (s : IsSwept ps prefix states at c cs w) → prefix ≡ rest ++ p ∷ [] → next ≡ at + 1 → IsTrue t ↔ Has states next
    → IsTrue t ↔ IsMatch (p ∷ s.qs) cs
swept-matches_without ps prefix rest states p at next c cs w t s e n has =
    let count : length (p ∷ s.qs) ≡ next = omega (arith, s.count) in
    then_iff has (subst (λ k. Has states k ↔ IsMatch (p ∷ s.qs) cs) count (s.old rest (p ∷ s.qs) (split-more ps prefix rest s.qs p s.split e) (omega (arith, s.count))))

pub swept-more : (ps prefix rest states states' : List ℕ) (p at next c : ℕ) (cs : List ℕ) (w w' : Window)
    → (s : IsSwept ps prefix states at c cs w) → prefix ≡ rest ++ p ∷ [] → next ≡ at + 1 → Knows (p ∷ s.qs) c cs w'
    → Has states' next ↔ IsTrue w'.takes → ((k : ℕ) → k ≢ next → Has states' k ↔ Has states k) → IsSwept ps rest states' next c cs w'
swept-more ps prefix rest states states' p at next c cs w w' s e n knows here elsewhere =
    let split = split-more ps prefix rest s.qs p s.split e in
    let count : length (p ∷ s.qs) ≡ next = omega (arith, s.count) in
    record {
      qs = p ∷ s.qs;
      split = split;
      count = count;
      knows = knows;
      new = marked-more ps rest (p ∷ s.qs) states states' w'.takes at next (λ xs. IsMatch xs (c ∷ cs)) split count n knows.takes here elsewhere s.new;
      old = marked-less ps states states' at next (λ xs. IsMatch xs cs) (omega arith) elsewhere s.old;
    }

pub swept-whole : (ps prefix states : List ℕ) (at c : ℕ) (cs : List ℕ) (w : Window) → prefix ≡ [] → IsSwept ps prefix states at c cs w → IsTrue w.takes ↔ IsMatch ps (c ∷ cs)
swept-whole ps prefix states at c cs w e s = subst (λ xs. IsTrue w.takes ↔ IsMatch xs (c ∷ cs)) (sym (split-end ps prefix s.qs s.split e)) s.knows.takes

pub swept-states : (ps prefix states : List ℕ) (at c : ℕ) (cs : List ℕ) (w : Window) → prefix ≡ [] → IsSwept ps prefix states at c cs w → StatesOf ps (c ∷ cs) states
swept-states ps prefix states at c cs w e s prefix' xs g =
    s.new prefix' xs g (omega (arith, no_longer ps prefix' xs g, ap length (split-end ps prefix s.qs s.split e), s.count))

-- A search from the end of the text, as far as it has come
pub record IsSearched (ps text rest states : List ℕ) : Type 0 where
  pub cs : List ℕ
  pub split : text ≡ rest ++ cs
  pub row_of : StatesOf ps cs states
  pub none : IsMatch (star ∷ ps) cs → ⊥

pub found_here : (ps text prefix cs : List ℕ) → text ≡ prefix ++ cs → IsMatch ps cs → IsTrue true ↔ IsMatch (star ∷ ps) text
found_here ps text prefix cs e m = (λ h. subst (IsMatch (star ∷ ps)) (sym e) (pattern.IsMatch.any_text prefix m), λ h. refl)

pub found_at_end : (ps text : List ℕ) → IsMatch ps [] → IsTrue true ↔ IsMatch (star ∷ ps) text
found_at_end ps text m = found_here ps text text [] (sym (append-nil text)) m

pub searched-init : (ps text states : List ℕ) → StatesOf ps [] states → (IsMatch ps [] → ⊥) → IsSearched ps text text states
searched-init ps text states r n = record { cs = []; split = sym (append-nil text); row_of = r; none = λ m. n (star_ends ps m) }

pub searched-found : (ps text rest prefix states : List ℕ) (c : ℕ) → (s : IsSearched ps text rest states) → rest ≡ prefix ++ c ∷ [] → IsMatch ps (c ∷ s.cs) → IsTrue true ↔ IsMatch (star ∷ ps) text
searched-found ps text rest prefix states c s e m = found_here ps text prefix (c ∷ s.cs) (split-more text rest prefix s.cs c s.split e) m

pub searched-more : (ps text rest prefix states states' : List ℕ) (c : ℕ) → (s : IsSearched ps text rest states)
    → rest ≡ prefix ++ c ∷ [] → StatesOf ps (c ∷ s.cs) states' → (IsMatch ps (c ∷ s.cs) → ⊥)
    → IsSearched ps text prefix states'
searched-more ps text rest prefix states states' c s e r n =
    record { cs = c ∷ s.cs; split = split-more text rest prefix s.cs c s.split e; row_of = r; none = λ m. elim (star_parts c ps s.cs m) [ inl k ↦ n k | inr k ↦ s.none k ] }
