-- What any two texts are read as can be written.
use Rattle.std.proofs.Common.{◌≡◌, ℕ, ◌<◌, ◌≤◌, Bool, true, false, cond, List, [], ◌∷◌, refl, arith, ltb, eqb, Option}
use Rattle.std.proofs.Common.{Some, None}
use Rattle.std.specs.Prelude.{bytes_eq, unwrap_or, is_some, if◌then◌else◌}
use Rattle.std.specs.Option.{option_or}
use Rattle.std.specs.List.{onto_first, AllByRecursion}
use Rattle.std.proofs.lemmas.Bool.Decides.{nat_tests}
use Rattle.envvars.specs.Texts.{Text, has}
use Rattle.envstate.specs.paths.Paths.{largest_counter}
use Rattle.envstate.specs.paths.Counters.{counter_of}
use Rattle.envstate.specs.paths.PathTexts.{split_elements, counter_in_pairs, pairs_of, elements_of, state_from_pairs}
use Rattle.envstate.specs.paths.PathTexts.{state_of, HasNoDelimiter, IsWritable}
use Rattle.envstate.proofs.paths.CounterLemmas.{SpellsCounter-counter_of}

unparted_onto : (d b : ℕ) (parts : List Text) → eqb b d ≡ false → AllByRecursion (HasNoDelimiter d) parts → AllByRecursion (HasNoDelimiter d) (onto_first b parts)
unparted_onto d b [] e h = ((rw e refl), h)
unparted_onto d b (p ∷ ps) e h = ((rw e h.0), h.1)

unparted_cut : (d b : ℕ) (parts : List Text) (t : Bool) → eqb b d ≡ t → AllByRecursion (HasNoDelimiter d) parts → AllByRecursion (HasNoDelimiter d) (cond t ([] ∷ parts) (onto_first b parts))
unparted_cut d b parts true e h = (refl, h)
unparted_cut d b parts false e h = unparted_onto d b parts e h

parted_unparted : (d : ℕ) (t : Text) → AllByRecursion (HasNoDelimiter d) (split_elements d t)
parted_unparted d [] = (refl, tt)
parted_unparted d (b ∷ bs) = unparted_cut d b (split_elements d bs) (eqb b d) refl (parted_unparted d bs)

-- between 1 and the largest counter
record IsCounter (k : ℕ) : Type 0 where
  low : 0 < k
  high : k ≤ largest_counter

counter_bounds : (t : Text) (k : ℕ) → counter_of t ≡ Some k → IsCounter k
counter_bounds t k e = let h = SpellsCounter-counter_of t k e in let l : 1 ≤ k = h.low in record { low = omega arith; high = h.high }

or_bounds : (o p : Option ℕ) (b : Bool) (k : ℕ) → ((j : ℕ) → o ≡ Some j → IsCounter j) → ((j : ℕ) → p ≡ Some j → IsCounter j) → option_or (if b then o else None) p ≡ Some k → IsCounter k
or_bounds (Some i) p true k h g e = h k e
or_bounds None p true k h g e = g k e
or_bounds o p false k h g e = g k e

counted_bounds : (x : Text) (ps : List (Text × Text)) (k : ℕ) → counter_in_pairs x ps ≡ Some k → IsCounter k
counted_bounds x [] k e = cc
counted_bounds x (p ∷ ps) k e = or_bounds (counter_of p.1) (counter_in_pairs x ps) (bytes_eq x p.0) k (counter_bounds p.1) (counted_bounds x ps) e

counter_read : (h : Bool) (o : Option ℕ) → ((k : ℕ) → o ≡ Some k → IsCounter k) → (h ≡ ltb 0 (if h then unwrap_or o 1 else 0)) × ((if h then unwrap_or o 1 else 0) ≤ largest_counter)
counter_read true (Some k) b = let l : IsCounter k = b k refl in let a : 0 < k = l.low in let u : k ≤ largest_counter = l.high in (grind (arith, nat_tests), u)
counter_read true None b = (refl, omega arith)
counter_read false o b = (refl, omega arith)

lone_unparted : (d : ℕ) (b : Bool) → AllByRecursion (HasNoDelimiter d) (if b then [] ∷ [] else [])
lone_unparted d true = (refl, tt)
lone_unparted d false = tt

elements_unparted : (d : ℕ) (t : Option Text) (ps : List (Text × Text)) → AllByRecursion (HasNoDelimiter d) (elements_of d t ps)
elements_unparted d None ps = tt
elements_unparted d (Some []) ps = lone_unparted d (is_some (counter_in_pairs [] ps))
elements_unparted d (Some (b ∷ bs)) ps = parted_unparted d (b ∷ bs)

pub IsWritable-state_from_pairs : (d : ℕ) (t : Option Text) (ps : List (Text × Text)) → IsWritable d (state_from_pairs d t ps)
IsWritable-state_from_pairs d t ps = record {
  valid = λ x. (counter_read (has x (elements_of d t ps)) (counter_in_pairs x ps) (counted_bounds x ps)).0;
  fit = λ x. (counter_read (has x (elements_of d t ps)) (counter_in_pairs x ps) (counted_bounds x ps)).1;
  no_delimiter = elements_unparted d t ps;
}

pub IsWritable-state_of : (d : ℕ) (t u : Option Text) → IsWritable d (state_of d t u)
IsWritable-state_of d t u = IsWritable-state_from_pairs d t (pairs_of u)
