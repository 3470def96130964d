-- Counters that can rise by so many.
use Rattle.std.proofs.Common.{◌≡◌, ℕ, ◌+◌, ◌-◌, ◌≤◌, Bool, true, false, cond, List, [], ◌∷◌, sym}
use Rattle.std.proofs.Common.{arith, leb, ltb, Option, Some, None, Bor, subst}
use Rattle.std.specs.Prelude.{bytes_eq, unwrap_or, if◌then◌else◌}
use Rattle.std.specs.List.{list_all}
use Rattle.std.specs.Map as maps
use Rattle.std.proofs.lemmas.Bool.Decides.{nat_tests}
use Rattle.indexmap.specs.IndexMap.{IndexMap, values}
use Rattle.envvars.specs.Texts.{Text, has}
use Rattle.envvars.specs.Names.{share_name}
use Rattle.envvars.specs.Environment.{Environment, lookup}
use Rattle.envvars.proofs.EditLemmas.{both_true}
use Rattle.envstate.specs.paths.Paths.{PathState, HasRoom, largest_counter}
use Rattle.envstate.specs.paths.PathTexts.{state_of}
use Rattle.envstate.specs.paths.PathVariables.{path_in}
use Rattle.envstate.specs.paths.Tables.{counter_in, count_in, state_from_table}

at_most : (n most : ℕ) → leb n most ≡ true → n ≤ most
at_most n most h = grind (arith, nat_tests)

one_at : (b : Bool) (v most : ℕ) (o : Option ℕ) → v ≤ most → unwrap_or o 0 ≤ most → unwrap_or (cond b (Some v) o) 0 ≤ most
one_at true v most o e h = e
one_at false v most o e h = h

each_at : {K : Type 0} (test : K → Bool) (most : ℕ) (es : List (K × ℕ)) → list_all (λ n. leb n most) (maps.values_of es) ≡ true → unwrap_or (maps.lookup test es) 0 ≤ most
each_at test most [] h = omega arith
each_at test most (e ∷ es) h =
    let g = both_true (leb e.1 most) (list_all (λ n. leb n most) (maps.values_of es)) h in
    one_at (test e.0) e.1 most (maps.lookup test es) (at_most e.1 most g.0) (each_at test most es g.1)

risen : (n more : ℕ) → more ≤ largest_counter → n ≤ largest_counter - more → n + more ≤ largest_counter
risen n more m h = omega arith

-- what is read from both texts has room where each counter is small
pub counted_room : {S : Type 0} (m : IndexMap (Bor Text) ℕ S) (xs : List Text) (more : ℕ) (s : PathState) → more ≤ largest_counter → state_from_table xs (counter_in m) ≡ s
    → list_all (λ n. leb n (largest_counter - more)) (values m) ≡ true → HasRoom s more
counted_room m xs more s l e h =
    subst (λ (t : PathState). HasRoom t more) e (λ x. risen (count_in (counter_in m) x) more l (each_at (λ k. bytes_eq x k.now) (largest_counter - more) m.entries h))

once : (b : Bool) (more : ℕ) → ltb more largest_counter ≡ true → (if b then 1 else 0) + more ≤ largest_counter
once true more h = grind (arith, nat_tests)
once false more h = grind (arith, nat_tests)

-- where no counter is written, each is one
pub uncounted_room : (e : Environment) (name : Text) (d more : ℕ) → lookup e (share_name name) ≡ None → ltb more largest_counter ≡ true → HasRoom (path_in e name d) more
uncounted_room e name d more h l =
    subst (λ u. HasRoom (state_of d (lookup e name) u) more) (sym h) (λ x. once (has x (state_of d (lookup e name) None).elements) more l)
