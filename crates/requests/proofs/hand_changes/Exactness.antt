-- That there is one start below live modules, and that no more may be changed by hand.
use Rattle.std.proofs.Common.{◌≡◌, ◌⊎◌, ℕ, ◌+◌, Bool, true, false, ◌||◌, List, [], ◌∷◌, ◌++◌, refl, sym, ap, ◌∙◌, subst}
use Rattle.std.proofs.Common.{arith, length, Option, Some, None, inl, inr}
use Rattle.std.specs.Prelude.{nat_lt, unwrap_or}
use Rattle.std.specs.List.{list_all}
use Rattle.std.proofs.lemmas.Option.{same_Some}
use Rattle.modulename.specs.ModuleName.{is_module_name}
use Rattle.envvars.specs.Texts.{Text, has}
use Rattle.envvars.specs.Names.{share_name, stack_name}
use Rattle.envvars.specs.Environment.{Environment, lookup, with_value}
use Rattle.envvars.proofs.EnvLemmas.{same_environment, with_value-same}
use Rattle.envstate.specs.paths.Paths.{PathState, IsPathState}
use Rattle.envstate.specs.paths.PathRuns.{IsPathStartWith}
use Rattle.envstate.specs.paths.PathVariables.{path_in}
use Rattle.envstate.proofs.paths.PathLemmas.{same_state}
use Rattle.envstate.proofs.paths.Readable.{IsWritable-state_of}
use Rattle.envstate.specs.stacks.Stacks.{OwnedValue, StackState, visible, items_or_bottom, without_lone_bottom}
use Rattle.envstate.specs.stacks.StackTexts.{items_in}
use Rattle.envstate.specs.stacks.StackRuns.{IsOwnedStart, items_of, start_with_pushes}
use Rattle.envstate.specs.stacks.StackVariables.{stack_in, stack_from, IsStackInOrder}
use Rattle.envstate.specs.loaded_list.LoadedTexts.{names_variable, files_variable, conflicts_variable, prereqs_variable}
use Rattle.envstate.specs.loaded_list.Loaded.{Entry, names_of, loaded_in}
use Rattle.envstate.specs.Roles.{VariableRole, role_of, is_editable, IsNameOf}
use Rattle.envstate.specs.Roles.VariableRole.{Variable, Counters, Stack, LoadedNames, LoadedFiles, LoadedConflicts}
use Rattle.envstate.specs.Roles.VariableRole.{LoadedPrereqs, Other}
use Rattle.envstate.proofs.RoleLemmas.{name_of_role}
use Rattle.envstate.proofs.StateLemmas.{start_of, state_of_written, one_path, one_stack, one_list, list_in_order}
use Rattle.modulefile.specs.Moves.{Module, entry_of}
use Rattle.reversal.specs.VariableUses.{VariableUse, Untouched, Fixed, Absent, Pathed, Stacked}
use Rattle.reversal.specs.Live.{live_set, live_adds, live_pushes, entries_over}
use Rattle.reversal.specs.Starts.{IsInOrder, IsStart, HasValue, HasStack, IsPermutation, none, next, swap, transitive}
use Rattle.reversal.specs.Starts.{HasVariable, IsStartWith}
use Rattle.reversal.specs.Laws.{Holds}
use Rattle.requests.specs.hand_changes.HandChanges.{HandChange, changed, use_of_role, MayChange}
use Rattle.requests.specs.hand_changes.Exactness.{OneStart, NoMoreMayChange}
use Rattle.requests.proofs.hand_changes.PathChanges.{filter_agree}
use Rattle.requests.proofs.hand_changes.OneChange.{set_beside}

-- ---- one path

alike_counted : (h g : Bool) (n m k j : ℕ) → h ≡ nat_lt 0 n → g ≡ nat_lt 0 m → j ≡ n + k → j ≡ m + k → h ≡ g
alike_counted h g n m k j e f p q = let z : n ≡ m = omega arith in e ∙ ap (nat_lt 0) z ∙ sym f

one_path_start : (b c e : PathState) (live : Text → ℕ) → IsPathState b → IsPathState c → IsPathStartWith b live e → IsPathStartWith c live e → b ≡ c
one_path_start b c e live s t h k =
    same_state b c
    (sym h.order ∙ filter_agree (λ x. has x b.elements) (λ x. has x c.elements) e.elements
    (λ x i. alike_counted (has x b.elements) (has x c.elements) (b.counter x) (c.counter x) (live x) (e.counter x) (s x) (t x) (h.counters x) (k.counters x)) ∙ k.order)
    (λ x. let p : e.counter x ≡ b.counter x + live x = h.counters x in let q : e.counter x ≡ c.counter x + live x = k.counters x in omega arith)

-- ---- one stack

-- what pushes are put on tells the stack below
owned_below : (items : List OwnedValue) (value : Option Text) → IsOwnedStart (record { items = items; value = value })
    → (without_lone_bottom (items_or_bottom items value) ≡ items) × (visible (items_or_bottom items value) ≡ value)
owned_below [] None h = (refl, refl)
owned_below [] (Some v) h = (refl, refl)
owned_below (i ∷ items) value (inl h) = absurd cc
owned_below (i ∷ items) value (inr h) = (rw h.0 refl, sym h.1)

same_stack : (x y : StackState) → x.items ≡ y.items → x.value ≡ y.value → x ≡ y
same_stack x y h k = λ i. record { items = h i; value = k i }

one_below : (x y : StackState) → IsOwnedStart x → IsOwnedStart y → items_or_bottom x.items x.value ≡ items_or_bottom y.items y.value → x ≡ y
one_below x y s t h =
    let p = owned_below x.items x.value s in
    let q = owned_below y.items y.value t in
    same_stack x y (sym p.0 ∙ ap without_lone_bottom h ∙ q.0) (sym p.1 ∙ ap visible h ∙ q.1)

order_length : (ps qs : List (Text × Text)) → IsPermutation ps qs → length ps ≡ length qs
order_length ps qs none = refl
order_length ps qs (next {p = p} {ps = a} {qs = b} h) = let z : length a ≡ length b = order_length a b h in omega (arith, z)
order_length ps qs swap = refl
order_length ps qs (transitive {ps = a} {qs = b} {rs = c} h k) = order_length a b h ∙ order_length b c k

abbrev rest : List OwnedValue → List OwnedValue
rest [] = []
rest (i ∷ items) = items

below_pushes : (ps qs : List (Text × Text)) (xs ys : List OwnedValue) → length ps ≡ length qs → items_of ps ++ xs ≡ items_of qs ++ ys → xs ≡ ys
below_pushes [] [] xs ys n h = h
below_pushes [] (q ∷ qs) xs ys n h = absurd cc
below_pushes (p ∷ ps) [] xs ys n h = absurd cc
below_pushes (p ∷ ps) (q ∷ qs) xs ys n h = below_pushes ps qs xs ys (let z : length ps ≡ length qs = omega (arith, n) in z) (ap rest h)

one_base : (x y : StackState) (ps qs : List (Text × Text)) → IsOwnedStart x → IsOwnedStart y → length ps ≡ length qs → start_with_pushes x ps ≡ start_with_pushes y qs → x ≡ y
one_base x y [] [] s t n h = h
one_base x y [] (q ∷ qs) s t n h = absurd cc
one_base x y (p ∷ ps) [] s t n h = absurd cc
one_base x y (p ∷ ps) (q ∷ qs) s t n h = one_below x y s t (below_pushes (p ∷ ps) (q ∷ qs) _ _ n (ap (λ (z : StackState). z.items) h))

owned_base : (loaded : List Text) (b : Environment) (v : Text) (base : StackState) → list_all is_module_name loaded ≡ true → IsStackInOrder loaded b v → stack_in b v ≡ Some base → IsOwnedStart base
owned_base loaded b v base n o h =
    let s = start_of loaded b v n o in
    subst IsOwnedStart (same_Some s.0 base (sym s.1.found ∙ h)) s.1.owned

one_stack_start : (loaded others : List Text) (b c e : Environment) (v : Text) (live : List (Text × Text)) → list_all is_module_name loaded ≡ true → list_all is_module_name others ≡ true
    → IsStackInOrder loaded b v → IsStackInOrder others c v → HasStack b e v live → HasStack c e v live → stack_in c v ≡ stack_in b v
one_stack_start loaded others b c e v live n m o p h k =
    let z : h.base ≡ k.base = one_base h.base k.base h.pushes k.pushes (owned_base loaded b v h.base n o h.found) (owned_base others c v k.base m p k.found)
    (order_length h.pushes live h.order ∙ sym (order_length k.pushes live k.order)) (same_Some _ _ (sym h.state ∙ k.state)) in
    k.found ∙ ap Some (sym z) ∙ sym h.found

-- ---- the loaded list

not_none : (xs : List Entry) (x : Entry) → xs ++ x ∷ [] ≡ [] → ⊥
not_none [] x h = cc
not_none (y ∷ xs) x h = cc

abbrev later : List Entry → List Entry
later [] = []
later (x ∷ xs) = xs

without_last : (xs ys : List Entry) (x : Entry) → xs ++ x ∷ [] ≡ ys ++ x ∷ [] → xs ≡ ys
without_last [] [] x h = refl
without_last [] (y ∷ ys) x h = absurd (not_none ys x (sym (ap later h)))
without_last (y ∷ xs) [] x h = absurd (not_none xs x (ap later h))
without_last (y ∷ xs) (z ∷ ys) x h =
    let first : y ≡ z = cc in
    let same : xs ≡ ys = without_last xs ys x (ap later h) in
    rw (first, same) refl

below_live : (xs ys : List Entry) (live : List Module) → entries_over xs live ≡ entries_over ys live → xs ≡ ys
below_live xs ys [] h = h
below_live xs ys (m ∷ live) h = below_live xs ys live (without_last (entries_over xs live) (entries_over ys live) (entry_of m) h)

-- ---- one start

starts_agree : (uses : Text → VariableUse) (b c e : Environment) (live : List Module) → IsStart uses b → IsStart uses c → IsStartWith uses b live e → IsStartWith uses c live e → c ≡ b
starts_agree uses b c e live s t w x = same_environment c b (λ n. go n (role_of n) refl (name_of_role n))
  where
    cell : (v : Text) → is_editable v ≡ true → (y : VariableUse) → uses v ≡ y → HasVariable y b v live e → HasVariable y c v live e → HasValue b c v (lookup b v)
    cell v f Untouched u h k = record { value = sym k.value ∙ h.value; counters = sym k.counters ∙ h.counters; stack = sym k.stack ∙ h.stack }
    cell v f (Fixed value) u h k = record { value = t.fixed v value f u ∙ sym (s.fixed v value f u); counters = sym k.counters ∙ h.counters; stack = sym k.stack ∙ h.stack }
    cell v f Absent u h k = record { value = t.absent v f u ∙ sym (s.absent v f u); counters = sym k.counters ∙ h.counters; stack = sym k.stack ∙ h.stack }
    cell v f (Pathed d) u h k =
        let same = one_path_start (path_in c v d) (path_in b v d) (path_in e v d) (live_adds v live)
        (IsWritable-state_of d (lookup c v) (lookup c (share_name v))).valid (IsWritable-state_of d (lookup b v) (lookup b (share_name v))).valid k.state h.state in
        let z = one_path c b v d (t.order.paths v d f u) (s.order.paths v d f u) same in
        record { value = z.elements; counters = z.counters; stack = sym k.stack ∙ h.stack }
    cell v f Stacked u h k =
        let p = list_in_order b s.order.loaded in
        let q = list_in_order c t.order.loaded in
        let same = one_stack_start (names_of p.0) (names_of q.0) b c e v (live_pushes v live) p.2.names q.2.names
        (s.order.stacks v p.0 f u p.1) (t.order.stacks v q.0 f u q.1) h k in
        let z = one_stack (names_of q.0) (names_of p.0) c b v q.2.names p.2.names (t.order.stacks v q.0 f u q.1) (s.order.stacks v p.0 f u p.1) same in
        record { value = z.value; counters = sym k.counters ∙ h.counters; stack = z.stack }

    texts : (v : Text) → is_editable v ≡ true → HasValue b c v (lookup b v)
    texts v f = cell v f (uses v) refl (w.variables v f) (x.variables v f)

    loaded : loaded_in c ≡ loaded_in b
    loaded =
        let p = list_in_order b s.order.loaded in
        let q = list_in_order c t.order.loaded in
        let same : q.0 ≡ p.0 = below_live q.0 p.0 live (same_Some _ _ (sym (x.entries q.0 q.1) ∙ w.entries p.0 p.1)) in
        q.1 ∙ ap Some same ∙ sym p.1

    list : (lookup c names_variable ≡ lookup b names_variable) × (lookup c files_variable ≡ lookup b files_variable)
        × (lookup c conflicts_variable ≡ lookup b conflicts_variable)
        × (lookup c prereqs_variable ≡ lookup b prereqs_variable)
    list = let p = one_list c b t.order.loaded s.order.loaded loaded in (p.names, p.files, p.conflicts, p.prereqs)

    at : (n m : Text) → n ≡ m → lookup c m ≡ lookup b m → lookup c n ≡ lookup b n
    at n m q h = subst (λ (t : Text). lookup c t ≡ lookup b t) (sym q) h

    go : (n : Text) (p : VariableRole) → role_of n ≡ p → IsNameOf n (role_of n) → lookup c n ≡ lookup b n
    go n (Variable v) q i = let j : IsNameOf n (Variable v) = subst (IsNameOf n) q i in at n v j.1 (texts v j.0).value
    go n (Counters v) q i = let j : IsNameOf n (Counters v) = subst (IsNameOf n) q i in at n (share_name v) j.1 (texts v j.0).counters
    go n (Stack v) q i = let j : IsNameOf n (Stack v) = subst (IsNameOf n) q i in at n (stack_name v) j.1 (texts v j.0).stack
    go n LoadedNames q i = let j : IsNameOf n LoadedNames = subst (IsNameOf n) q i in at n names_variable j list.0
    go n LoadedFiles q i = let j : IsNameOf n LoadedFiles = subst (IsNameOf n) q i in at n files_variable j list.1
    go n LoadedConflicts q i = let j : IsNameOf n LoadedConflicts = subst (IsNameOf n) q i in at n conflicts_variable j list.2
    go n LoadedPrereqs q i = let j : IsNameOf n LoadedPrereqs = subst (IsNameOf n) q i in at n prereqs_variable j list.3
    go n Other q i = sym (x.others n q) ∙ w.others n q

pub one_start : OneStart
one_start uses start other e live s t w x = starts_agree uses other start e live t s x w

-- ---- no more may be changed

same_items : (o : Option (List OwnedValue)) (x y : Option Text) (s t : StackState) → stack_from o x ≡ Some s → stack_from o y ≡ Some t → s.items ≡ t.items
same_items None x y s t h k = absurd cc
same_items (Some items) x y s t h k = ap (λ (z : StackState). z.items) (sym (same_Some _ s h)) ∙ ap (λ (z : StackState). z.items) (same_Some _ t k)

-- two stacks of one text, both in order, have one value, or there is no stack
one_value : (loaded others : List Text) (d e : Environment) (v : Text) → list_all is_module_name loaded ≡ true → list_all is_module_name others ≡ true
    → IsStackInOrder loaded d v → IsStackInOrder others e v → lookup d (stack_name v) ≡ lookup e (stack_name v)
    → (lookup e (stack_name v) ≡ None) ⊎ (lookup d v ≡ lookup e v)
one_value loaded others d e v n m (inl h) p t = inl (sym t ∙ h)
one_value loaded others d e v n m (inr w) (inl h) t = inl h
one_value loaded others d e v n m (inr w) (inr x) t =
    let same : w.items ≡ x.items = same_items (items_in (lookup d (stack_name v))) (lookup d v) (lookup e v) _ _
    (state_of_written loaded d v n w)
    (ap (λ (u : Option Text). stack_from (items_in u) (lookup e v)) t ∙ state_of_written others e v m x) in
    inr (w.value ∙ ap visible same ∙ sym x.value)

-- where the variable had the value that it is given, nothing changes
nothing : (e : Environment) (c : HandChange) → lookup (changed c e) c.variable ≡ c.value → lookup (changed c e) c.variable ≡ lookup e c.variable → changed c e ≡ e
nothing e c h k = ap (with_value e c.variable) (sym h ∙ k) ∙ with_value-same e c.variable

or_true : (b : Bool) → (b || true) ≡ true
or_true true = refl
or_true false = refl

by_use : (uses : Text → VariableUse) (b d e : Environment) (live : List Module) (c : HandChange) (y : VariableUse) → IsStart uses b → IsInOrder uses e → IsStart uses d → Holds uses d live (changed c e)
    → is_editable c.variable ≡ true → uses c.variable ≡ y → HasVariable y b c.variable live e → HasVariable y d c.variable live (changed c e)
    → MayChange (Some y) live e c ⊎ (changed c e ≡ e)
by_use uses b d e live c Untouched s o t a f u h k = inl tt
by_use uses b d e live c (Fixed value) s o t a f u h k =
    let same : lookup b c.variable ≡ lookup d c.variable = s.fixed c.variable value f u ∙ sym (t.fixed c.variable value f u) in
    inr (nothing e c (set_beside b e c f).value (k.value ∙ ap (λ (z : Option Text). unwrap_or (live_set c.variable live) z) (sym same) ∙ sym h.value))
by_use uses b d e live c Absent s o t a f u h k =
    let same : lookup b c.variable ≡ lookup d c.variable = s.absent c.variable f u ∙ sym (t.absent c.variable f u) in
    inr (nothing e c (set_beside b e c f).value (k.value ∙ sym same ∙ sym h.value))
by_use uses b d e live c (Pathed delim) s o t a f u h k =
    inl (record {
      order = a.order.paths c.variable delim f u;
      there = λ x l. k.state.inside x ∙ rw l (or_true (has x (path_in d c.variable delim).elements));
    })
by_use uses b d e live c Stacked s o t a f u h k =
    let p = list_in_order (changed c e) a.order.loaded in
    let q = list_in_order e o.loaded in
    let z = set_beside b e c f in
    told z.value (one_value (names_of p.0) (names_of q.0) (changed c e) e c.variable p.2.names q.2.names
    (a.order.stacks c.variable p.0 f u p.1) (o.stacks c.variable q.0 f u q.1) z.stack)
  where
    told : lookup (changed c e) c.variable ≡ c.value → (lookup e (stack_name c.variable) ≡ None) ⊎ (lookup (changed c e) c.variable ≡ lookup e c.variable)
        → (lookup e (stack_name c.variable) ≡ None) ⊎ (changed c e ≡ e)
    told g (inl i) = inl i
    told g (inr i) = inr (nothing e c g i)

by_role : (uses : Text → VariableUse) (b d e : Environment) (live : List Module) (c : HandChange) (y : VariableUse) (p : VariableRole) → IsStart uses b → IsInOrder uses e → IsStartWith uses b live e
    → IsStart uses d → Holds uses d live (changed c e) → IsNameOf c.variable p → use_of_role uses p ≡ Some y → MayChange (use_of_role uses p) live e c ⊎ (changed c e ≡ e)
by_role uses b d e live c y (Variable v) s o w t a n h =
    let f : is_editable c.variable ≡ true = subst (λ (q : Text). is_editable q ≡ true) (sym n.1) n.0 in
    let u : uses c.variable ≡ uses v = ap uses n.1 in
    by_use uses b d e live c (uses v) s o t a f u (subst (λ (z : VariableUse). HasVariable z b c.variable live e) u (w.variables c.variable f))
    (subst (λ (z : VariableUse). HasVariable z d c.variable live (changed c e)) u (a.start_with_live.variables c.variable f))
by_role uses b d e live c y (Counters v) s o w t a n h = absurd cc
by_role uses b d e live c y (Stack v) s o w t a n h = absurd cc
by_role uses b d e live c y LoadedNames s o w t a n h = absurd cc
by_role uses b d e live c y LoadedFiles s o w t a n h = absurd cc
by_role uses b d e live c y LoadedConflicts s o w t a n h = absurd cc
by_role uses b d e live c y LoadedPrereqs s o w t a n h = absurd cc
by_role uses b d e live c y Other s o w t a n h = inl tt

pub no_more : NoMoreMayChange
no_more uses b d e live c y s o w h t a = by_role uses b d e live c y (role_of c.variable) s o w t a (name_of_role c.variable) h
