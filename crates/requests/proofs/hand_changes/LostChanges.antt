-- The worked examples, by computation: a change by hand is one more entry of what was written.
use Rattle.std.proofs.Common.{◌≡◌, ℕ, Bool, true, false, List, [], ◌∷◌, ◌++◌, refl, sym, ap, ◌∙◌, subst, Some, None}
use Rattle.std.specs.Prelude.{◌+◌, ◌||◌, bytes_eq, codes, nat_lt}
use Rattle.std.specs.Fmt.{digits}
use Rattle.std.proofs.lemmas.Bool.{false≢true}
use Rattle.envvars.specs.Texts.{Text, has}
use Rattle.envvars.specs.Names.{stack_name}
use Rattle.envvars.specs.Environment.{Environment, lookup}
use Rattle.envvars.specs.Fields.{colon}
use Rattle.envvars.specs.Changes.{same_value}
use Rattle.envvars.proofs.TextLemmas.{same_text}
use Rattle.envstate.specs.paths.Paths.{PathState}
use Rattle.envstate.specs.paths.PathVariables.{path_in, with_path}
use Rattle.envstate.specs.paths.PathOrder.{IsPathInOrder}
use Rattle.envstate.specs.paths.PathRuns.{IsPathStartWith}
use Rattle.modulefile.specs.Records.{Record, Set}
use Rattle.modulefile.specs.Moves.{Move, Loads, Unloads}
use Rattle.reversal.specs.VariableUses.{VariableUse, Untouched, Fixed, Pathed, Stacked, Suits}
use Rattle.reversal.specs.Live.{live_adds}
use Rattle.reversal.specs.Starts.{IsStart, IsStartWith}
use Rattle.reversal.specs.Runs.{live_after, AreReversible}
use Rattle.reversal.specs.Examples.{only_use, variable, first_module, second_module, add_front, push_value}
use Rattle.reversal.specs.Examples.{there_and_back, without_records}
use Rattle.reversal.proofs.Histories.{History, env, seen, lookup_seen, path_at, path_seen, path_written, played, played_leads}
use Rattle.reversal.proofs.Lost.{end_of, differ, nothing_listed, start_at, path_ordered}
use Rattle.requests.specs.hand_changes.HandChanges.{HandChange, IsHandChange}
use Rattle.requests.proofs.hand_changes.PathChanges.{by_test}
use Rattle.requests.specs.hand_changes.Examples.{ChangedBetween, LoseChange, given, ElementTakenOut, PathEmptied}
use Rattle.requests.specs.hand_changes.Examples.{CountedElementTakenOut, LoneElementTakenOut, CounterLeft, path_start, live_module, IsWrong}
use Rattle.requests.specs.hand_changes.Examples.{with_all_counted, without_live_elements, CountersForgotten, ElementOfStartTaken}
use Rattle.requests.specs.hand_changes.Examples.{PushedValueChanged, SetValueChanged, LoadedNamesChanged}

-- what was written with the change, and in the end
abbrev with_change : HandChange → History → History
with_change c h = (c.variable, c.value) ∷ h

abbrev last_of : List Move → HandChange → List Move → History → History
last_of before c after h = end_of after (with_change c (end_of before h))

-- both runs are played to their ends
record ArePlayed (before : List Move) (c : HandChange) (after : List Move) (h : History) : Type 0 where
  first : played before h ≡ Some (end_of before h)
  second : played after (with_change c (end_of before h)) ≡ Some (last_of before c after h)

changed_between : (uses : Text → VariableUse) (h : History) (before : List Move) (c : HandChange) (after : List Move)
    → IsStart uses (env h) → AreReversible uses [] (before ++ after) → ArePlayed before c after h
    → ChangedBetween uses (env h) before c after
changed_between uses h before c after s r p = record {
  begins = s;
  reversible = r;
  between = env (end_of before h);
  reach = played_leads before h (end_of before h) p.first;
  end = env (last_of before c after h);
  reach_end = played_leads after (with_change c (end_of before h)) (last_of before c after h) p.second;
}

-- with no live module in the end, and a variable that isn't as the same change makes it of the start
lose_change : (uses : Text → VariableUse) (h : History) (before : List Move) (c : HandChange) (after : List Move) (q : Text)
    → IsStart uses (env h) → AreReversible uses [] (before ++ after) → ArePlayed before c after h → live_after [] (before ++ after) ≡ []
    → same_value (seen (last_of before c after h) q) (seen (with_change c h) q) ≡ false → LoseChange uses (env h) before c after
unfolding changed_between
lose_change uses h before c after q s r p n d = record {
  moves = changed_between uses h before c after s r p;
  none = n;
  lost = λ e. differ (seen (last_of before c after h) q) (seen (with_change c h) q) d
      (sym (lookup_seen (last_of before c after h) q) ∙ ap (λ (t : Environment). lookup t q) e ∙ lookup_seen (with_change c h) q);
}

-- one module of one record, loaded and unloaded
alone : (uses : Text → VariableUse) (r : Record) → Suits uses r → AreReversible uses [] (there_and_back r)
alone uses r s = (record { suits = (s, tt); sets_apart = λ v t. refl }, (record { loaded = _; found = refl; alike = refl }, tt))

-- an element that live modules have added is there
true_after : (b : Bool) → (b || true) ≡ true
true_after true = refl
true_after false = refl

stays_there : (start now : PathState) (live : Text → ℕ) (x : Text) → IsPathStartWith start live now → nat_lt 0 (live x) ≡ true → has x now.elements ≡ true
stays_there start now live x s l = s.inside x ∙ ap (λ (b : Bool). has x start.elements || b) l ∙ true_after (has x start.elements)

-- the start where nothing was written and no variable is used
untouched_start : IsStart (λ v. Untouched) (env [])
untouched_start = record {
  order = record { loaded = nothing_listed [] refl refl refl refl; paths = λ v d f q. absurd cc; stacks = λ v xs f q i. absurd cc };
  fixed = λ v value f q. absurd cc;
  absent = λ v f q. absurd cc;
}

-- the moves of the first example, and the end that they reach
abbrev first_loaded : List Move
first_loaded = Loads (first_module (add_front ∷ [])) ∷ []

abbrev then_second_alone : List Move
then_second_alone = Loads (second_module (add_front ∷ [])) ∷ Unloads (first_module (add_front ∷ [])) ∷ []

abbrev path_of : Text → History
path_of start_value = (variable, Some start_value) ∷ []

abbrev end_of_path : Text → History
end_of_path start_value = last_of first_loaded (given (codes "/b")) then_second_alone (path_of start_value)

two_reversible : AreReversible (only_use variable (Pathed colon)) [] (first_loaded ++ then_second_alone)
two_reversible = (
  record { suits = ((refl, refl), tt); sets_apart = λ v s. refl },
  (record { suits = ((refl, refl), tt); sets_apart = λ v s. refl }, (record { loaded = _; found = refl; alike = refl }, tt)),
)

path_start_at : (start_value : Text) → IsPathInOrder (env (path_of start_value)) variable colon → IsStart (only_use variable (Pathed colon)) (env (path_of start_value))
path_start_at start_value o = start_at variable (Pathed colon) (env (path_of start_value)) (nothing_listed (path_of start_value) refl refl refl refl) o

element_taken_out : (start_value : Text) → IsPathInOrder (env (path_of start_value)) variable colon → ArePlayed first_loaded (given (codes "/b")) then_second_alone (path_of start_value)
    → has (codes "/a") (path_at (end_of_path start_value) variable colon).elements ≡ false → ElementTakenOut start_value
unfolding changed_between
element_taken_out start_value o p gone = record {
  moves = changed_between (only_use variable (Pathed colon)) (path_of start_value) first_loaded (given (codes "/b")) then_second_alone (path_start_at start_value o) two_reversible p;
  differs = λ b s. false≢true (sym gone ∙ ap (λ (t : PathState). has (codes "/a") t.elements) (sym (path_seen (end_of_path start_value) variable colon))
      ∙ stays_there _ _ _ (codes "/a") (s.variables variable refl).state refl);
}

pub counted_element : CountedElementTakenOut
unfolding digits
counted_element = element_taken_out (codes "/a") (path_ordered (path_of (codes "/a")) variable colon refl refl) (record { first = refl; second = refl }) refl

pub lone_element : LoneElementTakenOut
lone_element = element_taken_out (codes "/b") (path_ordered (path_of (codes "/b")) variable colon refl refl) (record { first = refl; second = refl }) refl

pub counter_left : CounterLeft
unfolding digits
counter_left =
    let h : History = (variable, Some (codes "/b:/c")) ∷ (codes "__MODULES_SHARE_V", Some (codes "/b:2")) ∷ [] in
    lose_change (only_use variable (Pathed colon)) h [] (given (codes "/c")) (there_and_back add_front) (codes "__MODULES_SHARE_V")
    (start_at variable (Pathed colon) (env h) (nothing_listed h refl refl refl refl) (path_ordered h variable colon refl refl))
    (alone _ add_front (refl, refl)) (record { first = refl; second = refl }) refl refl

pub path_emptied : PathEmptied
path_emptied =
    let h : History = (variable, Some (codes "/b")) ∷ [] in
    lose_change (only_use variable (Pathed colon)) h [] (given []) (there_and_back add_front) variable
    (start_at variable (Pathed colon) (env h) (nothing_listed h refl refl refl refl) (path_ordered h variable colon refl refl))
    (alone _ add_front (refl, refl)) (record { first = refl; second = refl }) refl refl

pub pushed_value : PushedValueChanged
pushed_value =
    lose_change (only_use variable Stacked) [] (Loads (first_module (push_value ∷ [])) ∷ []) (given (codes "z"))
    (Unloads (first_module (push_value ∷ [])) ∷ []) variable
    (start_at variable Stacked (env []) (nothing_listed [] refl refl refl refl) (lookup_seen [] (stack_name variable)))
    (alone _ push_value (refl, refl)) (record { first = refl; second = refl }) refl refl

pub set_value : SetValueChanged
set_value =
    lose_change (only_use variable (Fixed None)) [] (Loads (first_module (Set variable (codes "x") ∷ [])) ∷ []) (given (codes "z"))
    (Unloads (first_module (Set variable (codes "x") ∷ [])) ∷ []) variable
    (start_at variable (Fixed None) (env []) (nothing_listed [] refl refl refl refl) (lookup_seen [] variable))
    (alone _ (Set variable (codes "x")) (refl, refl)) (record { first = refl; second = refl }) refl refl

pub loaded_names : LoadedNamesChanged
loaded_names =
    lose_change (λ v. Untouched) [] [] (record { variable = codes "LOADEDMODULES"; value = Some [] }) without_records
    (codes "LOADEDMODULES") untouched_start
    (record { suits = tt; sets_apart = λ v s. refl }, (record { loaded = _; found = refl; alike = refl }, tt))
    (record { first = refl; second = refl }) refl refl

-- ---- wrong starts after a change

abbrev between : History
between = end_of first_loaded (path_of (codes "/a"))

abbrev changed_path : History
changed_path = with_change (given (codes "/c:/a")) between

abbrev wrong_start : (PathState → (Text → ℕ) → PathState → PathState) → History
wrong_start wrong =
    path_written (path_of (codes "/a")) variable colon (wrong (path_at (path_of (codes "/a")) variable colon) (live_adds variable live_module) (path_at changed_path variable colon))

adds_of_a : (x : Text) → nat_lt 0 (live_adds variable live_module x) ≡ bytes_eq x (codes "/a")
adds_of_a x = by_test (bytes_eq x (codes "/a")) _ (λ t. rw t refl) (λ t. rw t refl)

has_a : (x : Text) → bytes_eq x (codes "/a") ≡ true → has x (path_at changed_path variable colon).elements ≡ true
has_a x t = ap (λ (y : Text). has y (path_at changed_path variable colon).elements) (same_text x (codes "/a") t) ∙ refl

may_change : IsHandChange (only_use variable (Pathed colon)) live_module (env between) (given (codes "/c:/a"))
unfolding digits
may_change = record {
  order = path_ordered changed_path variable colon refl refl;
  there = λ x h. ap (λ (t : PathState). has x t.elements) (path_seen changed_path variable colon) ∙ has_a x (sym (adds_of_a x) ∙ h);
}

is_wrong : (wrong : PathState → (Text → ℕ) → PathState → PathState) (n : ℕ) → (path_at (wrong_start wrong) variable colon).counter (codes "/a") ≡ n → (2 ≡ n + 1 → ⊥) → IsWrong wrong
unfolding digits
is_wrong wrong n c d = record {
  begins = path_start_at (codes "/a") (path_ordered (path_of (codes "/a")) variable colon refl refl);
  between = env between;
  reach = played_leads first_loaded (path_of (codes "/a")) between refl;
  may = may_change;
  differs = λ s. d (counted s);
}
  where
    same : wrong (path_in path_start variable colon) (live_adds variable live_module) (path_in (env changed_path) variable colon)
        ≡ wrong (path_at (path_of (codes "/a")) variable colon) (live_adds variable live_module) (path_at changed_path variable colon)
    same = ap (λ (p : PathState). wrong p (live_adds variable live_module) (path_in (env changed_path) variable colon)) (path_seen (path_of (codes "/a")) variable colon)
        ∙ ap (wrong (path_at (path_of (codes "/a")) variable colon) (live_adds variable live_module)) (path_seen changed_path variable colon)

    counted : IsStartWith (only_use variable (Pathed colon))
        (with_path path_start variable colon (wrong (path_in path_start variable colon) (live_adds variable live_module) (path_in (env changed_path) variable colon)))
        live_module (env changed_path) → 2 ≡ n + 1
    counted s =
        let h : IsStartWith (only_use variable (Pathed colon)) (env (wrong_start wrong)) live_module (env changed_path) =
        subst (λ (p : PathState). IsStartWith (only_use variable (Pathed colon)) (with_path path_start variable colon p) live_module (env changed_path)) same s in
        ap (λ (p : PathState). p.counter (codes "/a")) (sym (path_seen changed_path variable colon))
        ∙ (h.variables variable refl).state.counters (codes "/a")
        ∙ ap (λ (k : ℕ). k + 1) (ap (λ (p : PathState). p.counter (codes "/a")) (path_seen (wrong_start wrong) variable colon) ∙ c)

pub counters_forgotten : CountersForgotten
unfolding digits
counters_forgotten = is_wrong with_all_counted 2 refl (λ h. absurd cc)

pub element_of_start_taken : ElementOfStartTaken
unfolding digits
element_of_start_taken = is_wrong without_live_elements 0 refl (λ h. absurd cc)
