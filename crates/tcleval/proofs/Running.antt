-- How an evaluation comes on in a derivation, besides the steps of words and expressions.
use Rattle.std.proofs.Common.{◌≡◌, ℕ, ◌+◌, ◌<◌, ◌≤◌, Bool, true, false, List, [], ◌∷◌, length, get_or, drop, drop-cons}
use Rattle.std.proofs.Common.{add-one, suc, map, String, Global, Vec, Result, Ok, Err, Option, Some, None, Bor, refl}
use Rattle.std.proofs.Common.{sym, ◌∙◌, ap, ◌++◌, append_assoc, append-nil, arith, rules}
use Rattle.std.specs.Prelude.{string_bytes, IsErrAnd, IfOk, IfSome, if◌then◌else◌, nat_le}
use Rattle.std.proofs.lemmas.Bool.Decides.{nat_tests}
use Rattle.std.proofs.lemmas.Bool.{ne_eqb}
use Rattle.tcltext.specs.script.Tree as tree
use Rattle.tcltext.specs.script.Tree.{commands_of, words_of}
use Rattle.tcltext.specs.script.View.{script_view, command_view, word_view, content_view, parts_view}
use Rattle.tcltext.specs.declared.script.tree.Script as rust_script
use Rattle.tcltext.specs.declared.script.tree.Command as rust_command
use Rattle.tcltext.specs.declared.script.tree.Word as rust_word
use Rattle.tcltext.specs.declared.script.tree.WordContent as rust_content
use Rattle.tcltext.specs.declared.script.tree.Part.{Part}
use Rattle.tclrules.specs.Derivation.{Runs, TooDeep}
use Rattle.tclrules.specs.Variables.{State}
use Rattle.tclrules.specs.Plans as plans
use Rattle.tclrules.specs.Plans.{Bounds, Completion, Normal, Raised, Items, ended, Job, Step, Next, on_normal, begin}
use Rattle.tclrules.specs.Plans.{halt, sized}
use Rattle.tclrules.specs.Simulates.{Point, Simulates}
use Rattle.tclrules.proofs.Leading.{stay, continue_with, starve, run_on, run_halts}
use Rattle.tcltext.specs.chars.Runs.{Text}
use Rattle.tcltext.specs.chars.Whole.{FailsWith}
use Rattle.tcltext.specs.declared.chars.fault.TextFault.{TextFault}
use Rattle.tcltext.specs.declared.chars.fault.TextFault.TheVariants as texts
use Rattle.tclvalue.specs.operators.Faults.{Answer, ValueReason, HasReason, reason_of, value_too_long}
use Rattle.tclvalue.specs.Limits.{limited}
use Rattle.tclvalue.specs.declared.operators.fault.ValueFault.{ValueFault}
use Rattle.tclvalue.specs.declared.operators.fault.ValueFault.TheVariants as faults
use Rattle.tclrules.specs.Rules.{parsed, core_command, body, branches, are_done, foreach_turns, assign, turn_pairs}
use Rattle.tclrules.specs.Rules.{turn, shortened, after_turn, after_next}
use Rattle.tclrules.specs.Expressions.{decide}
use Rattle.tclrules.specs.Forms.{Form}
use Rattle.tclforms.specs.Views.{transposed, pair_texts}
use Rattle.tclforms.proofs.substitution.Leading.{sized_on, sized_stops}
use Rattle.tclforms.specs.substitution.Stops.{after, error_or_halt, stopped, stop_of, text_stop}
use Rattle.tclrules.specs.declared.outcome.EvalFault.{EvalFault}
use Rattle.tclrules.specs.declared.outcome.EvalFault.TheVariants as evals
use Rattle.tclforms.specs.declared.substitution.stop.Stop.{Stop}
use Rattle.tclforms.specs.declared.substitution.stop.Stop.TheVariants as stops
use Rattle.tclcommands.specs.declared.result_use.ResultUse.{ResultUse}
use Rattle.tclcommands.specs.declared.result_use.ResultUse.TheVariants.{Needed, Dropped}
use Rattle.tclcommands.specs.Completions.{EvaluatesToText, finish, sized_next, completed}
use Rattle.tcleval.specs.cache.Trees.{BeginsWith}
use Rattle.tcleval.specs.cache.Kept.{Kept, BeginWith}
use Rattle.tcleval.specs.OnlyGrows.{OnlyGrows}
use Rattle.tcleval.specs.declared.evaluator.Evaluator.{Evaluator}

-- a job that stopped by a fault: an error goes on, all else halts
fault_on : {most : ℕ} {r : Job → Step} {j : Job} {x y : Point} (k : Completion → Step) (s : State) (f : EvalFault)
    → Simulates most r (r j) x (stopped (stops.Fault f) s) y
    → Simulates most r (Runs j k) x (error_or_halt (λ m. k (Raised m s)) halt f) y
fault_on k s evals.OutOfMemory h = run_halts h
fault_on k s (evals.Text t) h = run_halts h
fault_on k s (evals.TclError m line) h = run_on h
fault_on k s evals.TooManyCommands h = run_halts h
fault_on k s evals.TooDeep h = run_halts h
fault_on k s evals.ValueTooLong h = run_halts h
fault_on k s evals.NumberTooLarge h = run_halts h
fault_on k s evals.FractionOperand h = run_halts h
fault_on k s (evals.LeftOut name) h = run_halts h
fault_on k s evals.Stopped h = run_halts h
fault_on k s (evals.Host n) h = run_halts h

-- a script whose result is wanted, in what goes on with how it ended, and with its result alone
pub run_known : {most : ℕ} {r : Job → Step} {j : Job} {x y : Point} (k : Completion → Step) (s : State) (limit : ℕ)
    (res : Result (String Global) Stop) → EvaluatesToText Needed limit res
    (λ u. Simulates most r (r j) x (after res (λ v s'. finish u s') s) y)
    → Simulates most r (Runs j k) x (completed res k s) y
run_known k s limit (Ok v) h = rw (h.1.1 refl) (run_on h.2)
run_known k s limit (Err (stops.Returned u)) h = run_on h.2
run_known k s limit (Err stops.Broken) h = run_on h.2
run_known k s limit (Err stops.Continued) h = run_on h.2
run_known k s limit (Err (stops.Fault f)) h = fault_on k s f h.2

pub run_normal : {most : ℕ} {r : Job → Step} {j : Job} {x y : Point} (k : Next) (s : State) (limit : ℕ)
    (res : Result (String Global) Stop) → EvaluatesToText Needed limit res
    (λ u. Simulates most r (r j) x (after res (λ v s'. finish u s') s) y)
    → Simulates most r (Runs j (on_normal k)) x (after res (λ v s'. k (string_bytes v) s') s) y
run_normal k s limit (Ok v) h = rw (h.1.1 refl) (run_on h.2)
run_normal k s limit (Err (stops.Returned u)) h = run_on h.2
run_normal k s limit (Err stops.Broken) h = run_on h.2
run_normal k s limit (Err stops.Continued) h = run_on h.2
run_normal k s limit (Err (stops.Fault f)) h = fault_on (on_normal k) s f h.2

-- a script whose result is that of a command
pub run_comes : {most : ℕ} {r : Job → Step} {j : Job} {x y : Point} (result_use : ResultUse) (limit : ℕ) (s : State)
    (res : Result (String Global) Stop) → EvaluatesToText result_use limit res
    (λ u. Simulates most r (r j) x (after res (λ v s'. finish u s') s) y)
    → EvaluatesToText result_use limit res (λ u. (k : Next) → Simulates most r (Runs j (on_normal (sized_next limit k)))
    x (after res (λ v s'. k u s') s) y)
run_comes result_use limit s (Ok v) h = (h.0, h.1, λ k. continue_with (run_on h.2) (sized_on limit h.0 _ h.1.0))
run_comes result_use limit s (Err (stops.Returned u)) h = (h.0, h.1, λ k. run_on h.2)
run_comes result_use limit s (Err stops.Broken) h = (h.0, h.1, λ k. run_on h.2)
run_comes result_use limit s (Err stops.Continued) h = (h.0, h.1, λ k. run_on h.2)
run_comes result_use limit s (Err (stops.Fault f)) h = (h.0, h.1, λ k. fault_on (on_normal (sized_next limit k)) s f h.2)

-- a script whose result nobody looks at: a turn of a loop, and what stands between turns
pub run_turn : {most : ℕ} {r : Job → Step} {j : Job} {x y : Point} (b : Bounds) (again : State → Step) (s : State) (limit : ℕ)
    (res : Result (String Global) Stop) → EvaluatesToText Dropped limit res
    (λ u. Simulates most r (r j) x (after res (λ v s'. finish u s') s) y)
    → Simulates most r (Runs j (after_turn b again)) x (completed res (after_turn b again) s) y
run_turn b again s limit (Ok v) h = run_on h.2
run_turn b again s limit (Err (stops.Returned u)) h = run_on h.2
run_turn b again s limit (Err stops.Broken) h = run_on h.2
run_turn b again s limit (Err stops.Continued) h = run_on h.2
run_turn b again s limit (Err (stops.Fault f)) h = fault_on (after_turn b again) s f h.2

pub run_next : {most : ℕ} {r : Job → Step} {j : Job} {x y : Point} (b : Bounds) (again : State → Step) (s : State) (limit : ℕ)
    (res : Result (String Global) Stop) → EvaluatesToText Dropped limit res
    (λ u. Simulates most r (r j) x (after res (λ v s'. finish u s') s) y)
    → Simulates most r (Runs j (after_next b again)) x (completed res (after_next b again) s) y
run_next b again s limit (Ok v) h = run_on h.2
run_next b again s limit (Err (stops.Returned u)) h = run_on h.2
run_next b again s limit (Err stops.Broken) h = run_on h.2
run_next b again s limit (Err stops.Continued) h = run_on h.2
run_next b again s limit (Err (stops.Fault f)) h = fault_on (after_next b again) s f h.2

-- a command that stops, and a script
pub comes_stopped : {most : ℕ} {r : Job → Step} {p : Next → Step} {x y : Point} (result_use : ResultUse) (limit : ℕ)
    (s : State) (e : Stop) (res : Result (String Global) Stop) → IsErrAnd res (λ f. f ≡ e)
    → ((k : Next) → Simulates most r (p k) x (stopped e s) y)
    → EvaluatesToText result_use limit res (λ u. (k : Next) → Simulates most r (p k) x (after res (λ v s'. k u s') s) y)
comes_stopped result_use limit s e (Ok v) h l = absurd h
comes_stopped result_use limit s e (Err f) h l = ([], tt, λ k. rw h (l k))

pub comes_cut : {most : ℕ} {r : Job → Step} {p : Step} {x y : Point} (result_use : ResultUse) (limit : ℕ) (s : State)
    (e : Stop) (res : Result (String Global) Stop) → IsErrAnd res (λ f. f ≡ e) → Simulates most r p x (stopped e s) y
    → EvaluatesToText result_use limit res (λ u. Simulates most r p x (after res (λ v s'. finish u s') s) y)
comes_cut result_use limit s e (Ok v) h l = absurd h
comes_cut result_use limit s e (Err f) h l = ([], tt, rw h l)

-- a script that stops, before something that follows its result
pub comes_cut_before : {most : ℕ} {r : Job → Step} {p : Step} {x y : Point} (result_use : ResultUse) (limit : ℕ) (s : State)
    (e : Stop) (res : Result (String Global) Stop) (next : Text → State → Step) → IsErrAnd res (λ f. f ≡ e)
    → Simulates most r p x (stopped e s) y
    → EvaluatesToText result_use limit res (λ u. Simulates most r p x (after res (λ v s'. next u s') s) y)
comes_cut_before result_use limit s e (Ok v) next h l = absurd h
comes_cut_before result_use limit s e (Err f) next h l = ([], tt, rw h l)

-- a result within the limit
pub sized_comes : (result_use : ResultUse) (limit : ℕ) (s : State) (p : Next → Step) (res : Result (String Global) Stop)
    → IfOk res (λ v. length (string_bytes v) ≤ limit) →
    ((most : ℕ) (r : Job → Step) (k : Next) (x : Point)
    → Simulates most r (p k) x (after res (λ v s'. k (string_bytes v) s') s) x)
    → EvaluatesToText result_use limit res (λ u. (most : ℕ) (r : Job → Step) (k : Next) (x : Point) → Simulates most r
    (p k) x (after res (λ v s'. k u s') s) x)
sized_comes result_use limit s p (Ok v) h l = (string_bytes v, (h, λ e. refl), l)
sized_comes result_use limit s p (Err f) h l = ([], tt, l)

-- a script that may begin, and one that is too deep
pub begin_on : {most : ℕ} {r : Job → Step} {x : Point} (remaining : ℕ) (p : Step) → 0 < remaining → Simulates most r (begin remaining p) x p x
begin_on remaining p h = rw (ne_eqb remaining 0 (λ e. omega (arith, h, e))) stay

pub begin_stops : {most : ℕ} {r : Job → Step} {x : Point} (remaining : ℕ) (p : Step) → remaining ≡ 0 → Simulates most r (begin remaining p) x (halt TooDeep) x
begin_stops remaining p h = rw h stay

-- what is left of a list, where something is left
pub drop_here : {A : Type 0} (xs : List A) (i : ℕ) (x : A) → i < length xs → x ≡ get_or xs i x → drop i xs ≡ x ∷ drop (i + 1) xs
drop_here xs i x h e = rw add-one (drop-cons xs i x h ∙ ap (λ y. y ∷ drop (suc i) xs) (sym e))

-- what is left of a list of conditions with their bodies, where something is left
drop_at : {A : Type 0} (xs : List A) (i : ℕ) (d : A) → i < length xs → drop i xs ≡ get_or xs i d ∷ drop (i + 1) xs
drop_at xs i d h = rw add-one (drop-cons xs i d h)

abbrev pub on_branch : Bounds → Text → List (Text × Text) → Option Text → Next → Bool → State → Step
on_branch b t ps other k = elim [ true ↦ (λ s. body b t s (on_normal k)) | false ↦ (λ s. branches b ps other s k) ]

pub branch_on : {most : ℕ} {r : Job → Step} {p : Step} {x y : Point} (b : Bounds)
    (xs : List (Bor (List ℕ) × Bor (List ℕ))) (i : ℕ) (d : Bor (List ℕ) × Bor (List ℕ)) (other : Option Text)
    (s : State) (k : Next) → i < length xs → Simulates most r p x (branches b (pair_texts (drop i xs)) other s k) y
    → Simulates most r p x (decide b (get_or xs i d).0.now s
    (on_branch b (get_or xs i d).1.now (pair_texts (drop (i + 1) xs)) other k)) y
branch_on b xs i d other s k h l = rw (drop_at xs i d h) at l

-- a foreach that is done, and one that goes on
pub foreach_done : {most : ℕ} {r : Job → Step} {x : Point} (b : Bounds) (ls : List Items) (t : Text) (s : State)
    → are_done ls ≡ true → Simulates most r (foreach_turns b ls t s) x (ended (Normal [] s)) x
foreach_done b ls t s e = rw e stay

pub foreach_more : {most : ℕ} {r : Job → Step} {x : Point} (b : Bounds) (ls : List Items) (t : Text) (s : State)
    → are_done ls ≡ false → Simulates most r (foreach_turns b ls t s) x
    (assign b (turn_pairs ls) s (λ s1. turn b t s1 (λ s2. Runs (plans.Foreach b.remaining (shortened ls) t s2) ended)))
    x
foreach_more b ls t s e = rw e stay

-- trees, level by level
module _ {P : Type 0} (range_text : P → Text) where
  pub script_commands : (s : rust_script.Script P) → script_view range_text s ≡ commands_of (map (command_view range_text) (rust_script.out-Script P s).commands.items)
  script_commands s = search (rules, rust_script.the_lemmas)

  pub command_words : (c : rust_command.Command P) → (command_view range_text c).words ≡ words_of (map (word_view range_text) (rust_command.out-Command P c).words.items)
  command_words c = search (rules, rust_command.the_lemmas)

  pub command_place : (c : rust_command.Command P) → (command_view range_text c).offset ≡ (rust_command.out-Command P c).offset
  command_place c = search (rules, rust_command.the_lemmas)

  pub word_content : (w : rust_word.Word P) → word_view range_text w ≡ tree.word_of (rust_word.out-Word P w).expands (content_view range_text (rust_word.out-Word P w).content)
  word_content w = search (rules, rust_word.the_lemmas)

  pub content_bare : (s : P) → content_view range_text (rust_content.Bare s) ≡ tree.part (tree.literal (range_text s)) tree.no_parts
  content_bare s = search (rules, rust_content.the_lemmas)

  pub content_braced : (s : P) → content_view range_text (rust_content.Braced s) ≡ tree.part (tree.braced (range_text s)) tree.no_parts
  content_braced s = search (rules, rust_content.the_lemmas)

  pub content_parts : (v : Vec (Part P) Global) → content_view range_text (rust_content.Parts v) ≡ parts_view range_text v.items
  content_parts v = search (rules, rust_content.the_lemmas)

-- later and later
pub begins_refl : {A : Type 0} {xs : List A} → BeginsWith xs xs
begins_refl {A} {xs} = ([], sym (append-nil xs))

begins_on : {A : Type 0} (xs ys zs : List A) → BeginsWith xs ys → BeginsWith ys zs → BeginsWith xs zs
begins_on xs ys zs a b = (a.0 ++ b.0, b.1 ∙ ap (λ l. l ++ b.0) a.1 ∙ append_assoc xs a.0 b.0)

begin_with_on : (a b c : Kept) → BeginWith a b → BeginWith b c → BeginWith a c
begin_with_on a b c h k = (begins_on a.scripts b.scripts c.scripts h.0 k.0, begins_on a.expressions b.expressions c.expressions h.1 k.1)

pub later_still : {a b : Evaluator} → b.used ≡ a.used → b.cache ≡ a.cache → OnlyGrows a b
later_still u k = record { rises = omega (arith, u); begins = rw k (begins_refl, begins_refl) }

pub later_refl : {a : Evaluator} → OnlyGrows a a
later_refl = later_still refl refl

pub later_on : {a b c : Evaluator} → OnlyGrows a b → OnlyGrows b c → OnlyGrows a c
later_on {a} {b} {c} l m = record { rises = omega (arith, l.rises, m.rises); begins = begin_with_on a.cache b.cache c.cache l.begins m.begins }

-- a command or a turn is counted
pub later_counted : {a b : Evaluator} → b.used ≡ a.used + 1 → b.cache ≡ a.cache → OnlyGrows a b
later_counted u k = record { rises = omega (arith, u); begins = rw k (begins_refl, begins_refl) }

-- a text is parsed
pub later_begun : {a b : Evaluator} → b.used ≡ a.used → BeginWith a.cache b.cache → OnlyGrows a b
later_begun u k = record { rises = omega (arith, u); begins = k }

pub later_parsed : {a b c : Evaluator} → b.used ≡ a.used → BeginWith a.cache b.cache → OnlyGrows b c → OnlyGrows a c
later_parsed u k l = later_on (later_begun u k) l

-- variables change besides
pub later_beside : {a a' b b' : Evaluator} → a'.used ≡ a.used → a'.cache ≡ a.cache → b'.used ≡ b.used → b'.cache ≡ b.cache → OnlyGrows a' b' → OnlyGrows a b
later_beside u k v l h = later_on (later_still u k) (later_on h (later_still (sym v) (sym l)))

-- a text that is no script
pub text_stops : {most : ℕ} {r : Job → Step} {x : Point} (f : TextFault) (read : Result tree.Commands TextFault)
    (k : tree.Commands → Step) (s : State) → FailsWith f read
    → Simulates most r (parsed read k) x (stopped (text_stop f) s) x
text_stops texts.OutOfMemory read k s h = starve
text_stops (texts.OpenBrace at) read k s h = rw h stay
text_stops (texts.OpenQuote at) read k s h = rw h stay
text_stops (texts.OpenBracket at) read k s h = rw h stay
text_stops (texts.JoinedToClose at) read k s h = rw h stay
text_stops texts.TooDeep read k s h = rw h stay
text_stops (texts.BadCharacter at) read k s h = rw h stay
text_stops (texts.BadExpression at) read k s h = rw h stay
text_stops texts.TooLong read k s h = rw h stay

-- a text that was made within the limit, and one that is too long
at_most : (a b : ℕ) → nat_le a b ≡ true → a ≤ b
at_most a b e = grind (arith, nat_tests)

above : (a b : ℕ) → nat_le a b ≡ false → b < a
above a b e = grind (arith, nat_tests)

abbrev limited_if : Bool → Text → Answer Text
limited_if b t = if b then Ok t else Err value_too_long

limited_by : (b : Bool) (t u : Text) → limited_if b t ≡ Ok u → (b ≡ true) × (u ≡ t)
limited_by true t u h = (refl, cc)
limited_by false t u h = absurd (cc)

pub limited_on : (limit : ℕ) (t u : Text) → limited limit t ≡ Ok u → (length t ≤ limit) × (u ≡ t)
limited_on limit t u h = let p = limited_by (nat_le (length t) limit) t u h in (at_most _ _ p.0, p.1)

too_long_by : (b : Bool) (t : Text) (r : ValueReason) → limited_if b t ≡ Err r → (b ≡ false) × (r ≡ value_too_long)
too_long_by true t r h = absurd (cc)
too_long_by false t r h = (refl, cc)

pub limited_stops : {most : ℕ} {r : Job → Step} {x : Point} (limit : ℕ) (t : Text) (e : ValueFault) (p : Step)
    (s : State) → IfSome (reason_of e) (λ f. limited limit t ≡ Err f)
    → Simulates most r (sized limit t p) x (stopped (stop_of e) s) x
limited_stops limit t faults.OutOfMemory p s h = starve
limited_stops limit t (faults.Text f) p s h = absurd (let q = (too_long_by (nat_le (length t) limit) t _ h).1 in cc)
limited_stops limit t (faults.TclError m) p s h = absurd (let q = (too_long_by (nat_le (length t) limit) t _ h).1 in cc)
limited_stops limit t faults.ValueTooLong p s h = sized_stops limit t p (above _ _ (too_long_by (nat_le (length t) limit) t _ h).0)
limited_stops limit t faults.NumberTooLarge p s h = absurd (let q = (too_long_by (nat_le (length t) limit) t _ h).1 in cc)
limited_stops limit t faults.FractionOperand p s h = absurd (let q = (too_long_by (nat_le (length t) limit) t _ h).1 in cc)
limited_stops limit t (faults.LeftOut n) p s h = absurd (let q = (too_long_by (nat_le (length t) limit) t _ h).1 in cc)

-- facts on results
pub ok_any : {A : Type 0} (res : Result A Stop) (P : Type 0) → P → IfOk res (λ a. P)
ok_any (Ok a) P h = h
ok_any (Err e) P h = tt

pub counted_on : (most top a b : ℕ) (res : Result Bool Stop) → a ≤ b → IfOk res (λ more. (b < most) × (b < top)) → IfOk res (λ more. more ≡ true → (a < most) × (a < top))
counted_on most top a b (Ok more) l h = λ e. (omega (arith, h.0), omega (arith, h.1))
counted_on most top a b (Err e) l h = tt

pub none_of : {A : Type 0} (o : Option A) → ((x : A) → o ≡ Some x → ⊥) → o ≡ None
none_of None h = refl
none_of (Some x) h = absurd (h x refl)

-- the answer of the words of a core command, transposed back
pub turned_err : {A : Type 0} (o : Option (Answer A)) (f : ValueReason) → transposed o ≡ Err f → o ≡ Some (Err f)
turned_err None f h = absurd (cc)
turned_err (Some (Ok x)) f h = absurd (cc)
turned_err (Some (Err g)) f h = cc

pub turned_some : {A : Type 0} (o : Option (Answer A)) (x : A) → transposed o ≡ Ok (Some x) → o ≡ Some (Ok x)
turned_some None x h = absurd (cc)
turned_some (Some (Ok y)) x h = cc
turned_some (Some (Err g)) x h = absurd (cc)

pub turned_none : {A : Type 0} (o : Option (Answer A)) → transposed o ≡ Ok None → o ≡ None
turned_none None h = refl
turned_none (Some (Ok y)) h = absurd (cc)
turned_none (Some (Err g)) h = absurd (cc)

-- a core command whose words are wrong
pub core_stops : {most : ℕ} {r : Job → Step} {x : Point} (b : Bounds) (name : Text) (ws : List Text) (s : State)
    (k : Next) (e : ValueFault) (o : Option (Answer Form)) → IfSome (reason_of e) (λ f. transposed o ≡ Err f)
    → Simulates most r (core_command b name ws s k o) x (stopped (stop_of e) s) x
core_stops b name ws s k faults.OutOfMemory o h = starve
core_stops b name ws s k (faults.Text f) o h = rw (turned_err o _ h) stay
core_stops b name ws s k (faults.TclError m) o h = rw (turned_err o _ h) stay
core_stops b name ws s k faults.ValueTooLong o h = rw (turned_err o _ h) stay
core_stops b name ws s k faults.NumberTooLarge o h = rw (turned_err o _ h) stay
core_stops b name ws s k faults.FractionOperand o h = rw (turned_err o _ h) stay
core_stops b name ws s k (faults.LeftOut n) o h = rw (turned_err o _ h) stay
