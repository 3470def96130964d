-- What was asked was answered by the oracle, after some of the commands.
use Rattle.std.proofs.Common.{◌≡◌, ℕ, Bool, true, false, if◌then◌else◌, List, [], ◌∷◌, ◌++◌, ◌⊎◌, ⊎_elim, inl, inr}
use Rattle.std.proofs.Common.{refl, ap, subst, ◌∙◌}
use Rattle.std.proofs.lemmas.List.{append_assoc}
use Rattle.tclrules.specs.Oracle.{CommandWords, OracleAnswer, Oracle, Question, OfCommand, OfVariable, is_question, asked_with}
use Rattle.tclrules.specs.Derivation.{EvaluationOutcome, Plan, Query, Command, Variable, World, Eval, ends, counts}
use Rattle.tclrules.specs.Derivation.{meets_limit, moves, consults, reads, runs, halts, lacks_memory, question_of}
use Rattle.tclrules.proofs.Consultations.{records_more}

-- it is one of the list
abbrev pub Among : Question → List Question → Type 0
Among q [] = ⊥
Among q (x ∷ xs) = (q ≡ x) ⊎ Among q xs

pub among_either : (q : Question) (xs ys : List Question) → Among q (xs ++ ys) → Among q xs ⊎ Among q ys
among_either q [] ys a = inr a
among_either q (x ∷ xs) ys (inl e) = inl (inl e)
among_either q (x ∷ xs) ys (inr a) = ⊎_elim (λ i. inl (inr i)) (λ i. inr i) (among_either q xs ys a)

pub among_split : (before after : List Question) (q : Question) → Among q (before ++ q ∷ after)
among_split [] after q = inl refl
among_split (x ∷ before) after q = inr (among_split before after q)

last_one : (q p : Question) (xs : List Question) → Among q (xs ++ p ∷ []) → Among q xs ⊎ (q ≡ p)
last_one q p xs a = ⊎_elim (λ i. inl i) (λ i. ⊎_elim (λ e. inr e) (λ n. absurd n) i) (among_either q xs (p ∷ []) a)

-- the oracle's answer, after commands with which these begin
abbrev pub WasAnswered : Oracle → List CommandWords → Question → Type 0
WasAnswered oracle all q =
    (records rest : List CommandWords) × (all ≡ records ++ rest) × (query : Query) × (q ≡ question_of oracle records query)

longer : (oracle : Oracle) (all most more : List CommandWords) (q : Question) → all ≡ most ++ more → WasAnswered oracle most q → WasAnswered oracle all q
longer oracle all most more q e (records, rest, split, query, same) =
    (records, rest ++ more, e ∙ ap (λ l. l ++ more) split ∙ append_assoc records rest more, query, same)

in_words : (q : Question) (asked : List Question) (words : CommandWords) (a : OracleAnswer) → Among q (asked_with asked words a)
    → Among q asked ⊎ (q ≡ OfCommand words a)
in_words q asked words a h = go (is_question a) refl
  where
    go : (b : Bool) → is_question a ≡ b → Among q asked ⊎ (q ≡ OfCommand words a)
    go true e = last_one q (OfCommand words a) asked (subst (λ (b : Bool). Among q (if b then asked ++ OfCommand words a ∷ [] else asked)) e h)
    go false e = inl (subst (λ (b : Bool). Among q (if b then asked ++ OfCommand words a ∷ [] else asked)) e h)

pub was_answered : {J R : Type 0} {oracle : Oracle} {most : ℕ} {rule : J → Plan J R} {p : Plan J R} {w : World}
    {o : EvaluationOutcome R} {w' : World} → Eval false oracle most rule p w o w' → (q : Question)
    → Among q w'.trace.asked → Among q w.trace.asked ⊎ WasAnswered oracle w'.trace.records q
was_answered ends q a = inl a
was_answered (counts g d) q a = was_answered d q a
was_answered (meets_limit g) q a = inl a
was_answered (moves d) q a = was_answered d q a
was_answered {oracle = oracle} (consults {words = words} {k = k} {w = w} d) q a =
    ⊎_elim
    (λ i. ⊎_elim (λ before. inl before)
    (λ now. let m = records_more (consults {words = words} {k = k} {w = w} d) in inr (w.trace.records, m.0, m.1, Command words, now))
    (in_words q w.trace.asked words (oracle.command w.trace.records words) i))
    (λ i. inr i) (was_answered d q a)
was_answered {oracle = oracle} (reads {name = name} {w = w} d) q a =
    ⊎_elim
    (λ i. ⊎_elim (λ before. inl before) (λ now. let m = records_more d in inr (w.trace.records, m.0, m.1, Variable name, now))
    (last_one q (OfVariable name (oracle.variable w.trace.records name)) w.trace.asked i))
    (λ i. inr i) (was_answered d q a)
was_answered {oracle = oracle} {w' = w'} (runs {w' = v} d c) q a =
    ⊎_elim
    (λ i. ⊎_elim (λ before. inl before) (λ now. let m = records_more c in inr (longer oracle w'.trace.records v.trace.records m.0 q m.1 now)) (was_answered d q i))
    (λ i. inr i) (was_answered c q a)
was_answered (halts d) q a = was_answered d q a
was_answered (lacks_memory asked g) q a = absurd (cc)
