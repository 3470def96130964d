-- What is answered to a text, from the list of the program.
use Rattle.std.proofs.Common.{◌≡◌, ℕ, true, false, [], ◌∷◌, ◌++◌, length, Option, Some, None, Result, Ok, Err, refl}
use Rattle.std.proofs.Common.{sym, ap, ◌∙◌}
use Rattle.std.specs.Prelude.{bytes_eq, IsErrAnd}
use Rattle.std.specs.List.{position}
use Rattle.std.proofs.lemmas.List.{map-append}
use Rattle.tcltext.specs.chars.Runs.{Text}
use Rattle.tcltext.specs.chars.Whole.{FailsWith}
use Rattle.tcltext.specs.declared.chars.fault.TextFault.{TextFault}
use Rattle.tcleval.specs.cache.Trees.{Trees, AnswersIndex, texts_of, index_of, is_full, map_trees}

module _ {T U : Type 0} (view : T → U) where
  texts_seen : (es : Trees T) → texts_of (map_trees view es) ≡ texts_of es
  texts_seen [] = refl
  texts_seen (e ∷ es) = ap (λ ts. e.0 ∷ ts) (texts_seen es)

  length_seen : (es : Trees T) → length (map_trees view es) ≡ length es
  length_seen [] = refl
  length_seen (e ∷ es) = simp (length_seen es)

  place_seen : (es : Trees T) (t : Text) → index_of (map_trees view es) t ≡ index_of es t
  place_seen es t = ap (position (bytes_eq t)) (texts_seen es)

  full_seen : (es : Trees T) (t : Text) → is_full (map_trees view es) t ≡ is_full es t
  full_seen es t = rw (texts_seen es, length_seen es) refl

  module _ (read : Text → Result U TextFault) (es : Trees T) (t : Text) where
    pub there_answers : (i : ℕ) → index_of es t ≡ Some i → AnswersIndex read (map_trees view es) t (Ok (Some i)) (map_trees view es)
    there_answers i h = record {
      there = λ j g. (ap Ok (sym h ∙ sym (place_seen es t) ∙ g), refl);
      full = λ g f. absurd (none_some (sym g ∙ place_seen es t ∙ h));
      added = λ g f. absurd (none_some (sym g ∙ place_seen es t ∙ h));
    }
      where
        none_some : None ≡ Some i → ⊥
        none_some e = cc

    pub full_answers : index_of es t ≡ None → is_full es t ≡ true → AnswersIndex read (map_trees view es) t (Ok None) (map_trees view es)
    full_answers h f = record {
      there = λ j g. absurd (none_some j (sym h ∙ sym (place_seen es t) ∙ g));
      full = λ g e. (refl, refl);
      added = λ g e. absurd (false_true (sym e ∙ full_seen es t ∙ f));
    }
      where
        none_some : (j : ℕ) → None ≡ Some j → ⊥
        none_some j e = cc

        false_true : false ≡ true → ⊥
        false_true e = cc

    module _ (h : index_of es t ≡ None) (f : is_full es t ≡ false) where
      none_some : (j : ℕ) → None ≡ Some j → ⊥
      none_some j e = cc

      true_false : true ≡ false → ⊥
      true_false e = cc

      pub fails_answers : (fault : TextFault) → FailsWith fault (read t) → AnswersIndex read (map_trees view es) t (Err fault) (map_trees view es)
      fails_answers fault g = record {
        there = λ j p. absurd (none_some j (sym h ∙ sym (place_seen es t) ∙ p));
        full = λ p q. absurd (true_false (sym q ∙ full_seen es t ∙ f));
        added = λ p q. (g, refl);
      }

      pub passed_answers : (fault : TextFault) (res : Result (Option ℕ) TextFault) → IsErrAnd res (λ f. f ≡ fault)
          → FailsWith fault (read t) → AnswersIndex read (map_trees view es) t res (map_trees view es)
      passed_answers fault (Ok p) e g = absurd e
      passed_answers fault (Err f) e g = rw e (fails_answers fault g)

      pub added_answers : (new : Trees T) (tree : T) (entry_index : ℕ) → read t ≡ Ok (view tree)
          → entry_index ≡ length es → new ≡ es ++ (t, tree) ∷ []
          → AnswersIndex read (map_trees view es) t (Ok (Some entry_index)) (map_trees view new)
      added_answers new tree entry_index g n e = record {
        there = λ j p. absurd (none_some j (sym h ∙ sym (place_seen es t) ∙ p));
        full = λ p q. absurd (true_false (sym q ∙ full_seen es t ∙ f));
        added = λ p q. (n ∙ sym (length_seen es), view tree, g, ap (map_trees view) e ∙ map-append _ es ((t, tree) ∷ []));
      }
