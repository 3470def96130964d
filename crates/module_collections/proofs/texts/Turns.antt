-- Turns of the loops over bytes, words and lines: what is left, read from here, gives what the whole gives.
use Rattle.std.proofs.Common.{◌≡◌, ℕ, ◌+◌, ◌<◌, ◌≤◌, List, [], ◌∷◌, ◌||◌, Bool, Bor, String, Global, refl, sym, ap, subst, ◌∙◌, Result, Ok, Err, Option, Some, None, IfSome, get_or, drop, length, map}
use Rattle.std.proofs.lemmas.List.{drop_more, drop_all}
use Rattle.envvars.specs.Texts.{Text, slice_texts}
use Rattle.envstate.specs.declared.paths.adding.End.{End}
use Rattle.std.specs.Prelude.{string_bytes}
use Rattle.std.specs.List.{list_any}
use Rattle.module_collections.specs.declared.texts.words.Word as code
use Rattle.module_collections.specs.texts.Views.{numbered}
use Rattle.module_collections.specs.texts.WordViews.{word_view}
use Rattle.module_collections.specs.texts.Words.{Word, Reading, words_on, words_from, step_at, end_at}
use Rattle.module_collections.specs.texts.Lines.{Kept, LineReason, onward, used_at, end_named, with_used, loaded_at, with_loaded, with_line}
use Rattle.module_collections.specs.texts.Collections.{CollectionReason, bad_line, in_line, with_lines}
use Rattle.module_collections.specs.declared.texts.words.WordFault.{WordFault}

-- a test of the texts of strings
pub any_mapped : (p : Text → Bool) (xs : List (String Global)) → list_any (λ s. p (string_bytes s)) xs ≡ list_any p (map string_bytes xs)
any_mapped p [] = refl
any_mapped p (x ∷ xs) = ap (λ (b : Bool). p (string_bytes x) || b) (any_mapped p xs)

-- a byte
words_at : (text : Text) (i d : ℕ) (r : Reading) (outcome : Result Reading WordFault) → i < length text → step_at r.place r (get_or text i d) ≡ outcome
    → words_from (drop i text) r ≡ words_on (λ s. words_from (drop (i + 1) text) s) outcome
words_at text i d r outcome l e = ap (λ (t : Text). words_from t r) (drop_more text i d l) ∙ ap (words_on (λ s. words_from (drop (i + 1) text) s)) e

pub words_turn : (text : Text) (i d : ℕ) (r s : Reading) (all : Result (List Word) WordFault) → i < length text → step_at r.place r (get_or text i d) ≡ Ok s
    → words_from (drop i text) r ≡ all → words_from (drop (i + 1) text) s ≡ all
words_turn text i d r s all l e h = sym (words_at text i d r (Ok s) l e) ∙ h

pub words_stop : (text : Text) (i d : ℕ) (r : Reading) (all : Result (List Word) WordFault) (wrong : Option WordFault) → i < length text
    → IfSome wrong (λ fault. step_at r.place r (get_or text i d) ≡ Err fault) → words_from (drop i text) r ≡ all → IfSome wrong (λ fault. all ≡ Err fault)
words_stop text i d r all None l e h = tt
words_stop text i d r all (Some fault) l e h = sym h ∙ words_at text i d r (Err fault) l e

-- a line that is wrong
pub line_refused : (number : ℕ) (kept : Kept) (shown line : Text) (of_line : Option LineReason) (of_all : Option CollectionReason) → shown ≡ line → of_all ≡ numbered number of_line
    → IfSome of_line (λ reason. with_line kept shown ≡ Err reason) → IfSome of_all (λ reason. in_line number (with_line kept line) ≡ Err reason)
line_refused number kept shown line None of_all same e h = subst (λ (o : Option CollectionReason). IfSome o (λ reason. in_line number (with_line kept line) ≡ Err reason)) (sym e) tt
line_refused number kept shown line (Some r) of_all same e h =
    subst (λ (o : Option CollectionReason). IfSome o (λ reason. in_line number (with_line kept line) ≡ Err reason)) (sym e)
    (ap (λ (t : Text). in_line number (with_line kept t)) (sym same) ∙ ap (in_line number) h)

-- a line
lines_at : (lines : List (Bor Text)) (i number : ℕ) (d : Bor Text) (kept : Kept) (outcome : Result Kept CollectionReason) → i < length lines
    → in_line number (with_line kept (get_or lines i d).now) ≡ outcome
    → with_lines (slice_texts (drop i lines)) number kept ≡ onward (λ found. with_lines (slice_texts (drop (i + 1) lines)) (number + 1) found) outcome
lines_at lines i number d kept outcome l e =
    ap (λ (t : List (Bor Text)). with_lines (slice_texts t) number kept) (drop_more lines i d l)
    ∙ ap (onward (λ found. with_lines (slice_texts (drop (i + 1) lines)) (number + 1) found)) e

pub lines_turn : (lines : List (Bor Text)) (i number : ℕ) (d : Bor Text) (kept new : Kept) (all : Result Kept CollectionReason) → i < length lines
    → in_line number (with_line kept (get_or lines i d).now) ≡ Ok new
    → with_lines (slice_texts (drop i lines)) number kept ≡ all → with_lines (slice_texts (drop (i + 1) lines)) (number + 1) new ≡ all
lines_turn lines i number d kept new all l e h = sym (lines_at lines i number d kept (Ok new) l e) ∙ h

pub lines_stop : (lines : List (Bor Text)) (i number : ℕ) (d : Bor Text) (kept : Kept) (all : Result Kept CollectionReason) (wrong : Option CollectionReason) → i < length lines
    → IfSome wrong (λ reason. in_line number (with_line kept (get_or lines i d).now) ≡ Err reason) → with_lines (slice_texts (drop i lines)) number kept ≡ all
    → IfSome wrong (λ reason. all ≡ Err reason)
lines_stop lines i number d kept all None l e h = tt
lines_stop lines i number d kept all (Some reason) l e h = sym h ∙ lines_at lines i number d kept (Err reason) l e

-- a word of `module use`
used_on : (words : List code.Word) (i : ℕ) (s : code.Word) (end : End) (kept : Kept) (outcome : Result (End × Kept) LineReason) → i < length words → s ≡ get_or words i s
    → used_at (end_named (word_view s)) (string_bytes s.text) end kept ≡ outcome
    → with_used (map word_view (drop i words)) end kept ≡ onward (λ found. with_used (map word_view (drop (i + 1) words)) found.0 found.1) outcome
used_on words i s end kept outcome l is e =
    ap (λ (ws : List code.Word). with_used (map word_view ws) end kept) (drop_more words i s l ∙ ap (λ (w : code.Word). w ∷ drop (i + 1) words) (sym is))
    ∙ ap (onward (λ found. with_used (map word_view (drop (i + 1) words)) found.0 found.1)) e

pub used_turn : (words : List code.Word) (i : ℕ) (s : code.Word) (end other : End) (kept new : Kept) (all : Result Kept LineReason) → i < length words → s ≡ get_or words i s
    → used_at (end_named (word_view s)) (string_bytes s.text) end kept ≡ Ok (other, new)
    → with_used (map word_view (drop i words)) end kept ≡ all → with_used (map word_view (drop (i + 1) words)) other new ≡ all
used_turn words i s end other kept new all l is e h = sym (used_on words i s end kept (Ok (other, new)) l is e) ∙ h

pub used_stop : (words : List code.Word) (i : ℕ) (s : code.Word) (end : End) (kept : Kept) (all : Result Kept LineReason) (wrong : Option LineReason) → i < length words → s ≡ get_or words i s
    → IfSome wrong (λ reason. used_at (end_named (word_view s)) (string_bytes s.text) end kept ≡ Err reason)
    → with_used (map word_view (drop i words)) end kept ≡ all → IfSome wrong (λ reason. all ≡ Err reason)
used_stop words i s end kept all None l is e h = tt
used_stop words i s end kept all (Some reason) l is e h = sym h ∙ used_on words i s end kept (Err reason) l is e

-- a word of `module load`
loaded_on : (words : List code.Word) (i : ℕ) (s : code.Word) (kept : Kept) (outcome : Result Kept LineReason) → i < length words → s ≡ get_or words i s
    → loaded_at (word_view s) kept ≡ outcome
    → with_loaded (map word_view (drop i words)) kept ≡ onward (λ found. with_loaded (map word_view (drop (i + 1) words)) found) outcome
loaded_on words i s kept outcome l is e =
    ap (λ (ws : List code.Word). with_loaded (map word_view ws) kept) (drop_more words i s l ∙ ap (λ (w : code.Word). w ∷ drop (i + 1) words) (sym is))
    ∙ ap (onward (λ found. with_loaded (map word_view (drop (i + 1) words)) found)) e

pub loaded_turn : (words : List code.Word) (i : ℕ) (s : code.Word) (kept new : Kept) (all : Result Kept LineReason) → i < length words → s ≡ get_or words i s
    → loaded_at (word_view s) kept ≡ Ok new
    → with_loaded (map word_view (drop i words)) kept ≡ all → with_loaded (map word_view (drop (i + 1) words)) new ≡ all
loaded_turn words i s kept new all l is e h = sym (loaded_on words i s kept (Ok new) l is e) ∙ h

pub loaded_stop : (words : List code.Word) (i : ℕ) (s : code.Word) (kept : Kept) (all : Result Kept LineReason) (wrong : Option LineReason) → i < length words → s ≡ get_or words i s
    → IfSome wrong (λ reason. loaded_at (word_view s) kept ≡ Err reason)
    → with_loaded (map word_view (drop i words)) kept ≡ all → IfSome wrong (λ reason. all ≡ Err reason)
loaded_stop words i s kept all None l is e h = tt
loaded_stop words i s kept all (Some reason) l is e h = sym h ∙ loaded_on words i s kept (Err reason) l is e

-- at the end nothing is left
pub words_end : (text : Text) (i : ℕ) (r : Reading) (all : Result (List Word) WordFault) → length text ≤ i → words_from (drop i text) r ≡ all → end_at r.place r ≡ all
words_end text i r all l h = sym (ap (λ (t : Text). words_from t r) (drop_all i text l)) ∙ h

pub used_end : (words : List code.Word) (i : ℕ) (end : End) (kept : Kept) (all : Result Kept LineReason) → length words ≤ i → with_used (map word_view (drop i words)) end kept ≡ all → all ≡ Ok kept
used_end words i end kept all l h = sym (sym (ap (λ (ws : List code.Word). with_used (map word_view ws) end kept) (drop_all i words l)) ∙ h)

pub loaded_end : (words : List code.Word) (i : ℕ) (kept : Kept) (all : Result Kept LineReason) → length words ≤ i → with_loaded (map word_view (drop i words)) kept ≡ all → all ≡ Ok kept
loaded_end words i kept all l h = sym (sym (ap (λ (ws : List code.Word). with_loaded (map word_view ws) kept) (drop_all i words l)) ∙ h)

pub lines_end : (lines : List (Bor Text)) (i number : ℕ) (kept : Kept) (all : Result Kept CollectionReason) → length lines ≤ i → with_lines (slice_texts (drop i lines)) number kept ≡ all
    → all ≡ Ok kept
lines_end lines i number kept all l h = sym (sym (ap (λ (ls : List (Bor Text)). with_lines (slice_texts ls) number kept) (drop_all i lines l)) ∙ h)
