-- Directories of a site, joined.
use Rattle.std.proofs.Common.{◌≡◌, ◌<◌, ◌+◌, ℕ, Bor, not, List, [], ◌∷◌, ◌++◌, drop, filter, get_or, length, map, refl, ap, sym, ◌∙◌}
use Rattle.std.proofs.lemmas.List.{append_assoc, drop_more}
use Rattle.envvars.specs.Texts.{slice_texts}
use Rattle.std.specs.List.{join_with_byte}
use Rattle.message.specs.Messages.{Text}
use Rattle.module_words.specs.function.Sites.{directories, directory, is_empty, with_directory}

-- a text with directories behind it
abbrev pub with_all : Text → List Text → Text
with_all [] others = join_with_byte 58 others
with_all (b ∷ joined) [] = b ∷ joined
with_all (b ∷ joined) (other ∷ others) = (b ∷ joined) ++ 58 ∷ join_with_byte 58 (other ∷ others)

-- those that aren't empty
abbrev pub filled : List Text → List Text
filled texts = filter (λ t. not (is_empty t)) texts

one_more : (joined : Text) (b : ℕ) (one : Text) (others : List Text) → with_all (with_directory joined (b ∷ one)) others ≡ with_all joined ((b ∷ one) ∷ others)
one_more [] b one [] = refl
one_more [] b one (other ∷ others) = refl
one_more (c ∷ joined) b one [] = refl
one_more (c ∷ joined) b one (other ∷ others) = append_assoc (c ∷ joined) (58 ∷ b ∷ one) (58 ∷ join_with_byte 58 (other ∷ others))

-- the first of the directories is added, then the others
pub with_first : (joined one : Text) (others : List Text) → with_all (with_directory joined one) (filled others) ≡ with_all joined (filled (one ∷ others))
with_first joined [] others = refl
with_first joined (b ∷ one) others = one_more joined b one (filled others)

-- the next of some lines
pub line_turn : (lines : List (Bor Text)) (i : ℕ) (d : Bor Text) (old new all : Text) → i < length lines → new ≡ with_directory old (directory (get_or lines i d).now)
    → with_all old (directories (slice_texts (drop i lines))) ≡ all → with_all new (directories (slice_texts (drop (i + 1) lines))) ≡ all
line_turn lines i d old new all below is h =
    rw is (with_first old (directory (get_or lines i d).now) (map directory (slice_texts (drop (i + 1) lines))))
    ∙ (ap (λ rest. with_all old (directories (slice_texts rest))) (sym (drop_more lines i d below)) ∙ h)
