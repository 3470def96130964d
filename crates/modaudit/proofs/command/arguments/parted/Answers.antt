use Rattle.std.proofs.Common.{◌≡◌, true, false, [], ◌∷◌, List, Option, map, string_bytes, String, Global, ◌∙◌, sym, ap, refl}
use Rattle.modaudit.specs.command.Arguments.{PartedWords, is_without, parted}
use Rattle.modaudit.specs.command.ArgumentViews.{parted_view}
use Rattle.modaudit.proofs.command.PartedLemmas.{before, kept, named, nameless, at_end, behind, first_and_rest, none_left}
use Rattle.modaudit.proofs.command.arguments.parted.Goals as goal

abbrev seen : PartedWords → List (String Global) → Option PartedWords
seen p words = before p (parted (map (λ (s : String Global). string_bytes s) words))

pub loop-rest-preserved-then-not-is_without : goal.loop-rest-preserved-then-not-is_without
loop-rest-preserved-then-not-is_without c =
    let p : PartedWords = parted_view c.loop-rest.parted in
    let rest = c.loop-rest.rest.now in
    let word = c.word-item.result in
    let no : is_without (string_bytes word) ≡ false = ap is_without (sym c.as_str.ensures.value) ∙ (sym c.is_without.ensures ∙ c.if-not-is_without.true) in
    sym (kept p _ (string_bytes word) (map (λ (s : String Global). string_bytes s) (behind rest)) no refl c.in_ok-push_word.ensures)
    ∙ (ap (seen p) (sym (first_and_rest rest word c.in-len1-up.len_at_least c.word-item.is)) ∙ c.loop-rest.invariant)

pub returns-in_default-later : goal.returns-in_default-later
returns-in_default-later c =
    let p : PartedWords = parted_view c.loop-rest.parted in
    let rest = c.loop-rest.rest.now in
    let word = c.word-item.result in
    let yes : is_without (string_bytes word) ≡ true = ap is_without (sym c.as_str.ensures.value) ∙ (sym c.is_without.ensures ∙ c.if-not-is_without.false) in
    let only : rest ≡ word ∷ [] = first_and_rest rest word c.in-len1-up.len_at_least c.word-item.is ∙ ap (λ (l : List (String Global)). word ∷ l) (none_left (behind rest) c.in_default-later.len_below) in
    sym (nameless p (string_bytes word) yes) ∙ (ap (seen p) (sym only) ∙ c.loop-rest.invariant)

pub loop-rest-preserved : goal.loop-rest-preserved
loop-rest-preserved c =
    let p : PartedWords = parted_view c.loop-rest.parted in
    let rest = c.loop-rest.rest.now in
    let word = c.word-item.result in
    let name = c.name-item.result in
    let yes : is_without (string_bytes word) ≡ true = ap is_without (sym c.as_str.ensures.value) ∙ (sym c.is_without.ensures ∙ c.if-not-is_without.false) in
    let two : rest ≡ word ∷ name ∷ behind (behind rest) =
    first_and_rest rest word c.in-len1-up.len_at_least c.word-item.is
    ∙ ap (λ (l : List (String Global)). word ∷ l) (first_and_rest (behind rest) name c.in-len1-up-later.len_at_least c.name-item.is) in
    sym (named p _ (string_bytes word) (string_bytes name) (map (λ (s : String Global). string_bytes s) (behind (behind rest))) yes c.in_ok-push_word-2.ensures refl)
    ∙ (ap (seen p) (sym two) ∙ c.loop-rest.invariant)

pub returns : goal.returns
returns c =
    let p : PartedWords = parted_view c.loop-rest.parted in
    sym (at_end p) ∙ (ap (seen p) (sym (none_left c.loop-rest.rest.now c.in_default.len_below)) ∙ c.loop-rest.invariant)
