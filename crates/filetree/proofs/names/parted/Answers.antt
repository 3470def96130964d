use Rattle.std.proofs.Common.{◌≡◌, ◌++◌, ◌==◌, ℕ, List, Bor, Bool, Ok, not, map, ap, ◌∙◌, filter, arith, rules, tests}
use Rattle.std.specs.List.{slice_split}
use Rattle.std.specs.Str.Iter.{split_text, split_has_more, split_pattern}
use Rattle.std.proofs.lemmas.Fn.{filter_same}
use Rattle.std.proofs.lemmas.Iterator.Adapters.{fact_from_extend}
use Rattle.std.proofs.lemmas.Iterator.Splits.{YieldsList-from_str_split}
use Rattle.filetree.specs.Modulefiles.{is_empty}
use Rattle.filetree.proofs.NameLemmas.{is_empty-length, map-kept}
use Rattle.filetree.proofs.names.parted.Goals as goal

pub returns : goal.returns
returns c =
    let p : List ℕ → Bool = λ name. not (is_empty name) in
    let pieces : map (λ x. x.now) c.extend.new.self.items ≡ slice_split (λ b. b == 0) c.args.text.now =
    fact_from_extend {E = Unit {0}} (λ (x : Bor (List ℕ)). x.now) (Ok tt) c.in_ok-extend.ensures.ran
    (λ it b. YieldsList-from_str_split 0 c.args.text.now (omega arith) (ap split_text b ∙ c.split.ensures.text)
    (ap split_has_more b ∙ c.split.ensures.has_more) (ap split_pattern b ∙ c.split.ensures.pattern))
    (λ xs e h. ap (map (λ (x : Bor (List ℕ)). x.now)) (h.0 ∙ ap (λ (old : List (Bor (List ℕ))). old ++ xs) c.in_ok-names.ensures.items) ∙ e) in
    ap (map (λ x. x.now)) (filter_same _ (λ y. p y.now) _ (λ x b g k. search (rules, tests, is_empty-length)) _ _ c.retain.ensures.filtered)
    ∙ (map-kept p c.extend.new.self.items ∙ ap (filter p) pieces)
