use Rattle.std.proofs.Common.{◌≡◌, ◌++◌, ◌∷◌, [], Bor, List, ℕ, map, string_bytes, sym, ap, ◌∙◌, get_or, arith, rules}
use Rattle.std.proofs.Common.{tests}
use Rattle.std.specs.List.{list_any}
use Rattle.std.proofs.lemmas.List.{take_all}
use Rattle.std.proofs.lemmas.Iterator.{YieldsList-from_slice}
use Rattle.std.proofs.lemmas.Iterator.Search.{any_from_yields_List}
use Rattle.filetree.specs.Names.{is_hidden, names_of, text_of_names}
use Rattle.filetree.proofs.NameLemmas.{any-map, is_hidden-first, names_of-text, text_of_names-next}
use Rattle.filetree.proofs.names.Names.joined.Goals as goal

pub loop-name-preserved : goal.loop-name-preserved
loop-name-preserved c =
    let name : List ℕ = (get_or c.args.names.now c.loop-name.name-index record { ref_ptr = (0, 0); now = [] }).now in
    let added : string_bytes c.push_str.new.self ≡ _ ++ name = c.in_ok-push_str.ensures.bytes ∙ ap (λ l. l ++ name) c.loop-name.invariant in
    c.in_ok-push.ensures.bytes
    ∙ ap (λ l. string_bytes c.push_str.new.self ++ l) (c.in_ok-push.ensures.ascii (omega arith))
    ∙ ap (λ l. l ++ 0 ∷ []) added
    ∙ sym (text_of_names-next c.args.names.now c.loop-name.name-index _ c.loop-name-test.true)

pub returns : goal.returns
returns c =
    let names = c.args.names.now in
    let whole : string_bytes c.loop-name.text ≡ text_of_names (map (λ x. x.now) names) =
    c.loop-name.invariant ∙ ap (λ (ns : List (Bor (List ℕ))). text_of_names (map (λ x. x.now) ns)) (take_all c.loop-name.name-index names c.loop-name-test.false) in
    ap names_of whole ∙ names_of-text (map (λ x. x.now) names) c.requires.names

pub invariant_of-result : goal.invariant_of-result
invariant_of-result c =
    let names = c.args.names.now in
    let whole : string_bytes c.loop-name.text ≡ text_of_names (map (λ x. x.now) names) =
    c.loop-name.invariant ∙ ap (λ (ns : List (Bor (List ℕ))). text_of_names (map (λ x. x.now) ns)) (take_all c.loop-name.name-index names c.loop-name-test.false) in
    let same : names_of (string_bytes c.loop-name.text) ≡ map (λ x. x.now) names = ap names_of whole ∙ names_of-text (map (λ x. x.now) names) c.requires.names in
    record {
      hides_some =
          any_from_yields_List (λ (name : Bor (List ℕ)). is_hidden name.now) _ _ c.any.result c.any.ensures.ran
          (YieldsList-from_slice names c.iter.ensures.rest) (λ x b q k. search (rules, tests, is_hidden-first))
          ∙ any-map is_hidden names
          ∙ ap (list_any is_hidden) (sym same);
    }
