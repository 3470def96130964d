use Rattle.std.proofs.Common.{◌≡◌, ◌<◌, List, [], ◌∷◌, IfOk, length, refl, arith, subst}
use Rattle.std.proofs.lemmas.List.{length-map}
use Rattle.envvars.specs.Texts.{Text, texts_in, slice_texts}
use Rattle.envvars.specs.Fields.{without_repeats}
use Rattle.modules.proofs.entries.once.Goals as goal

-- a list of one text or none has no repetitions
few_once : (xs : List Text) → length xs < 2 → xs ≡ without_repeats xs
few_once [] h = refl
few_once (x ∷ []) h = refl
few_once (x ∷ y ∷ xs) h = absurd (omega arith)

pub returns-then-names-lt2 : goal.returns-then-names-lt2
returns-then-names-lt2 c =
    let few : length (slice_texts c.args.names.now) < 2 = omega (arith, length-map c.args.names.now (λ x. x.now), c.if-names-lt2.true) in
    subst (λ (xs : List Text). IfOk c.owned.result (λ v. texts_in v ≡ xs)) (few_once (slice_texts c.args.names.now) few) c.owned.ensures
