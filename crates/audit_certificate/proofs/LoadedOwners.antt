-- The loaded modules as owners of stacks, by their names.
use Rattle.std.proofs.Common.{◌≡◌, Bool, true, List, refl, sym, ap, ◌∙◌, subst, Option, Some, None, Result, Ok, Err}
use Rattle.std.proofs.Common.{IsTrue}
use Rattle.std.specs.Prelude.{IfOk}
use Rattle.std.specs.List.{list_all}
use Rattle.std.specs.Option.{option_map}
use Rattle.modulename.specs.ModuleName.{is_module_name}
use Rattle.envvars.specs.Texts.{Text}
use Rattle.envvars.specs.Environment.{Environment}
use Rattle.envstate.specs.stacks.StackVariables.{IsStackInOrder}
use Rattle.envstate.specs.loaded_list.Loaded.{Entry, names_of, loaded_in}
use Rattle.envstate.proofs.loaded_list.LoadedAgain.{good_names}
use Rattle.envstate.proofs.loaded_list.LoadedReadable.{loaded_readable}
use Rattle.reversal.specs.VariableUses.{VariableUse, Stacked}
use Rattle.audit_certificate.specs.Certificates.{AgreesWithUse}

some_names : (o : Option (List Entry)) (names : List Text) → Some names ≡ option_map names_of o → (entries : List Entry) × (o ≡ Some entries) × (names_of entries ≡ names)
some_names None names h = cc
some_names (Some xs) names h = (xs, refl, cc)

pub owners_spelled : (e : Environment) (names : List Text) → Some names ≡ option_map names_of (loaded_in e) → list_all is_module_name names ≡ true
owners_spelled e names h =
    let n = some_names (loaded_in e) names h in
    ap (list_all is_module_name) (sym n.2) ∙ good_names n.0 (loaded_readable e n.0 n.1).each

same_entries : (xs ys : List Entry) → (let o : Option (List Entry) = Some xs in o) ≡ Some ys → xs ≡ ys
same_entries xs ys h = cc

-- a stack agrees where it is in order with the owners that were read
pub agrees_stack : {E : Type 0} (r : Result Bool E) (e : Environment) (v w : Text) (u : VariableUse) (names : List Text) → Some names ≡ option_map names_of (loaded_in e) → u ≡ Stacked → w ≡ v
    → IfOk r (λ k. (IsTrue k → IsStackInOrder names e w) × (IsStackInOrder names e w → IsTrue k))
    → IfOk r (λ k. (IsTrue k → AgreesWithUse e v u) × (AgreesWithUse e v u → IsTrue k))
agrees_stack (Ok k) e v w u names read is same h =
    let n = some_names (loaded_in e) names read in
    let to : IsStackInOrder names e v → AgreesWithUse e v u =
    λ o. subst (λ (x : VariableUse). AgreesWithUse e v x) (sym is) (λ ys l. subst (λ (ns : List Text). IsStackInOrder ns e v) (sym n.2 ∙ ap names_of (same_entries n.0 ys (sym n.1 ∙ l))) o) in
    let from : AgreesWithUse e v u → IsStackInOrder names e v =
    λ a. let s : AgreesWithUse e v Stacked = subst (λ (x : VariableUse). AgreesWithUse e v x) is a in subst (λ (ns : List Text). IsStackInOrder ns e v) n.2 (s n.0 n.1) in (
      λ x. to (subst (λ (y : Text). IsStackInOrder names e y) same (h.0 x)),
      λ a. h.1 (subst (λ (y : Text). IsStackInOrder names e y) (sym same) (from a)),
    )
agrees_stack (Err x) e v w u names read is same h = tt
