-- The users of each variable in a map, and one more of them.
use Rattle.std.proofs.Common.{◌≡◌, Bor, Bool, false, cond, List, [], sym, ap, ◌∙◌, subst, Option, Some}
use Rattle.std.specs.Prelude.{bytes_eq}
use Rattle.std.specs.Option.{option_map_or}
use Rattle.std.specs.HashMap.{UpdatesBy}
use Rattle.std.proofs.lemmas.Map.Text.{hash_map_updates_str}
use Rattle.indexmap.specs.IndexMap.{IndexMap, get_by}
use Rattle.envvars.specs.Texts.{Text}
use Rattle.envvars.proofs.TextLemmas.{bytes_eq-symmetric}
use Rattle.audit_certificate.specs.Candidates.{Candidate}
use Rattle.audit_certificate.specs.declared.uses.UsedVariable as code
use Rattle.audit_certificate.specs.UseViews.{used_view}
use Rattle.std.specs.List.{list_any}
use Rattle.audit_certificate.specs.Users.{ModuleUse, HasOneMore, Enters, do_users_clash}
use Rattle.audit_certificate.specs.Tables.{users_in}
use Rattle.audit_certificate.specs.declared.variables.VariableUsers.{VariableUsers}

-- the users of a variable in the map
abbrev pub users_of : {S : Type 0} → IndexMap (Bor Text) VariableUsers S → Text → List ModuleUse
users_of m v = option_map_or (λ users. users_in users.ways.items) (get_by (λ k. bytes_eq v k.now) m) []

module _ {S : Type 0} (m n : IndexMap (Bor Text) VariableUsers S) (v : Text) (w : VariableUsers) (updates : UpdatesBy (λ x y. bytes_eq x.now y.now) (λ k. bytes_eq v k.now) m n (Some w)) where
  at_variable : users_of n v ≡ users_in w.ways.items
  at_variable = ap (λ (o : Option VariableUsers). option_map_or (λ users. users_in users.ways.items) o []) updates.1

  at_others : (x : Text) → bytes_eq x v ≡ false → users_of n x ≡ users_of m x
  at_others x e =
      ap (λ (o : Option VariableUsers). option_map_or (λ users. users_in users.ways.items) o [])
      (hash_map_updates_str v m n (Some w) updates x ∙ ap (λ (b : Bool). cond b (Some w) (get_by (λ k. bytes_eq x k.now) m)) (bytes_eq-symmetric v x ∙ e))

  pub user_entered : (u : ModuleUse) → v ≡ u.used.0 → HasOneMore (users_of m v) (users_in w.ways.items) u → Enters (users_of m) (users_of n) u
  user_entered u e h = record {
    own = subst (λ (x : Text). HasOneMore (users_of m x) (users_of n x) u) e (subst (λ (ys : List ModuleUse). HasOneMore (users_of m v) ys u) (sym at_variable) h);
    others = λ x k. at_others x (ap (bytes_eq x) e ∙ k);
  }

-- the users of a variable that is in the map
pub users_found : {S : Type 0} (m : IndexMap (Bor Text) VariableUsers S) (v : Text) (old : VariableUsers) → (let o : Option VariableUsers = Some old in o) ≡ get_by (λ k. bytes_eq v k.now) m
    → users_in old.ways.items ≡ users_of m v
users_found m v old e = ap (λ (o : Option VariableUsers). option_map_or (λ users. users_in users.ways.items) o []) e

-- a use of a module in the code
abbrev pub use_of : Candidate → code.UsedVariable → ModuleUse
use_of m p = record { owner = m; used = used_view p }

-- whether one of some users clashes with a user of its variable
abbrev pub some_clash : (Text → List ModuleUse) → List ModuleUse → Bool
some_clash users xs = list_any (λ x. list_any (do_users_clash x) (users x.used.0)) xs
