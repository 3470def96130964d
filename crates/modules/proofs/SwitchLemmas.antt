-- A switch, by the old name that it takes.
use Rattle.std.proofs.Common.{◌≡◌, true, Option, Some, Result, subst}
use Rattle.envvars.specs.Texts.{Text}
use Rattle.filetree.specs.Relations.{Then}
use Rattle.requests.specs.Reasons.{RequestReason}
use Rattle.requests.specs.Looked.{SwitchLooksAt}
use Rattle.requests.specs.Steps.{RequestContext, Done, LoadsName, UnloadsName, Switches, old_name}

module _ (s : RequestContext) (asked : Option Text) (old new : Text) (is : old ≡ old_name asked new) (d d' : Done) (same : d ≡ d') where
  pub switches_old : (o : Result Done RequestReason) → Switches s (Some old) new d o → Switches s asked new d' o
  switches_old o h = subst (λ (n : Text). Then (UnloadsName s true n d') (LoadsName s true new) o) is (subst (λ x. Switches s (Some old) new x o) same h)

  pub switch_looks_old : (at : Text) → SwitchLooksAt s old new d at → SwitchLooksAt s (old_name asked new) new d' at
  switch_looks_old at h = subst (λ (n : Text). SwitchLooksAt s n new d' at) is (subst (λ x. SwitchLooksAt s old new x at) same h)
