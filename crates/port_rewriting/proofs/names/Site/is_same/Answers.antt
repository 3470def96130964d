use Rattle.std.proofs.Common.{◌≡◌, ◌+◌, ◌∙◌, true, false, List, map, take, subst, sym, string_bytes}
use Rattle.std.specs.Prelude.{String}
use Rattle.std.specs.declared.alloc.Global.{Global}
use Rattle.tcltext.specs.chars.Runs.{Text}
use Rattle.modulename.specs.ModuleName.{means}
use Rattle.port_rewriting.specs.AskingViews.{is_meant, Covers}
use Rattle.port_rewriting.proofs.Covering.{next_module}
use Rattle.port_rewriting.proofs.names.Site.is_same.Goals as goal
use Rattle.port_rewriting.proofs.names.Site.is_same.Goals.{else-is_meant-via-then-is_meant+else-not-means, else-is_meant-via-else-is_meant}

pub loop-own-preserved : goal.loop-own-preserved
loop-own-preserved c =
    let meant = is_meant c.args.self.now c.args.name.now in
    let met = means c.args.name.now in
    let index = c.loop-own.own-index in
    let same : c.deref-own-items.result.now ≡ c.args.self.now.modules.items = c.deref-own-items.ensures.value in
    subst (λ (ms : List (String Global)). Covers meant (map string_bytes (take (index + 1) ms)) met) same
    (next_module meant c.deref-own-items.result.now index c.own-item.result met met c.loop-own-test.true c.own-item.is
    (subst (λ (ms : List (String Global)). Covers meant (map string_bytes (take index ms)) met) (sym same) c.loop-own.invariant)
    (λ x h. h)
    (elim c.else-is_meant.branch [
      | else-is_meant-via-then-is_meant+else-not-means w ↦ λ h.
          subst (λ (t : Text). met t ≡ true) w.as_str-then-is_meant.ensures.value (sym w.means.ensures ∙ w.if-not-means.false)
      | else-is_meant-via-else-is_meant w ↦ λ h.
          let never : true ≡ false = sym (c.is_meant.ensures (subst (λ (t : Text). meant t ≡ true) (sym c.as_str.ensures.value) h)) ∙ w.if-is_meant.false in cc
    ]))
